use Rattle.std.proofs.Common.{[], refl, arith}
use Rattle.std.proofs.KnownBytes.{Appends-nil}
use Rattle.ftd_connections.specs.Serving.{unasked}
use Rattle.ftd_connections.specs.declared.connection.Cause.TheVariants as why
use Rattle.ftd_connections.proofs.ServeFacts.{begins, breaks_in}
use Rattle.ftd_connections.proofs.connection.serve_machine.Goals as goal

pub returns-in_default-clause-err : goal.returns-in_default-clause-err
returns-in_default-clause-err g c =
    rw c.failed.ensures
    (breaks_in g.M.Machine.goes _ _ _ _ _ _ _ _ _ _ [] [] 0 why.Memory
    (begins g.M.Machine.goes c.args.machine.now (g.R.Source.left c.args.source.now)
    (g.W.Target.taken c.args.target.now))
    (unasked why.Memory refl) (Appends-nil (g.W.Target.taken c.args.target.now)) tt)

pub messages-init : goal.messages-init
messages-init g c = record {
  few = omega arith;
  talk = rw c.new-buf.ensures.items (begins g.M.Machine.goes c.args.machine.now
      (g.R.Source.left c.args.source.now) (g.W.Target.taken c.args.target.now));
}
