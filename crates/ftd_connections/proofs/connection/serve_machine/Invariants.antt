use Rattle.std.proofs.Common.{◌<◌, ◌-◌}
use Rattle.ftd_connections.specs.Serving.{Talk}
use Rattle.ftd_connections.proofs.connection.serve_machine.Given as goal

abbrev pub invariant-messages : goal.invariant-messages
invariant-messages g l = record {
  few : l.answered < 100;
  talk : Talk g.M.Machine.goes l.fn.machine l.machine (g.R.Source.left l.fn.source)
      (g.R.Source.left l.source)
      (g.W.Target.taken l.fn.target) (g.W.Target.taken l.target) l.buf.items l.answered;
}

abbrev pub decreases-messages : goal.decreases-messages
decreases-messages g l = 100 - l.answered
