use Rattle.std.proofs.Common.{ap, sym}
use Rattle.ftd_machine.specs.State.{begins_as, first_beginning}
use Rattle.ftd_sound.proofs.InForce.{latest_last}
use Rattle.ftd_sound.proofs.starts.in_force.Goals as goal

pub returns-in-Some : goal.returns-in-Some
returns-in-Some c =
    ap (begins_as c.args.account) (sym (latest_last (first_beginning c.args.account)
    c.args.moves.now c.in-Some.beginning.now c.in-Some.ensures.value))
