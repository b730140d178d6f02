use Rattle.std.proofs.Common.{sym, ◌∙◌}
use Rattle.ftd_cli.proofs.parse.parse.Goals as goal

pub returns-in-Ok-try_get_matches_from : goal.returns-in-Ok-try_get_matches_from
returns-in-Ok-try_get_matches_from c =
    let reads = c.in-Ok.ensures.app in (
      sym reads.faults ∙ c.in-Ok-try_get_matches_from.ensures.kinds reads.free,
      (c.in-Ok-try_get_matches_from.ensures.matches reads.simple).1 ∙ reads.called,
    )

pub returns-in-Err : goal.returns-in-Err
returns-in-Err c =
    let reads = c.in-Ok.ensures.app in
    rw (← reads.faults) (c.fault_from.ensures _ (c.in-Err.ensures.kinds reads.free))
