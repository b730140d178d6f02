use Rattle.ftd_cli.proofs.AppFacts.{names_next}
use Rattle.ftd_cli.proofs.command.with_all.Goals as goal

pub loop-name-preserved : goal.loop-name-preserved
loop-name-preserved c = record {
  app = names_next _ _ _ _ _ _ _ c.loop-name-test.true c.in_ok-command.ensures.app
      c.in_ok-command_of.ensures.app c.loop-name.invariant.app;
  local = c.in_ok-command.ensures.local;
}
