use Rattle.std.proofs.Common.{◌≡◌, drop, false}
use Rattle.clap.specs.Words.{app_of}
use Rattle.clap.specs.declared.builder.command.Command.TheViews.{out-Command}
use Rattle.ftd_cli.specs.Apps.{with_names}
use Rattle.ftd_cli.proofs.command.with_all.Given as goal

abbrev pub invariant-loop-name : goal.invariant-loop-name
invariant-loop-name l = record {
  app : with_names (app_of l.command) (drop l.name-index l.names) ≡ with_names
      (app_of l.initial.command) l.names;
  local : (out-Command l.command).has_globals ≡ false;
}
