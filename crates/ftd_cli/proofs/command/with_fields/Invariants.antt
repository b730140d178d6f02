use Rattle.std.proofs.Common.{◌≡◌, drop, false}
use Rattle.clap.specs.Words.{app_of}
use Rattle.clap.specs.declared.builder.command.Command.TheViews.{out-Command}
use Rattle.ftd_cli.specs.Apps.{with_fields}
use Rattle.ftd_cli.proofs.command.with_fields.Given as goal

abbrev pub invariant-loop-field : goal.invariant-loop-field
invariant-loop-field l = record {
  app : with_fields (app_of l.command) (drop l.field-index l.fields) ≡ with_fields
      (app_of l.initial.command) l.fields;
  local : (out-Command l.command).has_globals ≡ false;
}
