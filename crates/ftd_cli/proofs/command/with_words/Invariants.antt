use Rattle.std.proofs.Common.{◌≡◌, drop, false}
use Rattle.clap.specs.Words.{app_of}
use Rattle.clap.specs.declared.builder.command.Command.TheViews.{out-Command}
use Rattle.ftd_cli.specs.Apps.{with_words}
use Rattle.ftd_cli.proofs.command.with_words.Given as goal

abbrev pub invariant-loop-word : goal.invariant-loop-word
invariant-loop-word l = record {
  app : with_words (app_of l.command) (drop l.word-index l.words) ≡ with_words
      (app_of l.initial.command) l.words;
  local : (out-Command l.command).has_globals ≡ false;
}
