-- The command line is simple, and none of its words has a rule on another.
use Rattle.std.specs.Prelude.{◌≡◌, true, refl}
use Rattle.clap.specs.Words.{is_simple, is_simple_and_free}
use Rattle.clap.proofs.OnLiterals.{clap_on_literals}
use Rattle.ftd_cli.specs.Apps.{ftd_app, program, with_names}
use Rattle.ftd_cli.specs.Table.{all_names}

pub whole : with_names program all_names ≡ ftd_app
unfolding ftd_app
whole = refl

pub simple : is_simple ftd_app ≡ true
unfolding ftd_app with_names clap_on_literals
simple = refl

pub free : is_simple_and_free ftd_app ≡ true
unfolding ftd_app with_names clap_on_literals
free = refl
