-- Which words the command line takes.
use Rattle.std.specs.Prelude.{◌≡◌, List, [], Result, Ok, Err, ⊤, true}
use Rattle.clap.specs.Words.{App, IsAmong, Kinds, Text, fault_of, is_simple, is_simple_and_free}
use Rattle.clap.specs.Words.{kind_of, subcommand_of}
use Rattle.clap.specs.Words.{subcommand_rows_of}
use Rattle.clap.specs.declared.ArgMatches.{ArgMatches}
use Rattle.ftd_cli.specs.Apps.{ftd_app}
use Rattle.ftd_cli.specs.declared.parse.ParseFault.{ParseFault}
use Rattle.ftd_cli.specs.declared.parse.ParseFault.TheVariants as fault

-- a fault that tells one of these, or that memory ran out
abbrev pub FaultIn : ParseFault → Kinds → Type 0
FaultIn fault.Memory kinds = ⊤
FaultIn (fault.Refused e) kinds = IsAmong (kind_of e) kinds

-- a command line that makes of these words what the whole one makes of them
pub record ReadsAsWhole (app : App) (words : List Text) : Type 0 where
  pub simple : is_simple app ≡ true
  pub free : is_simple_and_free app ≡ true
  pub faults : fault_of app words ≡ fault_of ftd_app words
  pub called : subcommand_of app words ≡ subcommand_of ftd_app words

-- words with no fault, as the command line gives them to its arguments; or one of their faults
abbrev pub ParseGives : Result ArgMatches ParseFault → List Text → Type 0
ParseGives (Ok m) words =
    (fault_of ftd_app words ≡ []) × (subcommand_rows_of m ≡ subcommand_of ftd_app words)
ParseGives (Err f) words = FaultIn f (fault_of ftd_app words)
