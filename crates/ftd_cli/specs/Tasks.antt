-- What the words of a command line ask.
use Rattle.std.specs.Prelude.{◌≡◌, ◌⊎◌, ℕ, List, [], ◌∷◌, Option, Some, None, Result, Ok, Err, ⊤}
use Rattle.std.specs.Prelude.{◌&&◌, Bool, true, false, IsTrue}
use Rattle.std.specs.List.{find}
use Rattle.std.specs.Str.{bytes_eq}
use Rattle.std.specs.String.{string_bytes}
use Rattle.std.specs.Option.{is_none}
use Rattle.clap.specs.Words.{IsAmong, Kinds, Row, Text, fault_of, first_of, subcommand_of}
use Rattle.clap.specs.declared.error.ErrorKind.{ErrorKind}
use Rattle.clap.specs.declared.error.ErrorKind.TheVariants as kind
use Rattle.ftd_verbs.specs.declared.field.Field.TheVariants as field
use Rattle.ftd_cli.specs.Apps.{ftd_app}
use Rattle.ftd_cli.specs.Asking.{Wanted, ask, ask_next, backup, check, import, journal}
use Rattle.ftd_cli.specs.Asking.{open_years, plain}
use Rattle.ftd_cli.specs.Asking.{serve, settle, shell, then_with, wanted_of}
use Rattle.ftd_cli.specs.Escapes.{escaped, escaped_word}
use Rattle.ftd_cli.specs.Table.{all_names, may_be_today, name_text, word_text}
use Rattle.ftd_cli.specs.Values.{bad_value, text_in, whole_in}
use Rattle.ftd_cli.specs.declared.fault.WordFault.{WordFault}
use Rattle.ftd_cli.specs.declared.fault.WordFault.TheVariants as values
use Rattle.ftd_cli.specs.declared.table.Name.{Name}
use Rattle.ftd_cli.specs.declared.table.Word.{Word}
use Rattle.ftd_cli.specs.declared.table.Word.TheVariants as word
use Rattle.ftd_cli.specs.declared.tasks.CliFault.{CliFault}
use Rattle.ftd_cli.specs.declared.tasks.CliFault.TheVariants as fault
use Rattle.ftd_cli.specs.declared.tasks.Job.{Job}
use Rattle.ftd_cli.specs.declared.tasks.Job.TheVariants as job
use Rattle.ftd_cli.specs.declared.tasks.Task.{Task}
use Rattle.ftd_cli.specs.declared.tasks.Task.TheVariants as task

-- the subcommand that is written so
unfoldable pub command_named : Text → Option Name
command_named text = find (λ name. bytes_eq (name_text name) text) all_names

-- the subcommand that words name, of which the first is the program's name
abbrev pub named_command : List Text → Option Name
named_command [] = None
named_command (first ∷ []) = None
named_command (first ∷ text ∷ rest) = command_named text

-- what the subcommand of this name asks with these values on this day
abbrev pub wanted_as : Option ℕ → Option Name → List Row → Result Wanted WordFault
wanted_as today None rows = Err values.NoCommand
wanted_as today (Some name) rows = wanted_of today name rows

unfoldable pub wanted_in : Option ℕ → Option (Text × List Row) → Result Wanted WordFault
wanted_in today None = Err values.NoCommand
wanted_in today (Some called) = wanted_as today (command_named called.0) called.1

-- why words ask nothing: `clap` finds these faults in them, or their values ask nothing
pub data Refused : Type 0 where
  words : Kinds → Refused
  value : WordFault → Refused

abbrev pub by_value : Result Wanted WordFault → Result Wanted Refused
by_value (Ok wanted) = Ok wanted
by_value (Err f) = Err (value f)

abbrev pub without_fault : Kinds → Result Wanted WordFault → Result Wanted Refused
without_fault [] said = by_value said
without_fault (k ∷ kinds) said = Err (words (k ∷ kinds))

-- what the words ask, of which the first is the program's name, where this day is today, if that is
-- known. They go to the arguments as `clap` assigns those of the command line of the table.
unfoldable pub task_of : Option ℕ → List Text → Result Wanted Refused
task_of today given =
    without_fault (fault_of ftd_app given) (wanted_in today (subcommand_of ftd_app given))

-- what a task stands for
abbrev pub job_view : Text → ℕ → Job → Wanted
job_view db wait (job.Import sheet file is_trial) =
    import db wait sheet is_trial (string_bytes file)
job_view db wait (job.Ask format request) = ask db wait format request
job_view db wait (job.AskNext request) = ask_next db wait request
job_view db wait (job.OpenYears year) = open_years db wait year
job_view db wait (job.Settle asked) = settle db wait asked.account asked.due asked.paid
job_view db wait (job.Journal account) = journal db wait account
job_view db wait job.Check = check db wait

-- the job, with the desk in the database
abbrev pub in_database : List Row → Job → Result Wanted WordFault
in_database rows asked =
    then_with (text_in word.Db rows) (λ db.
    then_with (whole_in word.Wait rows) (λ wait.
    Ok (job_view db wait asked)))

abbrev pub task_view : Task → Wanted
task_view (task.Plain asked) = plain asked.account asked.year asked.holidays
task_view (task.Serve asked) =
    serve (string_bytes asked.db) asked.wait asked.port asked.connections asked.idle asked.silence
    asked.duration asked.is_unchecked
task_view (task.Shell asked) =
    shell (string_bytes asked.db) asked.wait (string_bytes asked.script) asked.has_echo
    asked.has_stop
task_view (task.Backup asked) =
    backup (string_bytes asked.db) asked.wait (string_bytes asked.copy)
task_view (task.Local local) = job_view (string_bytes local.db) local.wait local.job

-- help or the version is asked for
abbrev pub AsksHelp : ErrorKind → Type 0
AsksHelp k = (k ≡ kind.DisplayHelp) ⊎ (k ≡ kind.DisplayVersion)

-- the word of a form: what is told of a form that there is none of is a text of its own
abbrev pub is_form : Word → Bool
is_form (word.Field field.Form) = true
is_form _ = false

-- the words ask for help; or they are no command line: one of the faults is another, a form is
-- none, or no subcommand is named
abbrev pub IsHelp : Result Wanted Refused → Type 0
IsHelp (Ok wanted) = ⊥
IsHelp (Err (words kinds)) = (k : ErrorKind) × IsAmong k kinds × AsksHelp k
IsHelp (Err (value f)) = ⊥

abbrev pub IsUsage : Result Wanted Refused → Type 0
IsUsage (Ok wanted) = ⊥
IsUsage (Err (words kinds)) = (k : ErrorKind) × IsAmong k kinds × ¬ AsksHelp k
IsUsage (Err (value values.NoCommand)) = ⊤
IsUsage (Err (value (values.BadWord word))) = IsTrue (is_form word)
IsUsage (Err (value values.Memory)) = ⊥

-- no byte of the text can steer a terminal: its control bytes are escaped
abbrev pub IsEscaped : Text → Type 0
IsEscaped text = (whole : Text) × (text ≡ escaped whole)

-- what is answered is what the words ask, or why they ask nothing; want of memory may come at any
-- point
abbrev pub Fails : CliFault → Result Wanted Refused → Type 0
Fails (fault.BadArgument word text) said = said ≡ Err (value (values.BadWord word))
Fails (fault.NoToday word) said = said ≡ Err (value (values.BadWord word))
Fails (fault.Usage text) said = IsUsage said × IsEscaped (string_bytes text)
Fails (fault.Help text) said = IsHelp said
Fails fault.Memory said = ⊤

abbrev pub Gives : Result Task CliFault → Result Wanted Refused → Type 0
Gives (Ok given) said = said ≡ Ok (task_view given)
Gives (Err f) said = Fails f said

-- the values that the words of the subcommand were given
abbrev pub rows_in : Option (Text × List Row) → List Row
rows_in None = []
rows_in (Some called) = called.1

-- the word is left out, and is today then
abbrev pub lacks_today : Word → List Row → Bool
lacks_today word rows = may_be_today word && is_none (first_of (word_text word) rows)

-- a word whose value is none of its kind is told with that value, its control bytes escaped; or it
-- is left out, and today is not known
abbrev pub ShowsValue : List Row → CliFault → Type 0
ShowsValue rows (fault.BadArgument word shown) =
    string_bytes shown ≡ escaped_word (bad_value word rows)
ShowsValue rows (fault.NoToday word) = lacks_today word rows ≡ true
ShowsValue rows _ = ⊤
