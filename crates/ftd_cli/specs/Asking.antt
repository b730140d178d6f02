-- What the values of a subcommand ask.
use Rattle.std.specs.Prelude.{ℕ, ◌≡◌, ◌||◌, ◌&&◌, nat_lt, Bool, true, false, List, Option, Result}
use Rattle.std.specs.Prelude.{None, Ok, Err, ⊤, if◌then◌else◌}
use Rattle.std.specs.List.{list_any}
use Rattle.std.specs.Option.{is_none, option_map_or}
use Rattle.clap.specs.Words.{Row, Text, first_of}
use Rattle.ftd_days.specs.declared.limits.TheConstants.{FIRST_YEAR, LAST_OPEN_YEAR}
use Rattle.ftd_csv.specs.declared.sheets.Sheet.{Sheet}
use Rattle.ftd_machine.specs.declared.requests.Request.{Request}
use Rattle.ftd_rules.specs.Accounts.{is_account_name}
use Rattle.ftd_verbs.specs.Rows.{is_correction, row_of}
use Rattle.ftd_verbs.specs.FieldRows.{kind_of}
use Rattle.ftd_verbs.specs.declared.field.Field.{Field}
use Rattle.ftd_verbs.specs.declared.field.Field.TheVariants as field
use Rattle.ftd_verbs.specs.declared.field.Kind.{Kind}
use Rattle.ftd_verbs.specs.declared.field.Kind.TheVariants as kind
use Rattle.ftd_verbs.specs.declared.formats.AnswerFormat.{AnswerFormat}
use Rattle.ftd_verbs.specs.declared.rows.Verb.{Verb}
use Rattle.ftd_cli.specs.declared.fault.WordFault.{WordFault}
use Rattle.ftd_cli.specs.declared.fault.WordFault.TheVariants as fault
use Rattle.ftd_cli.specs.declared.table.Name.{Name}
use Rattle.ftd_cli.specs.declared.table.Name.TheVariants as name
use Rattle.ftd_cli.specs.declared.table.Word.{Word}
use Rattle.ftd_cli.specs.declared.table.Word.TheVariants as word
use Rattle.ftd_cli.specs.Table.{may_be_today, word_text}
use Rattle.ftd_cli.specs.Values.{days_in, format_in, is_given, needed, port_in, text_in, whole_in}
use Rattle.ftd_cli.specs.Words.{day_said, is_next, request_of, value_of}

-- what follows from a value, or its fault
abbrev pub then_with : {X Y : Type 0} → Result X WordFault → (X → Result Y WordFault)
    → Result Y WordFault
then_with (Err f) next = Err f
then_with (Ok value) next = next value

-- what was read, seen in these words, is what the values say, unless memory ran out
abbrev pub TellsAs : {X Y : Type 0} → (X → Y) → Result X WordFault → Result Y WordFault → Type 0
TellsAs view (Ok value) said = said ≡ Ok (view value)
TellsAs view (Err fault.Memory) said = ⊤
TellsAs view (Err (fault.BadWord word)) said = said ≡ Err (fault.BadWord word)
TellsAs view (Err fault.NoCommand) said = said ≡ Err fault.NoCommand

abbrev pub Tells : {X : Type 0} → Result X WordFault → Result X WordFault → Type 0
Tells {X} read said = TellsAs (λ (x : X). x) read said

-- what a subcommand asks: the deposits of pay runs from standard input; or a server, which checks
-- its file as it starts or does not, a shell, a copy of the file, an
-- import of a sheet, in earnest or on trial, a year of each account that has the year before open,
-- that what is due on a day is recorded as paid, the journal of all or of one account, whether the
-- tables are as requests made them, or a request to the desk in a database, for which so many
-- seconds are waited. A correction with no number is to be asked under the next one: it is asked
-- under the greatest, to which the desk answers how many there are (NumberSkipped), unless it
-- answers otherwise, and then under one more than these (`with_number` of `ftd_machine`). So is a
-- pay run or a payment that has the word `next` in the place of its number: it is asked under the
-- least number above all that its account has used.
pub data Wanted : Type 0 where
  plain : (account : Text) (year : ℕ) (holidays : List ℕ) → Wanted
  serve : (db : Text) (wait port connections idle silence duration : ℕ) (is_unchecked : Bool)
      → Wanted
  shell : (db : Text) (wait : ℕ) (script : Text) (has_echo has_stop : Bool) → Wanted
  backup : (db : Text) (wait : ℕ) (copy : Text) → Wanted
  import : (db : Text) (wait : ℕ) (sheet : Sheet) (is_trial : Bool) (file : Text) → Wanted
  open_years : (db : Text) (wait year : ℕ) → Wanted
  settle : (db : Text) (wait : ℕ) (account : Text) (due paid : ℕ) → Wanted
  journal : (db : Text) (wait : ℕ) (account : Option Text) → Wanted
  check : (db : Text) (wait : ℕ) → Wanted
  ask : (db : Text) (wait : ℕ) (format : AnswerFormat) (request : Request) → Wanted
  ask_next : (db : Text) (wait : ℕ) (request : Request) → Wanted

-- `plain` wants an account name, and a year of 2001 to 2098
abbrev pub account_in : List Row → Result Text WordFault
account_in rows =
    then_with (text_in (word.Field field.Account) rows)
    (λ text. if is_account_name text then Ok text
    else Err (fault.BadWord (word.Field field.Account)))

abbrev pub year_in : List Row → Result ℕ WordFault
year_in rows =
    then_with (whole_in (word.Field field.Year) rows)
    (λ year. if nat_lt year FIRST_YEAR || nat_lt LAST_OPEN_YEAR year
    then Err (fault.BadWord (word.Field field.Year))
    else Ok year)

unfoldable pub plain_of : List Row → Result Wanted WordFault
plain_of rows =
    then_with (account_in rows) (λ account.
    then_with (year_in rows) (λ year.
    then_with (days_in word.Holidays rows) (λ holidays.
    Ok (plain account year holidays))))

unfoldable pub serve_of : List Row → Result Wanted WordFault
serve_of rows =
    then_with (text_in word.Db rows) (λ db.
    then_with (whole_in word.Wait rows) (λ wait.
    then_with (port_in word.Port rows) (λ port.
    then_with (whole_in word.Connections rows) (λ connections.
    then_with (whole_in word.Idle rows) (λ idle.
    then_with (whole_in word.Silence rows) (λ silence.
    then_with (whole_in word.Duration rows) (λ duration.
    Ok (serve db wait port connections idle silence duration (is_given word.Unchecked rows)))))))))

unfoldable pub shell_of : List Row → Result Wanted WordFault
shell_of rows =
    then_with (text_in word.Db rows) (λ db.
    then_with (whole_in word.Wait rows) (λ wait.
    then_with (text_in word.Script rows) (λ script.
    Ok (shell db wait script (is_given word.Echo rows) (is_given word.Stop rows)))))

unfoldable pub backup_of : List Row → Result Wanted WordFault
backup_of rows =
    then_with (text_in word.Db rows) (λ db.
    then_with (whole_in word.Wait rows) (λ wait.
    then_with (text_in word.CopyFile rows) (λ copy.
    Ok (backup db wait copy))))

unfoldable pub import_of : Sheet → List Row → Result Wanted WordFault
import_of sheet rows =
    then_with (text_in word.Db rows) (λ db.
    then_with (whole_in word.Wait rows) (λ wait.
    then_with (text_in word.CsvFile rows) (λ file.
    Ok (import db wait sheet (is_given word.Check rows) file))))

-- the year is as that of a request that opens one
unfoldable pub open_years_of : List Row → Result Wanted WordFault
open_years_of rows =
    then_with (whole_in (word.Field field.Year) rows) (λ year.
    then_with (text_in word.Db rows) (λ db.
    then_with (whole_in word.Wait rows) (λ wait.
    Ok (open_years db wait year))))

-- the day that a word says, or today, where the word is left out and may be today
abbrev pub day_at : Option ℕ → Word → List Row → Result ℕ WordFault
day_at today word rows =
    needed word (day_said today (may_be_today word) (first_of (word_text word) rows))

unfoldable pub settle_of : Option ℕ → List Row → Result Wanted WordFault
settle_of today rows =
    then_with (text_in (word.Field field.Account) rows) (λ account.
    then_with (day_at None word.DueDay rows) (λ due.
    then_with (day_at today word.PaidDay rows) (λ paid.
    then_with (text_in word.Db rows) (λ db.
    then_with (whole_in word.Wait rows) (λ wait.
    Ok (settle db wait account due paid))))))

unfoldable pub journal_of : List Row → Result Wanted WordFault
journal_of rows =
    then_with (text_in word.Db rows) (λ db.
    then_with (whole_in word.Wait rows) (λ wait.
    Ok (journal db wait (first_of (word_text word.JournalAccount) rows))))

abbrev pub check_of : List Row → Result Wanted WordFault
check_of rows =
    then_with (text_in word.Db rows) (λ db.
    then_with (whole_in word.Wait rows) (λ wait.
    Ok (check db wait)))

-- a request to the desk in the database: one that takes the next number under that, any other in
-- the format that is asked for
abbrev pub asked_as : List Row → AnswerFormat → Request → Result Wanted WordFault
asked_as rows format request =
    then_with (text_in word.Db rows) (λ db.
    then_with (whole_in word.Wait rows) (λ wait.
    Ok (ask db wait format request)))

abbrev pub asked_next : List Row → Request → Result Wanted WordFault
asked_next rows request =
    then_with (text_in word.Db rows) (λ db.
    then_with (whole_in word.Wait rows) (λ wait.
    Ok (ask_next db wait request)))

-- a correction with no number takes the next one, and so does what has the word for it in the place
-- of a new number
abbrev pub is_new_number : Kind → Bool
is_new_number kind.NewNumber = true
is_new_number other = false

abbrev pub says_next : List Row → Field → Bool
says_next rows at = is_new_number (kind_of at) && option_map_or is_next (value_of rows at) false

abbrev pub has_no_number : Verb → List Row → Bool
has_no_number verb rows = is_correction verb && is_none (value_of rows field.Number)

abbrev pub wants_next : Verb → List Row → Bool
wants_next verb rows =
    has_no_number verb rows || list_any (says_next rows) (row_of verb).fields

abbrev pub asked_by : Verb → List Row → Request → Result Wanted WordFault
asked_by verb rows request =
    if wants_next verb rows then asked_next rows request
    else then_with (format_in (row_of verb).formats rows) (λ format. asked_as rows format request)

-- what the subcommand asks with these values on this day
unfoldable pub wanted_of : Option ℕ → Name → List Row → Result Wanted WordFault
wanted_of today name.Plain rows = plain_of rows
wanted_of today name.Serve rows = serve_of rows
wanted_of today name.Shell rows = shell_of rows
wanted_of today name.Backup rows = backup_of rows
wanted_of today (name.Import sheet) rows = import_of sheet rows
wanted_of today name.OpenYears rows = open_years_of rows
wanted_of today name.Settle rows = settle_of today rows
wanted_of today name.Journal rows = journal_of rows
wanted_of today name.Check rows = check_of rows
wanted_of today (name.Verb verb) rows =
    then_with (request_of today verb rows) (asked_by verb rows)
