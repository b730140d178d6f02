-- What the commands ask that hints show.
use Rattle.std.specs.Prelude.{◌≡◌, ◌||◌, ◌==◌, ◌++◌, [], ◌∷◌, ℕ, Bool, Err, List, None, Ok, Option}
use Rattle.std.specs.Prelude.{Result, Some, codes, false, filter, if◌then◌else◌, length, map}
use Rattle.std.specs.Prelude.{nat_lt, true, ⊤}
use Rattle.std.specs.List.{list_all, slice_split}
use Rattle.std.specs.Str.{bytes_eq}
use Rattle.clap.specs.Words.{Text}
use Rattle.ftd_days.specs.Spelling.{day_of}
use Rattle.ftd_rules.specs.declared.Form.{Form}
use Rattle.ftd_rules.specs.declared.Form.TheVariants.{F941, F943}
use Rattle.ftd_machine.specs.declared.entries.Account.{Account}
use Rattle.ftd_machine.specs.declared.entries.Beginning.{Beginning}
use Rattle.ftd_machine.specs.declared.entries.ReturnPeriod.TheVariants.{Quarter, Year}
use Rattle.ftd_machine.specs.declared.replies.Refusal.{Refusal}
use Rattle.ftd_machine.specs.declared.replies.Refusal.TheVariants as refusal
use Rattle.ftd_machine.specs.declared.requests.Correction.{Correction}
use Rattle.ftd_machine.specs.declared.requests.Correction.TheVariants as correction
use Rattle.ftd_machine.specs.declared.requests.Entry.TheVariants as entry
use Rattle.ftd_machine.specs.declared.requests.Request.{Request}
use Rattle.ftd_machine.specs.declared.requests.Request.TheVariants as request
use Rattle.ftd_verbs.specs.Asked.{greatest_number}
use Rattle.ftd_verbs.specs.Formats.{as_text}
use Rattle.ftd_verbs.specs.declared.rows.Verb.{Verb}
use Rattle.ftd_verbs.specs.declared.rows.Verb.TheVariants as verb
use Rattle.ftd_cli.specs.Asking.{Wanted, ask, ask_next}
use Rattle.ftd_cli.specs.Lines.{is_blank}
use Rattle.ftd_cli.specs.Tasks.{task_of, task_view}
use Rattle.ftd_cli.specs.declared.tasks.CliFault.{CliFault}
use Rattle.ftd_cli.specs.declared.tasks.CliFault.TheVariants as fault
use Rattle.ftd_cli.specs.declared.tasks.Task.{Task}
use Rattle.ftd_replies.specs.Commands.{file_text, is_plain}
use Rattle.ftd_replies.specs.Hints.{account_in, number_in}
use Rattle.ftd_replies.specs.LineLaws.{IsDay, IsName, IsNumber, IsPeriod}
use Rattle.ftd_replies.specs.LineRequests.{is_value, value_as}

-- ---- the command that a text shows

-- what stands between words: a blank, a tab, or the end of a line
abbrev pub is_space : ℕ → Bool
is_space byte = is_blank byte || (byte == 10)

-- the words of a text
abbrev pub words_in : List ℕ → List Text
words_in text = filter (λ part. nat_lt 0 (length part)) (slice_split is_space text)

-- the words from the program's name on
abbrev pub from_program : List Text → List Text
from_program [] = []
from_program (word ∷ words) =
    if bytes_eq word (codes "ftd") then word ∷ words else from_program words

abbrev pub command_in : List ℕ → List Text
command_in text = from_program (words_in text)

-- no byte of the words means another thing than itself to a shell that takes them
abbrev pub are_plain : List Text → Bool
are_plain words = list_all (λ word. list_all is_plain word) words

-- ---- what it asks

-- the words of a command line are decided as this, whatever day it is
abbrev pub Ask : List Text → Wanted → Type 0
Ask words wanted = (today : Option ℕ) → task_of today words ≡ Ok wanted

-- what was decided is this, unless memory ran out
abbrev pub IsDecided : Wanted → Result Task CliFault → Type 0
IsDecided wanted (Ok task) = task_view task ≡ wanted
IsDecided wanted (Err fault.Memory) = ⊤
IsDecided wanted (Err other) = ⊥

-- a request to the desk in the file, told as text, or a correction under the next number; no time
-- is waited for the file
abbrev pub of_desk : Text → Request → Wanted
of_desk db asked = ask db 0 as_text asked

abbrev pub under_next : Text → Correction → Wanted
under_next db corrected = ask_next db 0 (request.Correct greatest_number corrected)

-- the file has a name, which begins with no hyphen: behind `--db`, such a word is an option
abbrev pub IsFile : Text → Type 0
IsFile db = is_value db ≡ true

-- A text shows a command on the file, with placeholders or without. Its words are decided as this,
-- with the name of the file in the place of what is shown for it, and other words in the place of
-- the placeholders.
pub record Shows (db text : List ℕ) (holders filling : List Text) (wanted : Wanted) : Type 0 where
  pub before : List Text
  pub between : List Text
  pub after : List Text
  pub command : command_in text ≡ before ++ file_text db ∷ (between ++ (holders ++ after))
  pub plain : are_plain (command_in text) ≡ true
  pub asks : Ask (before ++ db ∷ (between ++ (filling ++ after))) wanted

-- a command that is shown as it is
abbrev pub ShowsWhole : (db text : List ℕ) → Wanted → Type 0
ShowsWhole db text wanted = Shows db text [] [] wanted

-- ---- the values that a hint means

-- words that are days, in their order
abbrev pub AreDays : List Text → List ℕ → Type 0
AreDays words days = map (value_as day_of) words ≡ map Some days

-- the form of an account that is unknown: a year's total is that of Form 943
abbrev pub form_meant : Request → Form
form_meant (request.Enter (entry.Total account (Year year) cents)) = F943
form_meant (request.Correct number (correction.Total account (Year year) cents)) = F943
form_meant other = F941

-- what reports or corrects the total of a period of the other form
abbrev pub verb_meant : Request → Option Verb
verb_meant (request.Enter (entry.Total account (Quarter quarter) cents)) = Some verb.ReportYear
verb_meant (request.Enter (entry.Total account (Year year) cents)) = Some verb.Report
verb_meant (request.Correct number (correction.Total account (Quarter quarter) cents)) =
    Some verb.CorrectReportYear
verb_meant (request.Correct number (correction.Total account (Year year) cents)) =
    Some verb.CorrectReport
verb_meant other = None

-- an account that begins on a day, and is not carried
abbrev pub begun : ℕ → Form → Account
begun day form = record { start = day; carried = false; form = form }

-- how an account begins
abbrev pub beginning_of : Account → Beginning
beginning_of account = record { start = account.start; carried = account.carried }

-- ---- the values that a refusal leaves for its hint

-- it enters an account under a name, from a day on, or the total of a period of an account
abbrev pub EntersAccount : Request → Type 0
EntersAccount (request.Enter (entry.Account name account)) = IsName name × IsDay account.start
EntersAccount other = ⊥

abbrev pub EntersTotal : Request → Type 0
EntersTotal (request.Enter (entry.Total account period cents)) =
    IsName account × IsPeriod period
EntersTotal other = ⊥

-- the values that the hint of the refusal shows are an account name, a number, a year, a quarter or
-- a day
abbrev pub HasValues : Request → Refusal → Type 0
HasValues asked (refusal.YearNotOpen year) = IsName (account_in asked) × IsNumber year
HasValues asked (refusal.CalendarMissing year) = IsNumber year
HasValues asked (refusal.QuarterMissing quarter) =
    IsName (account_in asked) × IsPeriod (Quarter quarter)
HasValues asked (refusal.YearMissing year) = IsName (account_in asked) × IsNumber year
HasValues asked refusal.UnknownAccount = IsName (account_in asked)
HasValues asked refusal.RunDiffers = IsName (account_in asked) × IsNumber (number_in asked)
HasValues asked refusal.PaymentDiffers = IsName (account_in asked) × IsNumber (number_in asked)
HasValues asked refusal.QuarterDiffers = EntersTotal asked
HasValues asked refusal.YearDiffers = EntersTotal asked
HasValues asked refusal.AccountDiffers = EntersAccount asked
HasValues asked other = ⊤
