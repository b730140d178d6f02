-- What is said of the lines of requests: whose values are such as requests have, and what a shell
-- makes of the line of one.
use Rattle.std.specs.Prelude.{◌≡◌, ◌≢◌, ◌++◌, ◌<◌, ◌≤◌, ◌^◌, [], ◌∷◌, ℕ, List, Option, Ok, ⊤, false}
use Rattle.std.specs.Prelude.{length, true}
use Rattle.std.specs.List.{All}
use Rattle.ftd_days.specs.Calendar.{last_day}
use Rattle.ftd_days.specs.declared.cents.Cents.{Cents}
use Rattle.ftd_days.specs.declared.limits.TheConstants.{MOST_HOLIDAYS, QUARTERS, SPELLED_END}
use Rattle.ftd_rules.specs.Accounts.{is_account_name}
use Rattle.ftd_rules.specs.declared.payment.Payment.{Payment}
use Rattle.ftd_rules.specs.declared.run.PayRun.{PayRun}
use Rattle.ftd_machine.specs.declared.entries.ReturnPeriod.{ReturnPeriod}
use Rattle.ftd_machine.specs.declared.entries.ReturnPeriod.TheVariants.{Quarter, Year}
use Rattle.ftd_machine.specs.declared.requests.Correction.{Correction}
use Rattle.ftd_machine.specs.declared.requests.Correction.TheVariants as correction
use Rattle.ftd_machine.specs.declared.requests.Entry.{Entry}
use Rattle.ftd_machine.specs.declared.requests.Entry.TheVariants as entry
use Rattle.ftd_machine.specs.declared.requests.Request.{Request}
use Rattle.ftd_machine.specs.declared.requests.Request.TheVariants as request
use Rattle.ftd_verbs.specs.Formats.{as_text}
use Rattle.ftd_cli.specs.Asking.{ask}
use Rattle.ftd_cli.specs.Lines.{after_line, are_texts, asks_nothing, command_words, first_line}
use Rattle.ftd_cli.specs.Lines.{line_of}
use Rattle.ftd_cli.specs.Tasks.{task_of}
use Rattle.ftd_cli.specs.declared.lines.TheConstants.{MOST_LINE}
use Rattle.ftd_replies.specs.RequestLines.{request_line}

-- ---- the values of a request

abbrev pub IsName : List ℕ → Type 0
IsName name = is_account_name name ≡ true

-- a number, or a year, of 32 bits
abbrev pub IsNumber : ℕ → Type 0
IsNumber number = number < 2 ^ 32

-- a day up to 31 December 2199
abbrev pub IsDay : ℕ → Type 0
IsDay day = day ≤ last_day

-- an amount up to 999999999.99
abbrev pub IsAmount : Cents → Type 0
IsAmount cents = cents.0 < SPELLED_END

-- a quarter of the years 1900 to 2199, or a year
abbrev pub IsPeriod : ReturnPeriod → Type 0
IsPeriod (Quarter quarter) = quarter < QUARTERS
IsPeriod (Year year) = IsNumber year

abbrev pub IsWritableEntry : Entry → Type 0
IsWritableEntry (entry.Account name account) = IsName name × IsDay account.start
IsWritableEntry (entry.Calendar year days) = IsNumber year × All IsDay days
IsWritableEntry (entry.Holiday day) = IsDay day
IsWritableEntry (entry.Total account period cents) =
    IsName account × IsPeriod period × IsAmount cents
IsWritableEntry (entry.Year account year) = IsName account × IsNumber year

abbrev pub IsWritableRun : PayRun → Type 0
IsWritableRun run = IsDay run.payday × IsAmount run.fit × IsAmount run.ss × IsAmount run.medicare

abbrev pub IsWritablePayment : Payment → Type 0
IsWritablePayment payment = IsDay payment.paid × IsDay payment.for_day × IsAmount payment.cents

abbrev pub IsWritableCorrection : Correction → Type 0
IsWritableCorrection (correction.Total account period cents) =
    IsName account × IsPeriod period × IsAmount cents
IsWritableCorrection (correction.Holiday day is_holiday) = IsDay day
IsWritableCorrection (correction.Account account beginning) = IsName account × IsDay beginning.start

-- the request is none that only asks a question, and its values are names, numbers, days and
-- amounts that can be written
abbrev pub IsWritable : Request → Type 0
IsWritable (request.Enter entered) = IsWritableEntry entered
IsWritable (request.Post account number run) =
    IsName account × IsNumber number × IsWritableRun run
IsWritable (request.Void account number) = IsName account × IsNumber number
IsWritable (request.Pay account number payment) =
    IsName account × IsNumber number × IsWritablePayment payment
IsWritable (request.VoidPay account number) = IsName account × IsNumber number
IsWritable (request.Correct number corrected) = IsNumber number × IsWritableCorrection corrected
IsWritable (request.Question asked) = ⊥

-- a calendar has no more days than one may have
abbrev pub IsShortEntry : Entry → Type 0
IsShortEntry (entry.Calendar year days) = length days ≤ MOST_HOLIDAYS
IsShortEntry other = ⊤

abbrev pub IsShort : Request → Type 0
IsShort (request.Enter entered) = IsShortEntry entered
IsShort other = ⊤

-- ---- its line in a script

-- the line is the first of a script that begins with it: behind it comes what stands there
pub record IsOneLine (line rest : List ℕ) : Type 0 where
  pub first : first_line (line ++ rest) ≡ first_line line
  pub after : after_line (line ++ rest) ≡ rest

-- the words that a shell takes from the line
abbrev pub words_of_line : Request → List (List ℕ)
words_of_line asked = line_of (first_line (request_line asked))

-- they are the words of a command, and no comment
pub record IsCommandLine (words : List (List ℕ)) : Type 0 where
  pub asks : asks_nothing words ≡ false
  pub texts : are_texts words ≡ true

-- words, with the desk's file put among them, ask this request of the desk in that file
abbrev pub WordsAsk : Option ℕ → List ℕ → List (List ℕ) → Request → Type 0
WordsAsk today db words asked =
    task_of today (command_words db words) ≡ Ok (ask db 0 as_text asked)

abbrev pub AsksIt : Option ℕ → List ℕ → Request → Type 0
AsksIt today db asked = WordsAsk today db (words_of_line asked) asked

-- ---- scripts

-- a line of a script, without its end, is one that a shell takes, and its words ask this request
pub record IsAskedBy (today : Option ℕ) (db line : List ℕ) (asked : Request) : Type 0 where
  pub short : length line ≤ MOST_LINE
  pub command : IsCommandLine (line_of line)
  pub asks : WordsAsk today db (line_of line) asked

-- the lines of a script ask these requests, one after the other, and nothing else
abbrev pub AsksInTurn : Option ℕ → List ℕ → List ℕ → List Request → Type 0
AsksInTurn today db script [] = script ≡ []
AsksInTurn today db script (asked ∷ others) =
    (script ≢ []) × IsAskedBy today db (first_line script) asked
    × AsksInTurn today db (after_line script) others
