-- The line of a request: the command that asks it, as a shell takes it.
use Rattle.std.specs.Prelude.{ℕ, Bool, true, false, List, [], ◌∷◌, ◌++◌, codes, flat_map}
use Rattle.std.specs.Fmt.{decimal}
use Rattle.std.specs.List.{concat}
use Rattle.ftd_days.specs.Text.{cents_text, day_text, quarter_text}
use Rattle.ftd_days.specs.declared.cents.Cents.{Cents}
use Rattle.ftd_rules.specs.declared.payment.Payment.{Payment}
use Rattle.ftd_rules.specs.declared.run.PayRun.{PayRun}
use Rattle.ftd_machine.specs.declared.entries.Account.{Account}
use Rattle.ftd_machine.specs.declared.entries.Beginning.{Beginning}
use Rattle.ftd_machine.specs.declared.entries.ReturnPeriod.{ReturnPeriod}
use Rattle.ftd_machine.specs.declared.entries.ReturnPeriod.TheVariants.{Quarter, Year}
use Rattle.ftd_machine.specs.declared.requests.Correction.{Correction}
use Rattle.ftd_machine.specs.declared.requests.Correction.TheVariants as correction
use Rattle.ftd_machine.specs.declared.requests.Entry.{Entry}
use Rattle.ftd_machine.specs.declared.requests.Entry.TheVariants as entry
use Rattle.ftd_machine.specs.declared.requests.Request.{Request}
use Rattle.ftd_machine.specs.declared.requests.Request.TheVariants as request
use Rattle.ftd_answers.specs.Agendas.{form_number}
use Rattle.ftd_answers.specs.Fields.{yes_no}
use Rattle.ftd_verbs.specs.Rows.{row_of}
use Rattle.ftd_verbs.specs.declared.field.Field.{Field}
use Rattle.ftd_verbs.specs.declared.field.Field.TheVariants as field
use Rattle.ftd_verbs.specs.declared.rows.Verb.{Verb}
use Rattle.ftd_verbs.specs.declared.rows.Verb.TheVariants as verb
use Rattle.ftd_cli.specs.Table.{field_text}

-- ---- the words of a line, each with a blank before it

-- a value at its place
abbrev pub word : List ℕ → List ℕ
word text = codes " " ++ text

-- a value behind the name of its option
abbrev pub named : Field → List ℕ → List ℕ
named at text = (codes " --" ++ field_text at) ++ word text

-- a mark, which is there or not
abbrev pub mark : Field → Bool → List ℕ
mark at true = codes " --" ++ field_text at
mark at false = []

-- the command of the verb, and its words
abbrev pub line_of : Verb → List (List ℕ) → List ℕ
line_of verb words = (row_of verb).command ++ (concat words ++ codes "\n")

-- ---- what is entered: the fields in the order of the verb's row

unfoldable pub enrol_line : List ℕ → Account → List ℕ
enrol_line name account =
    line_of verb.Enrol
    (word name ∷ word (day_text account.start) ∷ mark field.Carried account.carried
    ∷ named field.Form (form_number account.form) ∷ [])

unfoldable pub calendar_line : ℕ → List ℕ → List ℕ
calendar_line year days =
    (row_of verb.Calendar).command
    ++ (word (decimal year) ++ (flat_map (λ day. word (day_text day)) days ++ codes "\n"))

unfoldable pub total_line : List ℕ → ReturnPeriod → Cents → List ℕ
total_line account (Quarter quarter) cents =
    line_of verb.Report
    (word account ∷ word (quarter_text quarter) ∷ word (cents_text cents.0) ∷ [])
total_line account (Year year) cents =
    line_of verb.ReportYear (word account ∷ word (decimal year) ∷ word (cents_text cents.0) ∷ [])

unfoldable pub entry_line : Entry → List ℕ
entry_line (entry.Account name account) = enrol_line name account
entry_line (entry.Calendar year days) = calendar_line year days
entry_line (entry.Holiday day) = line_of verb.AddHoliday (word (day_text day) ∷ [])
entry_line (entry.Total account period cents) = total_line account period cents
entry_line (entry.Year account year) =
    line_of verb.OpenYear (word account ∷ word (decimal year) ∷ [])

-- ---- pay runs and payments

unfoldable pub post_line : List ℕ → ℕ → PayRun → List ℕ
post_line account number run =
    line_of verb.Post
    (word account ∷ word (decimal number) ∷ word (day_text run.payday) ∷ word (cents_text run.fit.0)
    ∷ word (cents_text run.ss.0) ∷ word (cents_text run.medicare.0) ∷ [])

unfoldable pub pay_line : List ℕ → ℕ → Payment → List ℕ
pay_line account number payment =
    line_of verb.Pay
    (word account ∷ word (decimal number) ∷ word (day_text payment.paid)
    ∷ word (day_text payment.for_day) ∷ word (cents_text payment.cents.0) ∷ [])

-- ---- corrections, each with its number behind an option

unfoldable pub total_correction_line : ℕ → List ℕ → ReturnPeriod → Cents → List ℕ
total_correction_line number account (Quarter quarter) cents =
    line_of verb.CorrectReport
    (word account ∷ word (quarter_text quarter) ∷ named field.Number (decimal number)
    ∷ word (cents_text cents.0) ∷ [])
total_correction_line number account (Year year) cents =
    line_of verb.CorrectReportYear
    (word account ∷ word (decimal year) ∷ named field.Number (decimal number)
    ∷ word (cents_text cents.0) ∷ [])

unfoldable pub day_correction_line : ℕ → ℕ → Bool → List ℕ
day_correction_line number day is_holiday =
    line_of verb.ChangeHoliday
    (word (day_text day) ∷ named field.Number (decimal number) ∷ word (yes_no is_holiday) ∷ [])

unfoldable pub account_correction_line : ℕ → List ℕ → Beginning → List ℕ
account_correction_line number account beginning =
    line_of verb.CorrectAccount
    (word account ∷ named field.Number (decimal number) ∷ word (day_text beginning.start)
    ∷ mark field.Carried beginning.carried ∷ [])

unfoldable pub correction_line : ℕ → Correction → List ℕ
correction_line number (correction.Total account period cents) =
    total_correction_line number account period cents
correction_line number (correction.Holiday day is_holiday) =
    day_correction_line number day is_holiday
correction_line number (correction.Account account beginning) =
    account_correction_line number account beginning

-- ---- the line of a request; a question, by which nothing is entered, has none

unfoldable pub request_line : Request → List ℕ
request_line (request.Enter entered) = entry_line entered
request_line (request.Post account number run) = post_line account number run
request_line (request.Void account number) =
    line_of verb.Void (word account ∷ word (decimal number) ∷ [])
request_line (request.Pay account number payment) = pay_line account number payment
request_line (request.VoidPay account number) =
    line_of verb.VoidPay (word account ∷ word (decimal number) ∷ [])
request_line (request.Correct number corrected) = correction_line number corrected
request_line (request.Question asked) = []

-- the lines of requests, one after the other
abbrev pub lines_of : List Request → List ℕ
lines_of requests = flat_map request_line requests
