-- What a verb asks, by what its fields say: each field in its order, or the first that has no value
-- of its kind.
use Rattle.std.specs.Prelude.{ℕ, ◌+◌, ◌-◌, min, Bool, List, Result, Ok, Err, if◌then◌else◌}
use Rattle.ftd_days.specs.declared.limits.TheConstants.{LAST_YEAR}
use Rattle.ftd_days.specs.Calendar.{last_day, year_start}
use Rattle.ftd_days.specs.declared.cents.Cents.{Cents}
use Rattle.ftd_rules.specs.declared.Form.{Form}
use Rattle.ftd_machine.specs.declared.limits.TheConstants.{MOST_NUMBER}
use Rattle.ftd_machine.specs.declared.requests.KeptList.TheVariants as kept
use Rattle.ftd_machine.specs.declared.requests.Question.TheVariants as question
use Rattle.ftd_machine.specs.declared.requests.Request.{Request}
use Rattle.ftd_machine.specs.declared.requests.Request.TheVariants as request
use Rattle.ftd_machine.specs.declared.requests.Entry.TheVariants as entry
use Rattle.ftd_machine.specs.declared.requests.Correction.TheVariants as correction
use Rattle.ftd_machine.specs.declared.entries.ReturnPeriod.TheVariants.{Quarter, Year}
use Rattle.ftd_machine.specs.Questions.{kept_asked}
use Rattle.ftd_verbs.specs.Fields.{Said, needed}
use Rattle.ftd_verbs.specs.declared.field.Field.{Field}
use Rattle.ftd_verbs.specs.declared.field.Field.TheVariants as field
use Rattle.ftd_verbs.specs.declared.verbs.TheConstants.{A_WEEK, A_MONTH}
use Rattle.ftd_verbs.specs.declared.rows.Verb.{Verb}
use Rattle.ftd_verbs.specs.declared.rows.Verb.TheVariants as verb

infixl 10 ◌>>=◌
abbrev pub ◌>>=◌ : {A B : Type 0} → Result A Field → (A → Result B Field) → Result B Field
Err fault >>= next = Err fault
Ok value >>= next = next value

abbrev pub account_in : Said → Result (List ℕ) Field
account_in said = needed field.Account (said.text field.Account)

abbrev pub whole_in : Said → Field → Result ℕ Field
whole_in said at = needed at (said.whole at)

abbrev pub day_in : Said → Field → Result ℕ Field
day_in said at = needed at (said.day at)

abbrev pub quarter_in : Said → Field → Result ℕ Field
quarter_in said at = needed at (said.quarter at)

abbrev pub amount_in : Said → Field → Result Cents Field
amount_in said at = needed at (said.amount at)

abbrev pub mark_in : Said → Field → Result Bool Field
mark_in said at = needed at (said.mark at)

abbrev pub answer_in : Said → Field → Result Bool Field
answer_in said at = needed at (said.answer at)

abbrev pub days_in : Said → Result (List ℕ) Field
days_in said = needed field.Days (said.days field.Days)

-- the number of a correction, or the greatest where it is left out: the desk answers to it how many
-- corrections there are, unless it answers otherwise
abbrev pub greatest_number : ℕ
greatest_number = MOST_NUMBER

abbrev pub number_in : Said → Result ℕ Field
number_in said =
    if said.is_left_out field.Number then Ok greatest_number else whole_in said field.Number

abbrev pub form_in : Said → Field → Result Form Field
form_in said at = needed at (said.form at)

-- a day, or another one where it is left out
abbrev pub day_or : ℕ → Said → Field → Result ℕ Field
day_or other said at = if said.is_left_out at then Ok other else day_in said at

-- the day so many days later, or the last day where there is no such day
abbrev pub days_after : ℕ → ℕ → ℕ
days_after count day = min (day + count) last_day

unfoldable pub enrol : Said → Result Request Field
enrol said = do
  account ← account_in said
  start ← day_in said field.Start
  carried ← mark_in said field.Carried
  form ← form_in said field.Form
  Ok (request.Enter (entry.Account account (record {
    start = start;
    carried = carried;
    form = form;
  })))

unfoldable pub report : Said → Result Request Field
report said = do
  account ← account_in said
  quarter ← quarter_in said field.Quarter
  cents ← amount_in said field.Amount
  Ok (request.Enter (entry.Total account (Quarter quarter) cents))

unfoldable pub post : Said → Result Request Field
post said = do
  account ← account_in said
  number ← whole_in said field.Run
  payday ← day_in said field.Payday
  fit ← amount_in said field.Fit
  ss ← amount_in said field.Ss
  medicare ← amount_in said field.Medicare
  Ok (request.Post account number (record {
    payday = payday;
    fit = fit;
    ss = ss;
    medicare = medicare;
  }))

unfoldable pub pay : Said → Result Request Field
pay said = do
  account ← account_in said
  number ← whole_in said field.Payment
  paid ← day_in said field.Paid
  for_day ← day_in said field.For
  cents ← amount_in said field.Amount
  Ok (request.Pay account number (record { paid = paid; for_day = for_day; cents = cents }))

unfoldable pub status : Said → Result Request Field
status said = do
  account ← account_in said
  day ← day_in said field.Day
  Ok (request.Question (question.Status account day))

unfoldable pub due_list : Said → Result Request Field
due_list said = do
  account ← account_in said
  quarter ← quarter_in said field.Quarter
  as_of ← day_in said field.AsOf
  Ok (request.Question (question.DueList account quarter as_of))

unfoldable pub owed : Said → Result Request Field
owed said = do
  as_of ← day_in said field.AsOfToday
  until ← day_or (days_after A_WEEK as_of) said field.Until
  Ok (request.Question (question.Owed until as_of))

unfoldable pub calendar : Said → Result Request Field
calendar said = do
  year ← whole_in said field.Year
  days ← days_in said
  Ok (request.Enter (entry.Calendar year days))

unfoldable pub add_holiday : Said → Result Request Field
add_holiday said = do
  day ← day_in said field.Day
  Ok (request.Enter (entry.Holiday day))

unfoldable pub report_year : Said → Result Request Field
report_year said = do
  account ← account_in said
  year ← whole_in said field.Year
  cents ← amount_in said field.Amount
  Ok (request.Enter (entry.Total account (Year year) cents))

unfoldable pub open_year : Said → Result Request Field
open_year said = do
  account ← account_in said
  year ← whole_in said field.Year
  Ok (request.Enter (entry.Year account year))

unfoldable pub void : Said → Result Request Field
void said = do
  account ← account_in said
  number ← whole_in said field.RunToVoid
  Ok (request.Void account number)

unfoldable pub void_pay : Said → Result Request Field
void_pay said = do
  account ← account_in said
  number ← whole_in said field.PaymentToVoid
  Ok (request.VoidPay account number)

unfoldable pub correct_report : Said → Result Request Field
correct_report said = do
  account ← account_in said
  quarter ← quarter_in said field.Quarter
  number ← number_in said
  cents ← amount_in said field.Amount
  Ok (request.Correct number (correction.Total account (Quarter quarter) cents))

unfoldable pub correct_report_year : Said → Result Request Field
correct_report_year said = do
  account ← account_in said
  year ← whole_in said field.Year
  number ← number_in said
  cents ← amount_in said field.Amount
  Ok (request.Correct number (correction.Total account (Year year) cents))

unfoldable pub change_holiday : Said → Result Request Field
change_holiday said = do
  day ← day_in said field.Day
  number ← number_in said
  is_holiday ← answer_in said field.IsHoliday
  Ok (request.Correct number (correction.Holiday day is_holiday))

unfoldable pub correct_account : Said → Result Request Field
correct_account said = do
  account ← account_in said
  number ← number_in said
  start ← day_in said field.Start
  carried ← mark_in said field.Carried
  Ok (request.Correct number (correction.Account account (record {
    start = start;
    carried = carried;
  })))

unfoldable pub explain : Said → Result Request Field
explain said = do
  account ← account_in said
  day ← day_in said field.Day
  Ok (request.Question (question.Explain account day))

unfoldable pub agenda : Said → Result Request Field
agenda said = do
  from ← day_in said field.From
  to ← day_or (days_after A_MONTH from) said field.To
  as_of ← day_in said field.AsOfToday
  Ok (request.Question (question.Agenda from to as_of))

-- all days up to the last that may be asked of, 2099-12-31, where the last day is left out
abbrev pub last_asked : ℕ
last_asked = year_start (LAST_YEAR + 1) - 1

unfoldable pub unapplied : Said → Result Request Field
unapplied said = do
  until ← day_or last_asked said field.LastDay
  Ok (request.Question (question.Unapplied until))

unfoldable pub schedule_b : Said → Result Request Field
schedule_b said = do
  account ← account_in said
  quarter ← quarter_in said field.Quarter
  Ok (request.Question (question.ScheduleB account quarter))

unfoldable pub years : Said → Result Request Field
years said = do
  account ← account_in said
  Ok (kept_asked (kept.Years account))

unfoldable pub reported : Said → Result Request Field
reported said = do
  account ← account_in said
  Ok (kept_asked (kept.Reported account))

unfoldable pub holidays : Said → Result Request Field
holidays said = do
  year ← whole_in said field.Year
  Ok (kept_asked (kept.Holidays year))

unfoldable pub runs : Said → Result Request Field
runs said = do
  account ← account_in said
  quarter ← quarter_in said field.Quarter
  Ok (kept_asked (kept.Runs account quarter))

unfoldable pub payments : Said → Result Request Field
payments said = do
  account ← account_in said
  quarter ← quarter_in said field.Quarter
  Ok (kept_asked (kept.Payments account quarter))

-- what a verb asks
abbrev pub asked : Verb → Said → Result Request Field
asked verb.Enrol said = enrol said
asked verb.Calendar said = calendar said
asked verb.AddHoliday said = add_holiday said
asked verb.Report said = report said
asked verb.ReportYear said = report_year said
asked verb.OpenYear said = open_year said
asked verb.Post said = post said
asked verb.Void said = void said
asked verb.Pay said = pay said
asked verb.VoidPay said = void_pay said
asked verb.CorrectReport said = correct_report said
asked verb.CorrectReportYear said = correct_report_year said
asked verb.ChangeHoliday said = change_holiday said
asked verb.CorrectAccount said = correct_account said
asked verb.Status said = status said
asked verb.Explain said = explain said
asked verb.DueList said = due_list said
asked verb.Agenda said = agenda said
asked verb.Owed said = owed said
asked verb.Unapplied said = unapplied said
asked verb.ScheduleB said = schedule_b said
asked verb.Accounts said = Ok (kept_asked kept.Accounts)
asked verb.Years said = years said
asked verb.Reported said = reported said
asked verb.Holidays said = holidays said
asked verb.Runs said = runs said
asked verb.Payments said = payments said
