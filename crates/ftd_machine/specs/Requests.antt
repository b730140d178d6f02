-- The checks of each request, in the order in which they decide. They take what is known: the
-- account, what has the key, whether the year is open, and how many entries there are.
use Rattle.std.specs.Prelude.{ℕ, ◌+◌, ◌==◌, ◌&&◌, ◌++◌, not, nat_le, nat_lt, Bool, true, false}
use Rattle.std.specs.Prelude.{bytes_eq, List, [], ◌∷◌, length, Option, None, Some, if◌then◌else◌}
use Rattle.ftd_machine.specs.declared.limits.TheConstants.{MOST_ENTRIES}
use Rattle.ftd_days.specs.declared.limits.TheConstants.{MOST_HOLIDAYS}
use Rattle.ftd_days.specs.Calendar.{year_of, quarter_year, quarter_start}
use Rattle.ftd_days.specs.Business.{is_holiday}
use Rattle.ftd_days.specs.declared.cents.Cents.{Cents}
use Rattle.ftd_rules.specs.declared.Form.{Form}
use Rattle.ftd_rules.specs.declared.Form.TheVariants.{F941, F943}
use Rattle.ftd_machine.specs.declared.entries.Account.{Account}
use Rattle.ftd_machine.specs.declared.entries.Beginning.{Beginning}
use Rattle.ftd_machine.specs.declared.entries.ReturnPeriod.{ReturnPeriod}
use Rattle.ftd_machine.specs.declared.entries.ReturnPeriod.TheVariants.{Quarter, Year}
use Rattle.ftd_rules.specs.declared.run.PayRun.{PayRun}
use Rattle.ftd_rules.specs.declared.payment.Payment.{Payment}
use Rattle.ftd_rules.specs.declared.run.Voidable.{Voidable}
use Rattle.ftd_rules.specs.Accounts.{is_account_name}
use Rattle.ftd_machine.specs.Limits.{can_be_opened, can_be_reported, can_have_calendar, is_amount}
use Rattle.ftd_machine.specs.Limits.{are_amounts, is_number, is_calendar}
use Rattle.ftd_days.specs.declared.limits.TheConstants.{LAST_OPEN_YEAR}
use Rattle.ftd_machine.specs.declared.replies.Refusal.{Refusal}
use Rattle.ftd_machine.specs.Checks.{Answer, needs, done_if, finds, meets, is_new}
use Rattle.ftd_machine.specs.State.{Entries}
use Rattle.ftd_machine.specs.declared.replies.Refusal.TheVariants.{BadName, BadYear, BadDay}
use Rattle.ftd_machine.specs.declared.replies.Refusal.TheVariants.{BadCents, BadCalendar, BadNumber}
use Rattle.ftd_machine.specs.declared.replies.Refusal.TheVariants.{UnknownAccount, AccountDiffers}
use Rattle.ftd_machine.specs.declared.replies.Refusal.TheVariants.{CalendarDiffers, QuarterDiffers}
use Rattle.ftd_machine.specs.declared.replies.Refusal.TheVariants.{RunDiffers, PaymentDiffers}
use Rattle.ftd_machine.specs.declared.replies.Refusal.TheVariants.{UnknownRun, UnknownPayment}
use Rattle.ftd_machine.specs.declared.replies.Refusal.TheVariants.{BeforeStart, CalendarMissing}
use Rattle.ftd_machine.specs.declared.replies.Refusal.TheVariants.{YearNotOpen, TooManyRuns}
use Rattle.ftd_machine.specs.declared.replies.Refusal.TheVariants.{TooManyPayments, WrongForm}
use Rattle.ftd_machine.specs.declared.replies.Refusal.TheVariants.{YearDiffers, QuarterMissing}
use Rattle.ftd_machine.specs.declared.replies.Refusal.TheVariants.{YearMissing, CorrectionDiffers}
use Rattle.ftd_machine.specs.declared.replies.Refusal.TheVariants.{NumberSkipped, NoHoliday}
use Rattle.ftd_machine.specs.declared.replies.Refusal.TheVariants.{AccountInUse}

-- ---- equal content

abbrev pub same_flag : Bool → Bool → Bool
same_flag a b = if a then b else not b

abbrev pub is_form : Form → Form → Bool
is_form F941 F941 = true
is_form F941 F943 = false
is_form F943 F941 = false
is_form F943 F943 = true

-- an account: first day, carried and form
abbrev pub same_account : Account → Account → Bool
same_account account known =
    (known.start == account.start)
    && (same_flag known.carried account.carried && is_form known.form account.form)

-- a calendar: the days
abbrev pub same_days : List ℕ → List ℕ → Bool
same_days days known = bytes_eq known days

abbrev pub same_amount : Cents → Cents → Bool
same_amount cents known = known.0 == cents.0

-- a run: payday and the three amounts, one by one, whether it is voided or not
abbrev pub same_run : PayRun → Voidable PayRun → Bool
same_run run known =
    (known.value.payday == run.payday)
    && (same_amount run.fit known.value.fit
    && (same_amount run.ss known.value.ss && same_amount run.medicare known.value.medicare))

-- a payment: the days and the amount, whether it is voided or not
abbrev pub same_payment : Payment → Voidable Payment → Bool
same_payment payment known =
    (known.value.paid == payment.paid)
    && ((known.value.for_day == payment.for_day) && same_amount payment.cents known.value.cents)

abbrev pub is_voided : {X : Type 0} → Voidable X → Bool
is_voided known = known.voided

-- ---- what is asked of an account

abbrev pub is_on : Form → Account → Bool
is_on form account = is_form account.form form

-- the employer's first day comes before a day, not after a day, not after a year
abbrev pub starts_before : ℕ → Account → Bool
starts_before day account = nat_lt account.start day

abbrev pub has_started : ℕ → Account → Bool
has_started day account = nat_le account.start day

abbrev pub has_started_in : ℕ → Account → Bool
has_started_in year account = nat_le (year_of account.start) year

-- ---- what a return period is

-- the form whose return is about the period, and the period's year
abbrev pub form_for : ReturnPeriod → Form
form_for (Quarter quarter) = F941
form_for (Year year) = F943

abbrev pub year_of_period : ReturnPeriod → ℕ
year_of_period (Quarter quarter) = quarter_year quarter
year_of_period (Year year) = year

-- the employer starts before the period ends
abbrev pub starts_in_time : ReturnPeriod → Account → Bool
starts_in_time (Quarter quarter) account = starts_before (quarter_start (quarter + 1)) account
starts_in_time (Year year) account = has_started_in year account

-- the refusals of a total that is reported with another amount, and of one that is not reported
abbrev pub differs_for : ReturnPeriod → Refusal
differs_for (Quarter quarter) = QuarterDiffers
differs_for (Year year) = YearDiffers

abbrev pub missing_for : ReturnPeriod → Refusal
missing_for (Quarter quarter) = QuarterMissing quarter
missing_for (Year year) = YearMissing year

-- ---- the checks

-- Enrol: the name; a first day not after 2098; known, it was enrolled before or differs
abbrev pub enrol_checks : List ℕ → Account → Option Account → List (Option Answer)
enrol_checks name account known =
    needs (is_account_name name) BadName
    ∷ needs (nat_le (year_of account.start) LAST_OPEN_YEAR) BadDay
    ∷ is_new known (same_account account) AccountDiffers
    ∷ []

-- Calendar: a year of 2001 to 2099; its days; known, it was given before or differs
abbrev pub calendar_checks : ℕ → List ℕ → Option (List ℕ) → List (Option Answer)
calendar_checks year days known =
    needs (can_have_calendar year) BadYear
    ∷ needs (is_calendar year days) BadCalendar
    ∷ is_new known (same_days days) CalendarDiffers
    ∷ []

-- the holidays of a year: those of its calendar and those added to it
abbrev pub days_of_year : Option (List ℕ) → List ℕ → List ℕ
days_of_year None added = added
days_of_year (Some given) added = given ++ added

-- AddHoliday: a day of 2001 to 2099; a holiday already, it was given or added before; the year's
-- calendar; and no more than 60 holidays in the year
abbrev pub add_holiday_checks : ℕ → Option (List ℕ) → List ℕ → List (Option Answer)
add_holiday_checks day calendar added =
    let days = days_of_year calendar added in
    needs (can_have_calendar (year_of day)) BadDay
    ∷ done_if (is_holiday days day)
    ∷ finds calendar (CalendarMissing (year_of day))
    ∷ needs (nat_lt (length days) MOST_HOLIDAYS) BadCalendar
    ∷ []

-- Total: the name; a quarter or a year of 1999 to 2098; the amount; the account, on the form whose
-- return is about it; known, the total was reported before or differs; and a period that does not
-- end before the employer's first day
abbrev pub report_checks
    : List ℕ → ReturnPeriod → Cents → Option Account → Option Cents → List (Option Answer)
report_checks name period cents account known =
    needs (is_account_name name) BadName
    ∷ needs (can_be_reported (year_of_period period)) BadYear
    ∷ needs (is_amount cents) BadCents
    ∷ finds account UnknownAccount
    ∷ needs (meets (is_on (form_for period)) account) WrongForm
    ∷ is_new known (same_amount cents) (differs_for period)
    ∷ needs (meets (starts_in_time period) account) BeforeStart
    ∷ []

-- OpenYear: the name; a year of 2001 to 2098; the account; open, it was opened before; not before
-- the year of the employer's first day; the calendars of the year and of the next. Its last checks,
-- of the lookback period and of the year before, stand in Step.
abbrev pub open_year_checks
    : List ℕ → ℕ → Option Account → Bool → Bool → Bool → List (Option Answer)
open_year_checks name year account there calendar next =
    needs (is_account_name name) BadName
    ∷ needs (can_be_opened year) BadYear
    ∷ finds account UnknownAccount
    ∷ done_if there
    ∷ needs (meets (has_started_in year) account) BeforeStart
    ∷ needs calendar (CalendarMissing year)
    ∷ needs next (CalendarMissing (year + 1))
    ∷ []

-- Post: the name; a payday of 2001 to 2098; the amounts; the number; the account; known, the run
-- was posted before, voided or not, or differs; the first day; the open year; and fewer than 20,000
-- runs
abbrev pub post_checks
    : List ℕ → ℕ → PayRun → Option Account → Option (Voidable PayRun) → Bool → ℕ
    → List (Option Answer)
post_checks name number run account known there count =
    needs (is_account_name name) BadName
    ∷ needs (can_be_opened (year_of run.payday)) BadDay
    ∷ needs (are_amounts run) BadCents
    ∷ needs (is_number number) BadNumber
    ∷ finds account UnknownAccount
    ∷ is_new known (same_run run) RunDiffers
    ∷ needs (meets (has_started run.payday) account) BeforeStart
    ∷ needs there (YearNotOpen (year_of run.payday))
    ∷ needs (nat_lt count MOST_ENTRIES) TooManyRuns
    ∷ []

-- Void: the name; the number; the account; voided, it was voided before; and there is the run
abbrev pub void_checks
    : List ℕ → ℕ → Option Account → Option (Voidable PayRun) → List (Option Answer)
void_checks name number account known =
    needs (is_account_name name) BadName
    ∷ needs (is_number number) BadNumber
    ∷ finds account UnknownAccount
    ∷ done_if (meets is_voided known)
    ∷ finds known UnknownRun
    ∷ []

-- Pay: the name; the days, made in 2001 to 2099 and for 2001 to 2098; the amount, which is not
-- zero; the number; the account; known, the payment was taken before, voided or not, or differs;
-- the first day; the open year; and fewer than 20,000 payments
abbrev pub pay_checks
    : List ℕ → ℕ → Payment → Option Account → Option (Voidable Payment) → Bool → ℕ
    → List (Option Answer)
pay_checks name number payment account known there count =
    needs (is_account_name name) BadName
    ∷ needs (can_have_calendar (year_of payment.paid)
    && can_be_opened (year_of payment.for_day)) BadDay
    ∷ needs (nat_le 1 payment.cents.0 && is_amount payment.cents) BadCents
    ∷ needs (is_number number) BadNumber
    ∷ finds account UnknownAccount
    ∷ is_new known (same_payment payment) PaymentDiffers
    ∷ needs (meets (has_started payment.for_day) account) BeforeStart
    ∷ needs there (YearNotOpen (year_of payment.for_day))
    ∷ needs (nat_lt count MOST_ENTRIES) TooManyPayments
    ∷ []

-- VoidPay: as Void, of a payment
abbrev pub void_payment_checks
    : List ℕ → ℕ → Option Account → Option (Voidable Payment) → List (Option Answer)
void_payment_checks name number account known =
    needs (is_account_name name) BadName
    ∷ needs (is_number number) BadNumber
    ∷ finds account UnknownAccount
    ∷ done_if (meets is_voided known)
    ∷ finds known UnknownPayment
    ∷ []

-- ---- corrections

-- it has the next number: one more than there are corrections, which the refusal names
abbrev pub is_next : ℕ → ℕ → Option Answer
is_next number count = needs (number == count + 1) (NumberSkipped count)

-- a correction of a total: the name; a quarter or a year of 1999 to 2098; the amount; the number;
-- the account, on the form whose return is about it; the total is reported; known, the correction
-- was made before or differs; and the next number
abbrev pub correct_total_checks
    : List ℕ → ReturnPeriod → ℕ → Cents → Option Account → Option Cents → Option Cents → ℕ
    → List (Option Answer)
correct_total_checks name period number cents account reported known count =
    needs (is_account_name name) BadName
    ∷ needs (can_be_reported (year_of_period period)) BadYear
    ∷ needs (is_amount cents) BadCents
    ∷ needs (is_number number) BadNumber
    ∷ finds account UnknownAccount
    ∷ needs (meets (is_on (form_for period)) account) WrongForm
    ∷ finds reported (missing_for period)
    ∷ is_new known (same_amount cents) CorrectionDiffers
    ∷ is_next number count
    ∷ []

-- ChangeHoliday: a day of 2001 to 2099; the number; the year's calendar; a day that was given or
-- added as a holiday; known, the change was made before or differs; and the next number
abbrev pub change_holiday_checks
    : ℕ → ℕ → Bool → Option (List ℕ) → List ℕ → Option Bool → ℕ → List (Option Answer)
change_holiday_checks day number is_one calendar added known count =
    needs (can_have_calendar (year_of day)) BadDay
    ∷ needs (is_number number) BadNumber
    ∷ finds calendar (CalendarMissing (year_of day))
    ∷ needs (is_holiday (days_of_year calendar added) day) NoHoliday
    ∷ is_new known (same_flag is_one) CorrectionDiffers
    ∷ is_next number count
    ∷ []

-- nothing rests on the account yet: no figure is reported, and no year is open
abbrev pub is_unused : Entries → Bool
is_unused own =
    (length own.reported == 0)
    && ((length own.reported_years == 0) && (length own.open_years == 0))

-- the same first day, and carried or not
abbrev pub same_beginning : Beginning → Beginning → Bool
same_beginning beginning known =
    (known.start == beginning.start) && same_flag known.carried beginning.carried

-- CorrectAccount: the name; a first day not after 2098; the number; the account; known, the
-- correction was made before or differs; nothing rests on the account; and the next number
abbrev pub correct_account_checks
    : List ℕ → ℕ → Beginning → Option Account → Option Beginning → Bool → ℕ → List (Option Answer)
correct_account_checks name number beginning account known unused count =
    needs (is_account_name name) BadName
    ∷ needs (nat_le (year_of beginning.start) LAST_OPEN_YEAR) BadDay
    ∷ needs (is_number number) BadNumber
    ∷ finds account UnknownAccount
    ∷ is_new known (same_beginning beginning) CorrectionDiffers
    ∷ needs unused AccountInUse
    ∷ is_next number count
    ∷ []

-- ---- questions

-- the schedule of a day, and why an obligation is so: the name; a day of 2001 to 2098; the account;
-- and the open year
abbrev pub status_checks : List ℕ → ℕ → Option Account → Bool → List (Option Answer)
status_checks name day account there =
    needs (is_account_name name) BadName
    ∷ needs (can_be_opened (year_of day)) BadDay
    ∷ finds account UnknownAccount
    ∷ needs there (YearNotOpen (year_of day))
    ∷ []

-- DueList: the name; a quarter of 2001 to 2098; an as-of day of 2001 to 2099; the account; and the
-- open year
abbrev pub due_list_checks : List ℕ → ℕ → ℕ → Option Account → Bool → List (Option Answer)
due_list_checks name quarter as_of account there =
    needs (is_account_name name) BadName
    ∷ needs (can_be_opened (quarter_year quarter)) BadYear
    ∷ needs (can_have_calendar (year_of as_of)) BadDay
    ∷ finds account UnknownAccount
    ∷ needs there (YearNotOpen (quarter_year quarter))
    ∷ []

-- ScheduleB: the name; a quarter of 2001 to 2098; the account, on Form 941; and the open year
abbrev pub schedule_b_checks : List ℕ → ℕ → Option Account → Bool → List (Option Answer)
schedule_b_checks name quarter account there =
    needs (is_account_name name) BadName
    ∷ needs (can_be_opened (quarter_year quarter)) BadYear
    ∷ finds account UnknownAccount
    ∷ needs (meets (is_on F941) account) WrongForm
    ∷ needs there (YearNotOpen (quarter_year quarter))
    ∷ []

-- Agenda: two days of 2001 to 2099, and an as-of day of these years
abbrev pub agenda_checks : ℕ → ℕ → ℕ → List (Option Answer)
agenda_checks from to as_of =
    needs (can_have_calendar (year_of from) && can_have_calendar (year_of to)) BadDay
    ∷ needs (can_have_calendar (year_of as_of)) BadDay
    ∷ []

-- Owed: a day of 2001 to 2099, and an as-of day of these years
abbrev pub owed_checks : ℕ → ℕ → List (Option Answer)
owed_checks until as_of =
    needs (can_have_calendar (year_of until)) BadDay
    ∷ needs (can_have_calendar (year_of as_of)) BadDay
    ∷ []

-- Unapplied: a day of 2001 to 2099
abbrev pub unapplied_checks : ℕ → List (Option Answer)
unapplied_checks until = needs (can_have_calendar (year_of until)) BadDay ∷ []

-- Kept, of an account: the name; and the account
abbrev pub kept_of_checks : List ℕ → Option Account → List (Option Answer)
kept_of_checks name account =
    needs (is_account_name name) BadName
    ∷ finds account UnknownAccount
    ∷ []

-- Kept, of an account and a quarter: the name; a quarter of 2001 to 2098; and the account
abbrev pub kept_in_quarter_checks : List ℕ → ℕ → Option Account → List (Option Answer)
kept_in_quarter_checks name quarter account =
    needs (is_account_name name) BadName
    ∷ needs (can_be_opened (quarter_year quarter)) BadYear
    ∷ finds account UnknownAccount
    ∷ []

-- Kept, the holidays of a year: a year of 2001 to 2099; and its calendar
abbrev pub holidays_checks : ℕ → Bool → List (Option Answer)
holidays_checks year is_given =
    needs (can_have_calendar year) BadYear
    ∷ needs is_given (CalendarMissing year)
    ∷ []
