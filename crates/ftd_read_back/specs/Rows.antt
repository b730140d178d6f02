-- Rows whose values are such as the rows of a desk have: amounts have 64 bits, in cents, days are
-- not after 2199, and an account has a name that an account may have.
use Rattle.std.specs.Prelude.{IfSome, ◌≡◌, ◌<◌, ◌≤◌, ◌^◌, true, List}
use Rattle.ftd_days.specs.Calendar.{last_day}
use Rattle.ftd_days.specs.declared.limits.TheConstants.{QUARTERS}
use Rattle.ftd_rules.specs.Accounts.{is_account_name}
use Rattle.ftd_rules.specs.Lists.{Has}
use Rattle.ftd_rules.specs.declared.DaySum.{DaySum}
use Rattle.ftd_rules.specs.declared.verdict.DueRow.{DueRow}
use Rattle.ftd_machine.specs.declared.entries.ReturnPeriod.{ReturnPeriod}
use Rattle.ftd_machine.specs.declared.entries.ReturnPeriod.TheVariants.{Quarter, Year}
use Rattle.ftd_machine.specs.declared.explained.CountedDay.{CountedDay}
use Rattle.ftd_machine.specs.declared.explained.Explanation.{Explanation}
use Rattle.ftd_machine.specs.declared.explained.RunningSum.{RunningSum}
use Rattle.ftd_machine.specs.declared.kept.KeptAccount.{KeptAccount}
use Rattle.ftd_machine.specs.declared.kept.KeptHoliday.{KeptHoliday}
use Rattle.ftd_machine.specs.declared.kept.KeptPayment.{KeptPayment}
use Rattle.ftd_machine.specs.declared.kept.KeptRun.{KeptRun}
use Rattle.ftd_machine.specs.declared.kept.KeptTotal.{KeptTotal}
use Rattle.ftd_machine.specs.declared.kept.KeptYear.{KeptYear}
use Rattle.ftd_machine.specs.declared.lists.AgendaRow.{AgendaRow}
use Rattle.ftd_machine.specs.declared.lists.UnappliedRow.{UnappliedRow}
use Rattle.ftd_machine.specs.declared.replies.Reason.{Reason}
use Rattle.ftd_answers.specs.Explanations.{turn_of}

-- a row of a due list
pub record IsDueRowInRange (row : DueRow) : Type 0 where
  pub first : row.obligation.first ≤ last_day
  pub last : row.obligation.last ≤ last_day
  pub amount : row.obligation.cents.0 < 2 ^ 64
  pub due : row.obligation.due ≤ last_day
  pub makeup : row.makeup ≤ last_day
  pub paid : row.paid.0 < 2 ^ 64

abbrev pub AreDueRowsInRange : List DueRow → Type 0
AreDueRowsInRange rows = (row : DueRow) → Has rows row → IsDueRowInRange row

-- a row of what is due over all accounts
pub record IsAgendaRowInRange (x : AgendaRow) : Type 0 where
  pub name : is_account_name x.account ≡ true
  pub row : IsDueRowInRange x.row
  pub pay_by : x.pay_by ≤ last_day

abbrev pub AreAgendaRowsInRange : List AgendaRow → Type 0
AreAgendaRowsInRange rows = (x : AgendaRow) → Has rows x → IsAgendaRowInRange x

-- a payment, its number, and the first day of the obligation that it counts for, if there is one
pub record IsPaymentInRange (x : KeptPayment) : Type 0 where
  pub number : x.number < 2 ^ 64
  pub paid : x.payment.paid ≤ last_day
  pub for_day : x.payment.for_day ≤ last_day
  pub amount : x.payment.cents.0 < 2 ^ 64
  pub obligation : IfSome x.obligation (λ day. day ≤ last_day)

abbrev pub ArePaymentsInRange : List KeptPayment → Type 0
ArePaymentsInRange rows = (x : KeptPayment) → Has rows x → IsPaymentInRange x

-- a pay run
pub record IsRunInRange (x : KeptRun) : Type 0 where
  pub number : x.number < 2 ^ 64
  pub payday : x.run.payday ≤ last_day
  pub fit : x.run.fit.0 < 2 ^ 64
  pub ss : x.run.ss.0 < 2 ^ 64
  pub medicare : x.run.medicare.0 < 2 ^ 64

abbrev pub AreRunsInRange : List KeptRun → Type 0
AreRunsInRange rows = (x : KeptRun) → Has rows x → IsRunInRange x

-- an account
pub record IsAccountInRange (x : KeptAccount) : Type 0 where
  pub name : is_account_name x.name ≡ true
  pub start : x.account.start ≤ last_day

abbrev pub AreAccountsInRange : List KeptAccount → Type 0
AreAccountsInRange rows = (x : KeptAccount) → Has rows x → IsAccountInRange x

-- an open year
pub record IsYearInRange (x : KeptYear) : Type 0 where
  pub year : x.line.year < 2 ^ 64
  pub lookback : x.line.lookback.0 < 2 ^ 64
  pub turn : IfSome x.line.turn (λ day. day ≤ last_day)
  pub first_lookback : x.first_lookback.0 < 2 ^ 64

abbrev pub AreYearsInRange : List KeptYear → Type 0
AreYearsInRange rows = (x : KeptYear) → Has rows x → IsYearInRange x

-- a reported total, of a quarter that is not after 2199, or of a year
abbrev pub IsPeriodInRange : ReturnPeriod → Type 0
IsPeriodInRange (Quarter quarter) = quarter < QUARTERS
IsPeriodInRange (Year year) = year < 2 ^ 64

pub record IsTotalInRange (x : KeptTotal) : Type 0 where
  pub period : IsPeriodInRange x.period
  pub amount : x.cents.0 < 2 ^ 64
  pub first : x.first.0 < 2 ^ 64

abbrev pub AreTotalsInRange : List KeptTotal → Type 0
AreTotalsInRange rows = (x : KeptTotal) → Has rows x → IsTotalInRange x

-- a day that was given or added as a holiday
abbrev pub AreHolidaysInRange : List KeptHoliday → Type 0
AreHolidaysInRange rows = (x : KeptHoliday) → Has rows x → x.day ≤ last_day

-- money that counts for nothing
pub record IsUnappliedInRange (x : UnappliedRow) : Type 0 where
  pub name : is_account_name x.account ≡ true
  pub payment : IfSome x.payment (λ number. number < 2 ^ 64)
  pub first : x.first ≤ last_day
  pub last : x.last ≤ last_day
  pub amount : x.amount.0 < 2 ^ 64
  pub paid : x.paid.0 < 2 ^ 64

abbrev pub AreUnappliedInRange : List UnappliedRow → Type 0
AreUnappliedInRange rows = (x : UnappliedRow) → Has rows x → IsUnappliedInRange x

-- a day and its liability
pub record IsDaySumInRange (x : DaySum) : Type 0 where
  pub day : x.day ≤ last_day
  pub amount : x.cents.0 < 2 ^ 64

abbrev pub AreDaySumsInRange : List DaySum → Type 0
AreDaySumsInRange rows = (x : DaySum) → Has rows x → IsDaySumInRange x

-- why an account has the deposit schedule of a day
abbrev pub IsReasonInRange : Reason → Type 0
IsReasonInRange why = IfSome (turn_of why) (λ day. day ≤ last_day)

-- a payday of an obligation
pub record IsPaydayInRange (x : RunningSum) : Type 0 where
  pub day : x.day ≤ last_day
  pub amount : x.cents.0 < 2 ^ 64
  pub total : x.total.0 < 2 ^ 64

-- why an obligation is so
pub record IsExplanationInRange (e : Explanation) : Type 0 where
  pub first : e.obligation.first ≤ last_day
  pub last : e.obligation.last ≤ last_day
  pub amount : e.obligation.cents.0 < 2 ^ 64
  pub due : e.obligation.due ≤ last_day
  pub reason : IsReasonInRange e.reason
  pub paydays : (x : RunningSum) → Has e.paydays x → IsPaydayInRange x
  pub days : (x : CountedDay) → Has e.days x → x.day ≤ last_day
  pub return_due : e.return_due ≤ last_day
  pub payments : ArePaymentsInRange e.payments
