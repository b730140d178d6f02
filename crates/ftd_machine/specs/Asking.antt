-- What the desk answers to a question: the deposit schedule of a day, what must be deposited for a
-- quarter, its liability by day.
use Rattle.std.specs.Prelude.{◌≡◌, ◌⊎◌, ◌≤◌, ◌<◌, ◌↔◌, ◌&&◌, ℕ, ◌-◌, ◌+◌, ◌==◌, Bool, true, false}
use Rattle.std.specs.Prelude.{List, Option, None, Some, IsTrue, ⊤}
use Rattle.std.specs.List.{list_any}
use Rattle.ftd_rules.specs.declared.TheConstants.{MONTHLY_LIMIT}
use Rattle.ftd_days.specs.Calendar.{year_of, quarter_of, quarter_start}
use Rattle.ftd_days.specs.declared.cents.Cents.{Cents}
use Rattle.ftd_rules.specs.declared.Form.{Form}
use Rattle.ftd_rules.specs.declared.Form.TheVariants.{F941, F943}
use Rattle.ftd_rules.specs.declared.Kind.{Kind}
use Rattle.ftd_rules.specs.declared.Kind.TheVariants as kind
use Rattle.ftd_rules.specs.declared.Rule.{Rule}
use Rattle.ftd_rules.specs.declared.Rule.TheVariants as rule
use Rattle.ftd_rules.specs.declared.DaySum.{DaySum}
use Rattle.ftd_rules.specs.declared.YearLine.{YearLine}
use Rattle.ftd_rules.specs.declared.Obligation.{Obligation}
use Rattle.ftd_rules.specs.declared.verdict.Case.{Case}
use Rattle.ftd_rules.specs.declared.verdict.DueRow.{DueRow}
use Rattle.ftd_rules.specs.Lists.{Has, KeysRise}
use Rattle.ftd_rules.specs.Liability.{liability}
use Rattle.ftd_rules.specs.Years.{HasStatusOn}
use Rattle.ftd_rules.specs.Periods.{return_period_of, return_period_first, return_period_last}
use Rattle.ftd_rules.specs.Returns.{IsReturnDue, IsMakeup, IsSmallQuarter}
use Rattle.ftd_rules.specs.Payments.{paid_by}
use Rattle.ftd_rules.specs.Verdicts.{IsVerdict}
use Rattle.ftd_machine.specs.State.{Entries, figure_at}
use Rattle.ftd_machine.specs.History.{form_of, live_sums, live_payments, AreLinesOf, AreOwed}
use Rattle.ftd_machine.specs.Checks.{Answer}
use Rattle.ftd_machine.specs.declared.replies.Reason.{Reason}
use Rattle.ftd_machine.specs.declared.replies.Reason.TheVariants as reason
use Rattle.ftd_machine.specs.Told.{status_answer, due_answer, days_answer}

-- ---- the deposit schedule of a day

-- the lookback total alone gives the schedule: monthly, or more than 50,000.00
abbrev pub IsByLookback : YearLine → Kind → Type 0
IsByLookback line kind.Monthly = ⊤
IsByLookback line kind.Semiweekly = MONTHLY_LIMIT < line.lookback.0

-- the turn of the year before
abbrev pub IsTurnBefore : List YearLine → YearLine → ℕ → Type 0
IsTurnBefore lines line turn =
    (before : YearLine) × Has lines before
    × (before.year + 1 ≡ line.year) × (before.turn ≡ Some turn)

abbrev pub HasNoTurnBefore : List YearLine → YearLine → Type 0
HasNoTurnBefore lines line = (turn : ℕ) → IsTurnBefore lines line turn → ⊥

-- why the account has the schedule: the first that holds of the lookback total, the turn of the
-- year before, that the account is carried into the year, and the turn of the year
abbrev pub IsReason : List YearLine → YearLine → Kind → Reason → Type 0
IsReason lines line status reason.Lookback = IsByLookback line status
IsReason lines line status (reason.Turned turn) =
    (IsByLookback line status → ⊥)
    × (IsTurnBefore lines line turn
    ⊎ (HasNoTurnBefore lines line × (line.carried ≡ false) × (line.turn ≡ Some turn)))
IsReason lines line status reason.Carried =
    (IsByLookback line status → ⊥) × HasNoTurnBefore lines line × (line.carried ≡ true)

-- the answer is the schedule of the day, and why
pub record IsStatus (own : Entries) (day : ℕ) (answer : Answer) : Type 0 where
  pub lines : List YearLine
  pub are_lines : AreLinesOf own lines
  pub line : YearLine
  pub open_year : Has lines line
  pub of_day : line.year ≡ year_of day
  pub status : Kind
  pub has_status : HasStatusOn line day status
  pub why : Reason
  pub is_why : IsReason lines line status why
  pub told : answer ≡ status_answer day status why

-- ---- the due list of a quarter

-- the return period that a quarter lies in: the quarter on Form 941, the year on Form 943
abbrev pub return_period : Form → ℕ → ℕ
return_period form quarter = return_period_of form (quarter_start quarter)

-- the liability of a return period
abbrev pub return_total : Entries → ℕ → ℕ
return_total own n =
    let form = form_of own.account in
    liability (live_sums own) (return_period_first form n) (return_period_last form n)

-- the payments for days of a return period, made by a day
abbrev pub paid_for_return : Entries → ℕ → ℕ → ℕ
paid_for_return own n day =
    let form = form_of own.account in
    paid_by (live_payments own) (return_period_first form n) (return_period_last form n) day day

-- the rule is that of a next-day deposit
abbrev pub is_next_day : Rule → Bool
is_next_day rule.Monthly = false
is_next_day rule.Semiweekly = false
is_next_day rule.NextDay = true

-- an obligation that begins in the return period is next-day
abbrev pub has_next_day : Form → List Obligation → ℕ → Bool
has_next_day form rows n =
    list_any (λ o. (return_period_of form o.first == n) && is_next_day o.rule) rows

-- the figure of the quarter before, as it is in force, which counts on Form 941 alone
abbrev pub preceding : Form → Entries → ℕ → Option Cents
preceding F941 own quarter = figure_at (quarter - 1) own.reported own.corrected
preceding F943 own quarter = None

-- the obligations of the quarter, on Form 943 those of its year, may be paid with the return
abbrev pub IsSmall : Entries → List Obligation → ℕ → Type 0
IsSmall own rows quarter =
    let form = form_of own.account in
    let n = return_period form quarter in
    (total : Cents) × (total.0 ≡ return_total own n)
    × IsSmallQuarter total (preceding form own quarter) (has_next_day form rows n)

-- what was paid for the return of a quarter by a day reaches what is owed on it
abbrev pub IsReturnPaid : Entries → ℕ → ℕ → Type 0
IsReturnPaid own quarter day =
    let n = return_period (form_of own.account) quarter in
    return_total own n ≤ paid_for_return own n day

-- p(d): what was paid for an obligation by day d, as known on a day
abbrev pub paid_for : Entries → Obligation → ℕ → ℕ → ℕ
paid_for own o as_of d = paid_by (live_payments own) o.first o.last as_of d

-- what the verdict on a row of a quarter depends on
pub record IsCaseOf (holidays : List ℕ) (own : Entries) (rows : List Obligation) (quarter as_of : ℕ)
    (row : DueRow) (c : Case) : Type 0 where
  pub cents : c.cents ≡ row.obligation.cents
  pub due : c.due ≡ row.obligation.due
  pub makeup : c.makeup ≡ row.makeup
  pub return_due : IsReturnDue (form_of own.account) holidays quarter c.return_due
  pub as_of_is : c.as_of ≡ as_of
  pub paid_due : c.paid_due.0 ≡ paid_for own row.obligation as_of c.due
  pub paid_makeup : c.paid_makeup.0 ≡ paid_for own row.obligation as_of c.makeup
  pub small : IsTrue c.small ↔ IsSmall own rows quarter
  pub quarter_paid : IsTrue c.quarter_paid ↔ IsReturnPaid own quarter c.return_due

-- a row of the due list of a quarter as of a day: an obligation that begins in the quarter, its
-- makeup date, what was paid for it by the day, and the verdict
pub record IsDueRow (holidays : List ℕ) (own : Entries) (rows : List Obligation) (quarter as_of : ℕ)
    (row : DueRow) : Type 0 where
  pub owed : Has rows row.obligation
  pub begins : quarter_of row.obligation.first ≡ quarter
  pub makeup : IsMakeup (form_of own.account) holidays
      row.obligation.rule row.obligation.last row.obligation.due row.makeup
  pub paid : row.paid.0 ≡ paid_for own row.obligation as_of as_of
  pub of_case : Case
  pub is_case : IsCaseOf holidays own rows quarter as_of row of_case
  pub verdict : IsVerdict of_case row.verdict

abbrev pub first_of_row : DueRow → ℕ
first_of_row row = row.obligation.first

-- the answer is all such rows, by first day
pub record IsDueList (holidays : List ℕ) (own : Entries) (name : List ℕ) (quarter as_of : ℕ)
    (answer : Answer) : Type 0 where
  pub rows : List Obligation
  pub owed : AreOwed holidays own rows
  pub listed : List DueRow
  pub by_first_day : KeysRise first_of_row listed
  pub all : (row : DueRow) → Has listed row ↔ IsDueRow holidays own rows quarter as_of row
  pub told : answer ≡ due_answer name quarter as_of listed

-- ---- the liability of a quarter by day

-- a day of the quarter that has liability
abbrev pub IsLiableDay : Entries → ℕ → DaySum → Type 0
IsLiableDay own quarter x =
    (quarter_of x.day ≡ quarter) × (x.cents.0 ≡ liability (live_sums own) x.day x.day)
    × (0 < x.cents.0)

abbrev pub day_of_sum : DaySum → ℕ
day_of_sum x = x.day

-- the answer is all such days, by day
pub record IsScheduleB (own : Entries) (name : List ℕ) (quarter : ℕ) (answer : Answer)
    : Type 0 where
  pub listed : List DaySum
  pub by_day : KeysRise day_of_sum listed
  pub all : (x : DaySum) → Has listed x ↔ IsLiableDay own quarter x
  pub told : answer ≡ days_answer name quarter listed
