-- The rows of a due list, by what is known of the quarter's return.
use Rattle.std.specs.Prelude.{◌≡◌, ◌≤◌, ◌==◌, ◌↔◌, ◌+◌, ℕ, Bool, List, IsTrue, Ok}
use Rattle.ftd_days.specs.Calendar.{quarter_of, quarter_year}
use Rattle.ftd_days.specs.Holidays.{YearDays, holidays_of}
use Rattle.ftd_rules.specs.declared.Form.{Form}
use Rattle.ftd_rules.specs.declared.Obligation.{Obligation}
use Rattle.ftd_rules.specs.declared.verdict.Case.{Case}
use Rattle.ftd_rules.specs.declared.verdict.DueRow.{DueRow}
use Rattle.ftd_rules.specs.Payments.{paid_by}
use Rattle.ftd_rules.specs.Returns.{IsReturnDue, IsMakeup, IsSmallQuarter}
use Rattle.ftd_rules.specs.Verdicts.{IsVerdict}
use Rattle.ftd_sql.specs.Standing.{Tables}
use Rattle.ftd_store.specs.Holidays.{HasYears}
use Rattle.ftd_machine.specs.State.{State, entries_of, holidays}
use Rattle.ftd_machine.specs.History.{form_of}
use Rattle.ftd_machine.specs.Sound.{IsSound}
use Rattle.ftd_machine.specs.Asking.{is_next_day, IsDueList}
use Rattle.ftd_machine.specs.Told.{due_answer}
use Rattle.ftd_entries.specs.Known.{KnowsAccount, KnowsYear}
use Rattle.ftd_entries.specs.Standing.{StandsFor}
use Rattle.ftd_entries.specs.declared.return_periods.ReturnFacts.{ReturnFacts}
use Rattle.ftd_questions.specs.declared.due_rows.QuarterReturn.{QuarterReturn}
use Rattle.ftd_questions.specs.declared.due.KnownForDue.{KnownForDue}

-- the obligation is a next-day one
abbrev pub is_next_day_row : Obligation → Bool
is_next_day_row o = is_next_day o.rule

-- the obligation begins in the quarter
abbrev pub begins_in : ℕ → Obligation → Bool
begins_in quarter o = quarter_of o.first == quarter

-- how the return of a quarter stands: when it is due, whether its obligations may be paid with it,
-- and whether what was paid for its return period by then reaches its total
pub record IsReturnBy (form : Form) (quarter : ℕ) (next_day : Bool) (period : ReturnFacts)
    (given : List YearDays) (of_return : QuarterReturn) : Type 0 where
  pub form_is : of_return.form ≡ form
  pub due : IsReturnDue form (holidays_of given) quarter of_return.due
  pub small : IsTrue of_return.small ↔ IsSmallQuarter period.total period.preceding next_day
  pub paid : IsTrue of_return.paid ↔ (period.total.0 ≤ paid_by period.payments.items
      period.first period.last of_return.due of_return.due)
  pub payments : of_return.payments ≡ period.payments
  pub holidays_are : of_return.holidays ≡ given

-- what the verdict on a row depends on
pub record IsCaseBy (of_return : QuarterReturn) (as_of : ℕ) (o : Obligation) (makeup : ℕ)
    (c : Case) : Type 0 where
  pub cents : c.cents ≡ o.cents
  pub due : c.due ≡ o.due
  pub makeup_is : c.makeup ≡ makeup
  pub return_due : c.return_due ≡ of_return.due
  pub as_of_is : c.as_of ≡ as_of
  pub paid_due : c.paid_due.0 ≡ paid_by of_return.payments.items o.first o.last as_of o.due
  pub paid_makeup : c.paid_makeup.0 ≡ paid_by of_return.payments.items o.first o.last as_of makeup
  pub small : c.small ≡ of_return.small
  pub quarter_paid : c.quarter_paid ≡ of_return.paid

-- the row of an obligation as of a day: its makeup date, what was paid for it by the day, and the
-- verdict
pub record IsRowBy (of_return : QuarterReturn) (as_of : ℕ) (o : Obligation) (row : DueRow)
    : Type 0 where
  pub obligation : row.obligation ≡ o
  pub makeup : IsMakeup of_return.form (holidays_of of_return.holidays) o.rule o.last o.due
      row.makeup
  pub paid : row.paid.0 ≡ paid_by of_return.payments.items o.first o.last as_of as_of
  pub of_case : Case
  pub is_case : IsCaseBy of_return as_of o row.makeup of_case
  pub verdict : IsVerdict of_case row.verdict

-- the account, and whether the year of the quarter is open
pub record KnowsForDue (name : List ℕ) (quarter : ℕ) (known : KnownForDue) (t : Tables)
    : Type 0 where
  pub account : KnowsAccount name known.account t
  pub is_open : KnowsYear name (quarter_year quarter) known.is_open t

-- these are the holidays of the year of the quarter and of the next
abbrev pub KnowsYears : ℕ → List YearDays → Tables → Type 0
KnowsYears quarter given t =
    HasYears (quarter_year quarter) (quarter_year quarter + 1) (holidays_of given) t

-- the rows are the due list of each sound state for which the tables stand, and in which the
-- account has the form
abbrev pub KnowsDueList : List ℕ → Form → ℕ → ℕ → List DueRow → Tables → Type 0
KnowsDueList name form quarter as_of rows t =
    (s : State) → StandsFor t s → IsSound s → form_of (entries_of s name).account ≡ form
    → IsDueList (holidays s) (entries_of s name) name quarter as_of
    (due_answer name quarter as_of rows)

-- the return of the quarter is due on the day, in each sound state for which the tables stand
abbrev pub KnowsReturnDue : Form → ℕ → ℕ → Tables → Type 0
KnowsReturnDue form quarter day t =
    (s : State) → StandsFor t s → IsSound s → IsReturnDue form (holidays s) quarter day
