-- Words of the law that what is paid in full by the day to pay by is never late.
use Rattle.std.specs.Prelude.{◌≡◌, ◌⊎◌, ◌≤◌, ◌<◌, ℕ, List, ⊤}
use Rattle.ftd_days.specs.Calendar.{quarter_of}
use Rattle.ftd_rules.specs.declared.YearLine.{YearLine}
use Rattle.ftd_rules.specs.declared.run.PayRun.{PayRun}
use Rattle.ftd_rules.specs.declared.run.Voidable.{Voidable}
use Rattle.ftd_rules.specs.declared.payment.Payment.{Payment}
use Rattle.ftd_rules.specs.declared.verdict.Verdict.{Verdict}
use Rattle.ftd_rules.specs.declared.verdict.Verdict.TheVariants.{WithReturn}
use Rattle.ftd_rules.specs.declared.verdict.Verdict.TheVariants.{Short, Late}
use Rattle.ftd_rules.specs.Liability.{liability}
use Rattle.ftd_rules.specs.Obligations.{IsObligation}
use Rattle.ftd_machine.specs.State.{State, Entry, Entries, entries_of, holidays}
use Rattle.ftd_machine.specs.History.{form_of, live_sums, AreLinesOf}
use Rattle.ftd_machine.specs.Asking.{paid_for, IsReturnPaid}
use Rattle.ftd_machine.specs.Agenda.{first_day_of, return_last_of}
use Rattle.ftd_machine.specs.declared.lists.AgendaRow.{AgendaRow}

-- the deposit is short or late
abbrev pub IsMissed : Verdict → Type 0
IsMissed Short = ⊤
IsMissed Late = ⊤
IsMissed other = ⊥

-- The desk goes on after the as-of day of a row: of the row's account pay runs and payments alone
-- change, and no holiday does. The liability of each payday up to the as-of day stays, and so does
-- that of each payday up to the end of the deposit period that the row's deposit belongs to: pay
-- runs are posted or voided on later paydays alone. No payment for the row's days is voided.
pub record GoesOn (s later : State) (as_of : ℕ) (x : AgendaRow) : Type 0 where
  pub runs : List (Entry (Voidable PayRun))
  pub payments : List (Entry (Voidable Payment))
  pub others_stay : entries_of later x.account
      ≡ record (entries_of s x.account) { runs = runs; payments = payments }
  pub holidays_stay : holidays later ≡ holidays s
  pub lines : List YearLine
  pub are_lines : AreLinesOf (entries_of s x.account) lines
  pub is_owed : IsObligation (form_of (entries_of s x.account).account) lines
      (live_sums (entries_of s x.account)) (holidays s) x.row.obligation
  pub paydays_stay : (payday : ℕ) → (payday ≤ as_of) ⊎ (payday ≤ is_owed.period_last)
      → liability (live_sums (entries_of later x.account)) payday payday
      ≡ liability (live_sums (entries_of s x.account)) payday payday
  pub payments_stay : (by : ℕ) → paid_for (entries_of s x.account) x.row.obligation by by
      ≤ paid_for (entries_of later x.account) x.row.obligation by by

-- the row is paid in full by its day to pay by, with payments that are dated up to it; and where
-- that is the due date of the return that the deposit may be paid with, so is all that is owed for
-- the return
pub record IsPaidInTime (own : Entries) (as_of : ℕ) (x : AgendaRow) : Type 0 where
  pub deposit : x.row.obligation.cents.0 ≤ paid_for own x.row.obligation x.pay_by x.pay_by
  pub with_return : x.row.verdict ≡ WithReturn → return_last_of x.form x.row < as_of
      → IsReturnPaid own (quarter_of (first_day_of x)) x.pay_by
