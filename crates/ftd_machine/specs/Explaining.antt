-- What the desk answers to the question why an obligation is so.
use Rattle.std.specs.Prelude.{◌≡◌, ◌≤◌, ◌<◌, ◌↔◌, ℕ, true, false, List, Option}
use Rattle.std.specs.Prelude.{None, Some}
use Rattle.ftd_days.specs.Calendar.{quarter_of, weekday_of}
use Rattle.ftd_days.specs.Business.{is_business, is_holiday}
use Rattle.ftd_rules.specs.declared.Obligation.{Obligation}
use Rattle.ftd_rules.specs.Liability.{liability}
use Rattle.ftd_rules.specs.Laws.{Covers, IsFirstCounted}
use Rattle.ftd_rules.specs.Lists.{Has, KeysRise}
use Rattle.ftd_rules.specs.Returns.{IsReturnDue}
use Rattle.ftd_machine.specs.State.{Entries, kept_at}
use Rattle.ftd_machine.specs.History.{form_of, live_sums, AreOwed}
use Rattle.ftd_machine.specs.Checks.{Answer}
use Rattle.ftd_machine.specs.Asking.{IsStatus}
use Rattle.ftd_machine.specs.Agenda.{EachToLater}
use Rattle.ftd_machine.specs.Kept.{IsPaymentBefore}
use Rattle.ftd_machine.specs.declared.explained.CountedDay.{CountedDay}
use Rattle.ftd_machine.specs.declared.explained.DayKind.{DayKind}
use Rattle.ftd_machine.specs.declared.explained.DayKind.TheVariants.{Business, Saturday, Sunday}
use Rattle.ftd_machine.specs.declared.explained.DayKind.TheVariants.{Holiday}
use Rattle.ftd_machine.specs.declared.explained.Explanation.{Explanation}
use Rattle.ftd_machine.specs.declared.explained.RunningSum.{RunningSum}
use Rattle.ftd_machine.specs.declared.kept.KeptPayment.{KeptPayment}
use Rattle.ftd_machine.specs.Told.{status_answer, explained_answer}

-- ---- its paydays

-- a payday of the obligation: a day of it that has liability, with what its days up to this one owe
abbrev pub IsPaydayOf : Entries → Obligation → RunningSum → Type 0
IsPaydayOf own o x =
    Covers o x.day
    × (x.cents.0 ≡ liability (live_sums own) x.day x.day) × (0 < x.cents.0)
    × (x.total.0 ≡ liability (live_sums own) o.first x.day)

abbrev pub day_of_payday : RunningSum → ℕ
day_of_payday x = x.day

-- ---- the days that are counted to its due date

-- what the day is
abbrev pub IsKindOfDay : List ℕ → ℕ → DayKind → Type 0
IsKindOfDay holidays day Business = is_business holidays day ≡ true
IsKindOfDay holidays day Saturday = weekday_of day ≡ 5
IsKindOfDay holidays day Sunday = weekday_of day ≡ 6
IsKindOfDay holidays day Holiday = (weekday_of day < 5) × (is_holiday holidays day ≡ true)

-- a day from the first that is counted to the due date, and what it is
abbrev pub IsCountedDay : List ℕ → Obligation → CountedDay → Type 0
IsCountedDay holidays o x =
    (from : ℕ) × IsFirstCounted o.rule o.last from
    × (from ≤ x.day) × (x.day ≤ o.due) × IsKindOfDay holidays x.day x.kind

abbrev pub day_counted : CountedDay → ℕ
day_counted x = x.day

-- ---- its payments

-- a payment that counts for the obligation: kept under its number, live, for one of its days
abbrev pub IsPaymentOf : Entries → Obligation → KeptPayment → Type 0
IsPaymentOf own o x =
    (kept_at x.number own.payments ≡ Some (record { value = x.payment; voided = false }))
    × Covers o x.payment.for_day
    × (x.voided ≡ false) × (x.obligation ≡ Some o.first)

-- ---- the explanation

-- of one of the obligations: the deposit schedule of its first day and why, its paydays, the days
-- counted to its due date, the due date of the return of the quarter in which it begins, on Form
-- 943 of that year, and its payments
pub record Explains (holidays : List ℕ) (own : Entries) (owed : List Obligation) (e : Explanation)
    : Type 0 where
  pub is_owed : Has owed e.obligation
  pub schedule : IsStatus own e.obligation.first (status_answer e.obligation.first e.kind e.reason)
  pub paydays_rise : KeysRise day_of_payday e.paydays
  pub paydays : (x : RunningSum) → Has e.paydays x ↔ IsPaydayOf own e.obligation x
  pub days_rise : KeysRise day_counted e.days
  pub days : (x : CountedDay) → Has e.days x ↔ IsCountedDay holidays e.obligation x
  pub return_due : IsReturnDue (form_of own.account) holidays (quarter_of e.obligation.first)
      e.return_due
  pub in_order : EachToLater IsPaymentBefore e.payments
  pub payments : (x : KeptPayment) → Has e.payments x ↔ IsPaymentOf own e.obligation x

-- the explanation of the obligation that holds the day, or none where no obligation does
abbrev pub IsExplained : List ℕ → Entries → List Obligation → ℕ → Option Explanation → Type 0
IsExplained holidays own owed day None = (o : Obligation) → Has owed o → Covers o day → ⊥
IsExplained holidays own owed day (Some e) =
    Explains holidays own owed e × Covers e.obligation day

-- the answer is that explanation
pub record IsExplanation (holidays : List ℕ) (own : Entries) (name : List ℕ) (day : ℕ)
    (answer : Answer) : Type 0 where
  pub owed : List Obligation
  pub are_owed : AreOwed holidays own owed
  pub explained : Option Explanation
  pub is_explained : IsExplained holidays own owed day explained
  pub told : answer ≡ explained_answer name day explained
