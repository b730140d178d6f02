-- Why an obligation is so, by what the tables have.
use Rattle.std.specs.Prelude.{◌≡◌, ◌↔◌, ◌&&◌, ◌+◌, ◌-◌, ℕ, zero, suc, Bool, true, int_le, List, []}
use Rattle.std.specs.Prelude.{◌∷◌, filter, Option, None, Some, Ok, MatchOption}
use Rattle.std.specs.List.{list_any}
use Rattle.ftd_days.specs.Calendar.{year_of, quarter_of}
use Rattle.ftd_rules.specs.declared.DaySum.{DaySum}
use Rattle.ftd_rules.specs.declared.Form.{Form}
use Rattle.ftd_rules.specs.declared.Obligation.{Obligation}
use Rattle.ftd_rules.specs.declared.YearLine.{YearLine}
use Rattle.ftd_rules.specs.Laws.{Covers, IsFirstCounted}
use Rattle.ftd_rules.specs.Lists.{Has, KeysRise}
use Rattle.ftd_rules.specs.Returns.{IsReturnDue}
use Rattle.ftd_sql.specs.Orders.{RunsRise}
use Rattle.ftd_sql.specs.Rows.{ObligationRow}
use Rattle.ftd_sql.specs.Standing.{Tables}
use Rattle.ftd_sql.specs.Tests.{is_live_run_between, is_obligation_between}
use Rattle.ftd_sql.specs.declared.TableName.TheVariants.{Obligations, Runs}
use Rattle.ftd_store.specs.Cells.{day_number}
use Rattle.ftd_store.specs.DaySums.{ListsDaySums}
use Rattle.ftd_store.specs.Finds.{FindsForm}
use Rattle.ftd_store.specs.Holidays.{HasYears}
use Rattle.ftd_store.specs.Lists.{Pairs}
use Rattle.ftd_store.specs.Rows.{obligation_row}
use Rattle.ftd_machine.specs.Checks.{Answer}
use Rattle.ftd_machine.specs.Explaining.{IsPaydayOf, day_of_payday, IsKindOfDay}
use Rattle.ftd_machine.specs.Explaining.{Explains, IsExplained}
use Rattle.ftd_machine.specs.History.{form_of}
use Rattle.ftd_machine.specs.Sound.{IsSound}
use Rattle.ftd_machine.specs.State.{State, entries_of, holidays}
use Rattle.ftd_machine.specs.declared.explained.CountedDay.{CountedDay}
use Rattle.ftd_machine.specs.declared.explained.Explanation.{Explanation}
use Rattle.ftd_machine.specs.declared.explained.RunningSum.{RunningSum}
use Rattle.ftd_machine.specs.declared.facts.ExplainedDay.{ExplainedDay}
use Rattle.ftd_machine.specs.declared.facts.Facts.TheVariants.{Explained}
use Rattle.ftd_machine.specs.declared.kept.KeptPayment.{KeptPayment}
use Rattle.ftd_machine.specs.declared.replies.Reply.TheVariants.{Told}
use Rattle.ftd_entries.specs.Opening.{is_line_of}
use Rattle.ftd_entries.specs.Standing.{StandsFor}
use Rattle.ftd_kept.specs.Payments.{ShowsPayments}
use Rattle.ftd_kept.specs.Schedules.{AreScheduled, IsScheduleBy}
use Rattle.ftd_kept.specs.declared.schedules.Schedule.{Schedule}

-- ---- the obligation

-- it is the account's obligation that covers the day, or none does, in each state for which the
-- tables stand
abbrev pub KnowsCovering : List ℕ → ℕ → Option Obligation → Tables → Type 0
KnowsCovering name day found t =
    (s : State) (stands : StandsFor t s)
    → MatchOption found
    ((o : Obligation) → Has (stands.settled name).owed o → Covers o day → ⊥)
    (λ o. Has (stands.settled name).owed o × Covers o day)

-- an obligation of the account in the tables that begins by the day and does not end before it
abbrev pub is_covering : List ℕ → ℕ → ObligationRow → Bool
is_covering name day r =
    is_obligation_between name (day_number 0) (day_number day) r && int_le (day_number day) r.last

-- it is one of the tables, or there is none, whatever else these hold
abbrev pub ShowsCovering : List ℕ → ℕ → Option Obligation → Tables → Type 0
ShowsCovering name day None t =
    (r : ObligationRow) → Has (t Obligations) r → is_covering name day r ≡ true → ⊥
ShowsCovering name day (Some o) t = Has (t Obligations) (obligation_row name o) × Covers o day

-- ---- paydays

-- the rows are the sums, each with what they are together up to it and before the first
abbrev pub AreRunning : ℕ → List DaySum → List RunningSum → Type 0
AreRunning before [] [] = Unit {0}
AreRunning before [] (x ∷ rows) = ⊥
AreRunning before (sum ∷ sums) [] = ⊥
AreRunning before (sum ∷ sums) (x ∷ rows) =
    let total = before + sum.cents.0 in
    (x.day ≡ sum.day) × (x.cents ≡ sum.cents) × (x.total.0 ≡ total) × AreRunning total sums rows

-- they are the days on which live runs of the account in the tables were paid from one day to
-- another, by day: each with what its runs owe, which is not zero, and with what they owe together
-- from the first day on
pub record ShowsPaydays (name : List ℕ) (first last : ℕ) (rows : List RunningSum) (t : Tables)
    : Type 0 where
  pub sums : List DaySum
  pub are_sums : ListsDaySums RunsRise name
      (filter (is_live_run_between name (day_number first) (day_number last)) (t Runs)) sums
  pub running : AreRunning 0 sums rows

-- they are the paydays of the account's obligation, in each state for which the tables stand; and
-- those of the tables for its days, whatever else these hold
pub record KnowsPaydays (name : List ℕ) (o : Obligation) (rows : List RunningSum) (t : Tables)
    : Type 0 where
  pub shown : ShowsPaydays name o.first o.last rows t
  pub rise : (s : State) → StandsFor t s → KeysRise day_of_payday rows
  pub all : (s : State) → StandsFor t s → (x : RunningSum)
      → Has rows x ↔ IsPaydayOf (entries_of s name) o x

-- ---- the days that are counted

-- so many days from the first on
abbrev pub days_from : ℕ → ℕ → List ℕ
days_from first zero = []
days_from first (suc n) = first ∷ days_from (first + 1) n

-- the day is told so
abbrev pub IsCounted : List ℕ → ℕ → CountedDay → Type 0
IsCounted holidays day x = (x.day ≡ day) × IsKindOfDay holidays day x.kind

-- they are told of the first day that is counted and of those after it to the due date
abbrev pub AreCounted : List ℕ → Obligation → List CountedDay → Type 0
AreCounted holidays o days =
    (from : ℕ) × IsFirstCounted o.rule o.last from
    × Pairs (IsCounted holidays) (days_from from (o.due + 1 - from)) days

-- ---- the explanation

-- it is told by the lines of the open years, the holidays, the paydays and the payments
pub record IsToldBy (form : Form) (lines : List YearLine) (holidays : List ℕ) (o : Obligation)
    (paydays : List RunningSum) (payments : List KeptPayment) (e : Explanation) : Type 0 where
  pub obligation : e.obligation ≡ o
  pub schedule : list_any (is_line_of (year_of o.first)) lines ≡ true → AreScheduled lines
      → (schedule : Schedule) × IsScheduleBy lines o.first schedule
      × (schedule.kind ≡ e.kind) × (schedule.reason ≡ e.reason)
  pub paydays_are : e.paydays ≡ paydays
  pub days : AreCounted holidays o e.days
  pub return_due : IsReturnDue form holidays (quarter_of o.first) e.return_due
  pub payments_are : e.payments ≡ payments

-- it explains the account's obligation, in each sound state for which the tables stand, and in
-- which the account has the form and the lines
abbrev pub KnowsExplanation : List ℕ → Form → List YearLine → Obligation → Explanation → Tables
    → Type 0
KnowsExplanation name form lines o e t =
    (s : State) (stands : StandsFor t s) → IsSound s → form_of (entries_of s name).account ≡ form
    → lines ≡ (stands.settled name).lines → Has (stands.settled name).owed o
    → (e.obligation ≡ o)
    × Explains (holidays s) (entries_of s name) (stands.settled name).owed e

-- so is the one that covers the day explained, or none does
abbrev pub KnowsExplained : List ℕ → Form → List YearLine → ℕ → Option Explanation → Tables
    → Type 0
KnowsExplained name form lines day found t =
    (s : State) (stands : StandsFor t s) → IsSound s → form_of (entries_of s name).account ≡ form
    → lines ≡ (stands.settled name).lines
    → IsExplained (holidays s) (entries_of s name) (stands.settled name).owed day found

-- ---- the rows of the tables, whatever else these hold

-- its paydays and payments are those of the tables that stand in its period, and its days and the
-- due date of its return are counted by holidays of the tables
pub record ShowsExplanation (name : List ℕ) (form : Form) (e : Explanation) (t : Tables)
    : Type 0 where
  pub paydays : ShowsPaydays name e.obligation.first e.obligation.last e.paydays t
  pub payments : ShowsPayments name e.obligation.first e.obligation.last e.payments t
  pub holidays : List ℕ
  pub are_holidays : HasYears (year_of e.obligation.first) (year_of e.obligation.first + 1) holidays
      t
  pub days : AreCounted holidays e.obligation e.days
  pub return_due : IsReturnDue form holidays (quarter_of e.obligation.first) e.return_due

-- so is what is found of the day, of an obligation of the tables that covers it; or there is none
abbrev pub ShowsFound : List ℕ → Form → ℕ → Option Explanation → Tables → Type 0
ShowsFound name form day None t = ShowsCovering name day None t
ShowsFound name form day (Some e) t =
    ShowsCovering name day (Some e.obligation) t × ShowsExplanation name form e t

-- an explanation that is answered shows the tables' rows as they stand, by the form of the account
-- in the tables
abbrev pub ShowsExplained : List ℕ → ℕ → Answer → Tables → Type 0
ShowsExplained name day answer t =
    (told : ExplainedDay) → answer ≡ Ok (Told (Explained told))
    → (form : Form) × FindsForm name (Some form) t × ShowsFound name form day told.found t
