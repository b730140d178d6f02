-- What the desk answers to a pay run that is posted or voided: which obligations were removed, and
-- which were added, and which years are on another schedule.
use Rattle.std.specs.Prelude.{◌≡◌, ◌⊎◌, ◌≤◌, ◌↔◌, ℕ, List, [], ◌++◌, Ok}
use Rattle.ftd_rules.specs.declared.Obligation.{Obligation}
use Rattle.ftd_rules.specs.declared.YearLine.{YearLine}
use Rattle.ftd_rules.specs.Lists.{Has, KeysRise}
use Rattle.ftd_machine.specs.State.{Entries}
use Rattle.ftd_machine.specs.History.{year_of_line, AreOwed}
use Rattle.ftd_machine.specs.Checks.{Answer}
use Rattle.ftd_machine.specs.declared.replies.Difference.{Difference}
use Rattle.ftd_machine.specs.declared.replies.Reply.TheVariants.{Posted}

-- those of the items of which something holds, each with a greater key than the one before
pub record AreThose {X : Type 0} (key : X → ℕ) (Holds : X → Type 0) (items those : List X) : Type 0
  where
    pub in_order : KeysRise key those
    pub all : (x : X) → Has those x ↔ (Has items x × Holds x)

-- those of the rows that are not among the others, by first day: they differ from each of these in
-- first day, last day, rule, amount or due date
abbrev pub AreOnlyIn : List Obligation → List Obligation → List Obligation → Type 0
AreOnlyIn rows others only = AreThose (λ o. o.first) (λ o. Has others o → ⊥) rows only

-- the least first day and the greatest last day of the rows
pub record Spans (rows : List Obligation) (from to : ℕ) : Type 0 where
  pub first : Obligation
  pub has_first : Has rows first
  pub from_is : from ≡ first.first
  pub last : Obligation
  pub has_last : Has rows last
  pub to_is : to ≡ last.last
  pub within : (o : Obligation) → Has rows o → (from ≤ o.first) × (o.last ≤ to)

-- the rows that were removed and those that were added, and their days; the payday twice where
-- there are none
pub record Differ (before after : List Obligation) (payday : ℕ) (d : Difference) : Type 0 where
  pub are_removed : AreOnlyIn before after d.removed
  pub are_added : AreOnlyIn after before d.added
  pub days : Spans (d.removed ++ d.added) d.from d.to
      ⊎ ((d.removed ++ d.added ≡ []) × (d.from ≡ payday) × (d.to ≡ payday))

-- the lines are of one year, with one opening and one turn
abbrev pub IsScheduledAs : YearLine → YearLine → Type 0
IsScheduledAs line other =
    (line.year ≡ other.year) × (line.opening ≡ other.opening) × (line.turn ≡ other.turn)

-- no line before is scheduled as this one: the year opens on another schedule, turns on another
-- day, or turns no more
abbrev pub IsOnOtherSchedule : List YearLine → YearLine → Type 0
IsOnOtherSchedule before line = (old : YearLine) → Has before old → IsScheduledAs old line → ⊥

abbrev pub AreOnOtherSchedules : List YearLine → List YearLine → List YearLine → Type 0
AreOnOtherSchedules before after years =
    AreThose year_of_line (IsOnOtherSchedule before) after years

-- the answer tells how the account's obligations differ, before and after, and which of its open
-- years, the first of what the obligations rest on
pub record IsPosted (holidays : List ℕ) (own after : Entries) (payday : ℕ) (answer : Answer)
    : Type 0 where
  pub rows : List Obligation
  pub owed : AreOwed holidays own rows
  pub rows_after : List Obligation
  pub owed_after : AreOwed holidays after rows_after
  pub difference : Difference
  pub differ : Differ rows rows_after payday difference
  pub years : AreOnOtherSchedules owed.0 owed_after.0 difference.years
  pub told : answer ≡ Ok (Posted difference)
