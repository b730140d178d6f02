-- The runs that were taken so far, as the code keeps them. Private contracts speak of it; the
-- public ones say which runs count (Plain).
use Rattle.std.specs.Prelude.{◌≡◌, ◌≢◌, ◌⊎◌, ◌<◌, ◌≤◌, ◌+◌, ℕ, List, length, map, Some, None, ⊤}
use Rattle.std.specs.Prelude.{true, MatchBool, Contains, ◌↔◌, ◌++◌}
use Rattle.std.specs.Map.{lookup}
use Rattle.std.specs.BTreeMap.{is_at, insert_entry}
use Rattle.std.specs.Ordering.{nat_cmp}
use Rattle.ftd_days.specs.declared.limits.TheConstants.{SPELLED_END}
use Rattle.ftd_machine.specs.declared.limits.TheConstants.{MOST_ENTRIES}
use Rattle.ftd_rules.specs.declared.DaySum.{DaySum}
use Rattle.ftd_rules.specs.declared.run.PayRun.{PayRun}
use Rattle.ftd_rules.specs.Liability.{run_liability}
use Rattle.ftd_csv.specs.Places.{said_left}
use Rattle.ftd_csv.specs.declared.reading.Records.{Records}
use Rattle.ftd_plain.specs.Plain.{FirstFault, IsCalendar, NoneAtFault, Run, SaidRun, enters}
use Rattle.ftd_plain.specs.Plain.{is_taken, malformed, run_said, taken}
use Rattle.ftd_plain.specs.declared.fault.PlainFault.{PlainFault}
use Rattle.ftd_plain.specs.declared.fault.PlainFault.TheVariants as fault

-- what the records that are left say of pay runs
abbrev pub runs_left : Records → List SaidRun
runs_left records = map run_said (said_left records)

-- the runs of an account that are kept
abbrev pub run_of : List ℕ → ℕ × PayRun → Run
run_of account entry = record { employer = account; number = entry.0; run = entry.1 }

abbrev pub runs_of : List ℕ → List (ℕ × PayRun) → List Run
runs_of account entries = map (run_of account) entries

abbrev pub TakesRun : List (ℕ × PayRun) → ℕ → PayRun → List (ℕ × PayRun) → Type 0
TakesRun old number run new =
    ((lookup (is_at (nat_cmp number)) old ≡ Some run) × (new ≡ old))
    ⊎ ((lookup (is_at (nat_cmp number)) old ≡ None) × (length old < MOST_ENTRIES)
    × (new ≡ insert_entry nat_cmp old number run))

abbrev pub RefusesRun : List (ℕ × PayRun) → ℕ → PayRun → PlainFault → Type 0
RefusesRun old number run (fault.RunDiffers other) =
    (other ≡ number) × (kept : PayRun) × (lookup (is_at (nat_cmp number)) old ≡ Some kept)
    × (kept ≢ run)
RefusesRun old number run fault.TooManyRuns =
    (lookup (is_at (nat_cmp number)) old ≡ None) × (length old ≡ MOST_ENTRIES)
RefusesRun old number run fault.Memory = ⊤
RefusesRun old number run other = ⊥

abbrev pub TakesRecord : List ℕ → ℕ → List (ℕ × PayRun) → SaidRun → List (ℕ × PayRun) → Type 0
TakesRecord account year old (malformed place) new = ⊥
TakesRecord account year old (enters run) new =
    MatchBool (is_taken account year run) (TakesRun old run.number run.run new)
    (new ≡ old)

abbrev pub RefusesRecord : List ℕ → ℕ → ℕ → List (ℕ × PayRun) → SaidRun → PlainFault → Type 0
RefusesRecord account year number old (malformed place) f = f ≡ fault.Malformed number place
RefusesRecord account year number old (enters run) f =
    (is_taken account year run ≡ true) × RefusesRun old run.number run.run f

-- the records that were read, the runs taken of them, and those that are left
pub record HasTaken (account : List ℕ) (year : ℕ) (records left : List SaidRun) (number : ℕ)
    (entries : List (ℕ × PayRun)) : Type 0 where
  pub before : List SaidRun
  pub parts : records ≡ before ++ left
  pub count : number ≡ 2 + length before
  pub none_at_fault : NoneAtFault account year before
  pub same : (run : Run)
      → Contains (runs_of account entries) run ↔ Contains (taken account year before) run
  pub few : length entries ≤ MOST_ENTRIES

-- what a kept run adds to the liability of its payday
abbrev pub sum_of : PayRun → DaySum
sum_of kept =
    record {
      day = kept.payday;
      cents = record { 0 = run_liability kept.fit.0 kept.ss.0 kept.medicare.0 };
    }

-- its amounts are below 1,000,000,000.00
pub record IsSmall (kept : PayRun) : Type 0 where
  pub fit : kept.fit.0 < SPELLED_END
  pub ss : kept.ss.0 < SPELLED_END
  pub medicare : kept.medicare.0 < SPELLED_END

-- all records were read
pub record TakesAll (account : List ℕ) (year : ℕ) (records : List SaidRun)
    (entries : List (ℕ × PayRun)) : Type 0 where
  pub none_at_fault : NoneAtFault account year records
  pub same : (run : Run)
      → Contains (runs_of account entries) run ↔ Contains (taken account year records) run
  pub few : length entries ≤ MOST_ENTRIES

-- why the holidays are no calendar
abbrev pub CalendarFails : ℕ → List ℕ → PlainFault → Type 0
CalendarFails year holidays f =
    (f ≡ fault.Memory) ⊎ ((f ≡ fault.BadCalendar) × ¬ IsCalendar year holidays)

-- the taking stopped at the first record that is at fault, or for want of memory
abbrev pub StopsAtFault : List ℕ → ℕ → List SaidRun → PlainFault → Type 0
StopsAtFault account year records f = (f ≡ fault.Memory) ⊎ FirstFault account year records f
