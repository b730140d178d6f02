-- A patch in the place of the account's obligations, and of the lines of the same years.
use Rattle.std.specs.Prelude.{◌≡◌, ◌≢◌, ◌⊎◌, ℕ, List, map, filter}
use Rattle.std.specs.List.Sorted.{IsPermutation}
use Rattle.ftd_rules.specs.declared.YearLine.{YearLine}
use Rattle.ftd_rules.specs.Lists.{Has}
use Rattle.ftd_rules.specs.Years.{AreOpenYears}
use Rattle.ftd_buckets.specs.declared.Patch.{Patch}
use Rattle.ftd_sql.specs.declared.TableName.{TableName}
use Rattle.ftd_sql.specs.declared.TableName.TheVariants.{Years, Obligations}
use Rattle.ftd_sql.specs.Standing.{Tables, with_rows}
use Rattle.ftd_sql.specs.Tests.{is_year_of}
use Rattle.ftd_store.specs.Lists.{Pairs}
use Rattle.ftd_store.specs.Rows.{year_row}
use Rattle.ftd_store.specs.Changes.{with_obligations}

-- the line under the opening and the turn of another one
abbrev pub scheduled_as : YearLine → YearLine → YearLine
scheduled_as line other = record {
  year = line.year;
  lookback = line.lookback;
  carried = line.carried;
  opening = other.opening;
  turn = other.turn;
}

-- the line has the opening and the turn of a changed one of its year
abbrev pub IsRescheduled : List YearLine → YearLine → YearLine → Type 0
IsRescheduled changed line after =
    (other : YearLine) × Has changed other × (other.year ≡ line.year)
    × (after ≡ scheduled_as line other)

-- none of the changed ones is of the line's year
abbrev pub IsUnnamed : List YearLine → YearLine → Type 0
IsUnnamed changed line = (other : YearLine) → Has changed other → other.year ≡ line.year → ⊥

-- the line has the opening and the turn of a changed one of its year; if there is none, its own
abbrev pub IsAfter : List YearLine → YearLine → YearLine → Type 0
IsAfter changed line after =
    IsRescheduled changed line after ⊎ ((after ≡ line) × IsUnnamed changed line)

-- so has each of the lines, in their order
abbrev pub AreAfter : List YearLine → List YearLine → List YearLine → Type 0
AreAfter lines changed after = Pairs (IsAfter changed) lines after

-- the account's rows of open years are those of these lines, of years without a gap
abbrev pub HasLines : List ℕ → List YearLine → Tables → Type 0
HasLines account lines t =
    IsPermutation (filter (is_year_of account) (t Years)) (map (year_row account) lines)
    × AreOpenYears lines

-- the account's rows of open years are those of these lines now, and no other row differs
pub record PutsLines (account : List ℕ) (lines : List YearLine) (old new : Tables) : Type 0 where
  pub has : IsPermutation (filter (is_year_of account) (new Years)) (map (year_row account) lines)
  pub others : (other : List ℕ) → other ≢ account
      → filter (is_year_of other) (new Years) ≡ filter (is_year_of other) (old Years)
  pub only : (n : TableName) → new n ≡ with_rows Years (new Years) old n

-- the account's obligations that begin on the days of the patch are its rows now, in whatever order
-- the table has them, and no other row differs
pub record PutsRows (account : List ℕ) (patch : Patch) (old new : Tables) : Type 0 where
  pub are : IsPermutation (new Obligations)
      (with_obligations account patch.from patch.to patch.rows old Obligations)
  pub only : (n : TableName) → new n ≡ with_rows Obligations (new Obligations) old n

-- so, and the years that the patch names have its openings and turns
pub record PutsPatch (account : List ℕ) (lines : List YearLine) (patch : Patch)
    (old new : Tables) : Type 0 where
  pub after : List YearLine
  pub are_after : AreAfter lines patch.years after
  pub placed : Tables
  pub rows : PutsRows account patch old placed
  pub puts : PutsLines account after placed new

-- so, and these are the account's lines now
abbrev pub PutsInto : List ℕ → List YearLine → Patch → List YearLine → Tables → Tables → Type 0
PutsInto account lines patch lines_after old new =
    (put : PutsPatch account lines patch old new) × (lines_after ≡ put.after)
