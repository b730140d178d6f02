-- How the rows of a patch differ from those that they replace.
use Rattle.std.specs.Prelude.{ℕ, ◌≤◌, List, ◌++◌, Bool, nat_lt, map, filter}
use Rattle.std.specs.List.Sorted.{IsPermutation}
use Rattle.ftd_rules.specs.declared.Obligation.{Obligation}
use Rattle.ftd_rules.specs.declared.YearLine.{YearLine}
use Rattle.ftd_rules.specs.Obligations.{ByFirstDay, begins_on}
use Rattle.ftd_sql.specs.declared.TableName.TheVariants.{Obligations}
use Rattle.ftd_sql.specs.Standing.{Tables}
use Rattle.ftd_sql.specs.Tests.{is_obligation_between}
use Rattle.ftd_store.specs.Cells.{day_number}
use Rattle.ftd_store.specs.Rows.{obligation_row}
use Rattle.ftd_machine.specs.Posting.{Differ}
use Rattle.ftd_machine.specs.declared.replies.Difference.{Difference}

-- these are the account's obligations that begin on the days from one to another, by first day
pub record AreBetween (account : List ℕ) (from to : ℕ) (rows : List Obligation) (t : Tables)
    : Type 0 where
  pub by_first_day : ByFirstDay rows
  pub are : IsPermutation
      (filter (is_obligation_between account (day_number from) (day_number to)) (t Obligations))
      (map (obligation_row account) rows)

-- the account's obligations that begin on the days from one to another were these, and it is told
-- how those that stand there from now on differ from them
pub record ComparesRows (account : List ℕ) (day from to : ℕ) (rows : List Obligation)
    (difference : Difference) (old : Tables) : Type 0 where
  pub gone : List Obligation
  pub are_gone : AreBetween account from to gone old
  pub differ : ByFirstDay rows
      → Differ gone rows day difference

-- the difference with these years
abbrev pub with_years : Difference → List YearLine → Difference
with_years d years = record d { years = years }

-- the row begins before the days, or after them
abbrev pub begins_before : ℕ → Obligation → Bool
begins_before from o = nat_lt o.first from

abbrev pub begins_after : ℕ → Obligation → Bool
begins_after to o = nat_lt to o.first

-- the rows that begin before the days, the new ones, and those that begin after them
abbrev pub patched : ℕ → ℕ → List Obligation → List Obligation → List Obligation
patched from to rows patch =
    filter (begins_before from) rows ++ (patch ++ filter (begins_after to) rows)

-- these are the account's obligations that begin on this day or later: on whatever days from it on,
-- those of these that begin on them
abbrev pub HasObligations : List ℕ → ℕ → List Obligation → Tables → Type 0
HasObligations account since rows t =
    (from to : ℕ) → since ≤ from → AreBetween account from to (filter (begins_on from to) rows) t
