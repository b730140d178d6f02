-- The rows of the open years.
use Rattle.std.proofs.Common.{◌≡◌, ℕ, ℤ, Bool, true, false, Option, None, Some, List, [], ◌∷◌}
use Rattle.std.proofs.Common.{◌++◌, map, inl, inr, refl, sym, ap, ◌∙◌}
use Rattle.std.specs.Prelude.{filter, option_map}
use Rattle.std.proofs.lemmas.Bool.{cases_Bool}
use Rattle.sqlite.specs.declared.types.Value.TheVariants.{Int}
use Rattle.sqlite.specs.Values.{or_null, bound_value}
use Rattle.ftd_sql.specs.Kept.{changed}
use Rattle.ftd_sql.specs.Rows.{YearRow}
use Rattle.ftd_sql.specs.Answers.{year_shown}
use Rattle.ftd_sql.specs.Orders.{YearsRise}
use Rattle.ftd_sql.specs.Tests.{is_year, is_year_of, with_figures}
use Rattle.ftd_store.specs.declared.cells.StoredDay.{StoredDay}
use Rattle.ftd_store.specs.declared.year_cells.StoredYear.{StoredYear}
use Rattle.ftd_store.specs.Cells.{day_number, year_cells}
use Rattle.ftd_store.specs.Lists.{Pairs, Lists}
use Rattle.ftd_store.specs.Years.{year_line, year_lines}
use Rattle.ftd_store.specs.Changes.{put_among}
use Rattle.ftd_store.specs.Finds.{IsYear}
use Rattle.ftd_store.proofs.Same.{row_told}

-- ---- put

-- the row of a year with the figures of another row of that year is that row
figures_are : (y x : YearRow) → is_year y.account y.year x ≡ true
    → with_figures y.lookback y.opening y.turn x ≡ y
figures_are y x passes = search row_told

put_same : (y x : YearRow) → changed (is_year y.account y.year)
    (with_figures y.lookback y.opening y.turn) x ≡ changed (is_year y.account y.year) (λ z. y) x
put_same y x = elim (cases_Bool (is_year y.account y.year x)) [
  | inl passes ↦ rw passes (figures_are y x passes)
  | inr fails ↦ rw fails refl
]

all_put : (y : YearRow) (rows : List YearRow)
    → map (changed (is_year y.account y.year) (with_figures y.lookback y.opening y.turn)) rows ≡ map
    (changed (is_year y.account y.year) (λ z. y)) rows
all_put y [] = refl
all_put y (x ∷ rows) = rw (put_same y x, all_put y rows) refl

-- the row takes the place of the one of its year
pub put_in_place : (y x : YearRow) (more rows : List YearRow)
    → filter (is_year y.account y.year) rows ≡ x ∷ more
    → map (changed (is_year y.account y.year) (with_figures y.lookback y.opening y.turn)) rows
    ≡ put_among (filter (is_year y.account y.year) rows) y rows
put_in_place y x more rows there = all_put y rows ∙ ap (λ found. put_among found y rows) (sym there)

-- the row comes last where its year has none
pub put_last : (y : YearRow) (rows : List YearRow) → filter (is_year y.account y.year) rows ≡ []
    → rows ++ y ∷ [] ≡ put_among (filter (is_year y.account y.year) rows) y rows
put_last y rows none = ap (λ found. put_among found y rows) (sym none)

-- a turn as it is given to a statement
pub turn_given : (turn : Option ℕ) (given : Option StoredDay)
    → turn ≡ option_map (λ (d : StoredDay). d.0) given
    → bound_value (or_null (λ (d : StoredDay). Int (day_number d.0)) given) ≡ or_null Int
    (option_map day_number turn)
turn_given turn None is = rw is refl
turn_given turn (Some day) is = rw is refl

-- ---- listed

same_turn : (a : Option ℤ) (b : Option ℕ) → or_null Int a ≡ or_null (λ day. Int (day_number day)) b
    → a ≡ option_map day_number b
same_turn None None h = refl
same_turn None (Some b) h = absurd cc
same_turn (Some a) None h = absurd cc
same_turn (Some a) (Some b) h = let same : a ≡ day_number b = cc in ap Some same

-- the row is that of the year, carried or not
abbrev pub IsStoredYear : List ℕ → YearRow → StoredYear → Type 0
IsStoredYear account row y = (carried : Bool) → IsYear account row (year_line carried y)

pub stored_year_is : (account : List ℕ) (x : YearRow) (y : StoredYear) → is_year_of account x ≡ true
    → year_shown x ≡ year_cells y → IsStoredYear account x y
stored_year_is account x y passes h carried =
    let turn = same_turn x.turn y.turn cc in
    search row_told

lines_are : (account : List ℕ) (carried : Bool) (xs : List YearRow) (ys : List StoredYear)
    → Pairs (IsStoredYear account) xs ys → Pairs (IsYear account) xs (year_lines carried ys)
lines_are account carried [] [] pairs = tt
lines_are account carried [] (y ∷ ys) pairs = absurd pairs
lines_are account carried (x ∷ xs) [] pairs = absurd pairs
lines_are account carried (x ∷ xs) (y ∷ ys) pairs =
    (pairs.0 carried, lines_are account false xs ys pairs.1)

pub lines_listed : (account : List ℕ) (carried : Bool) (rows : List YearRow) (ys : List StoredYear)
    → Lists YearsRise (IsStoredYear account) rows ys → Lists YearsRise (IsYear account) rows
    (year_lines carried ys)
lines_listed account carried rows ys l = record {
  ordered = l.ordered;
  same = l.same;
  rise = l.rise;
  pairs = lines_are account carried l.ordered ys l.pairs;
}
