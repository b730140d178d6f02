-- Which years of an account are open, by its rows.
use Rattle.std.proofs.Common.{◌≡◌, refl, sym, ap, ◌∙◌, ℕ, ◌==◌, ◌||◌, pos, Bool, true, false}
use Rattle.std.proofs.Common.{if◌then◌else◌, List, [], ◌∷◌, map, Some}
use Rattle.std.specs.Prelude.{filter, find, option_map, is_some, Vec}
use Rattle.std.specs.List.{list_any}
use Rattle.std.specs.Ordering.{int_eq}
use Rattle.std.proofs.lemmas.List.Sorted.{list_any-IsPermutation}
use Rattle.ftd_rules.specs.declared.YearLine.{YearLine}
use Rattle.ftd_sql.specs.declared.TableName.TheVariants.{Years}
use Rattle.ftd_sql.specs.Rows.{YearRow}
use Rattle.ftd_sql.specs.Standing.{Tables}
use Rattle.ftd_sql.specs.Tests.{is_year_of}
use Rattle.ftd_store.specs.Rows.{year_row}
use Rattle.ftd_store.specs.Lists.{Pairs}
use Rattle.ftd_store.specs.Finds.{ListsYears, IsYear}
use Rattle.ftd_machine.specs.State.{Entry, has_key, content_of, kept_at, is_of}
use Rattle.ftd_machine.specs.History.{year_of_line, year_of_entry}
use Rattle.ftd_entries.specs.Known.{KnowsYear}
use Rattle.ftd_entries.proofs.CalendarRows.{year_cell}

module _ (year : ℕ) where
  abbrev is_it : ℕ → Bool
  is_it other = other == year

  abbrev is_line : YearLine → Bool
  is_line line = line.year == year

  abbrev is_row : YearRow → Bool
  is_row row = int_eq row.year (pos year)

  any_map : {X Y : Type 0} (test : Y → Bool) (f : X → Y) (xs : List X)
      → list_any test (map f xs) ≡ list_any (λ x. test (f x)) xs
  any_map test f [] = refl
  any_map test f (x ∷ xs) = ap (λ b. test (f x) || b) (any_map test f xs)

  any_entry : (xs : List (Entry (Unit {0}))) → is_some (kept_at year xs) ≡ list_any is_it
      (map year_of_entry xs)
  any_entry [] = refl
  any_entry (e ∷ xs) = step (e.key == year) (any_entry xs)
    where
      step : (b : Bool) → is_some (kept_at year xs) ≡ list_any is_it (map year_of_entry xs)
          → is_some (option_map content_of (if b then Some e else find (has_key year) xs))
          ≡ (b || list_any is_it (map year_of_entry xs))
      step true same = refl
      step false same = same

  any_row : (name : List ℕ) (lines : List YearLine) → list_any is_row (map (year_row name) lines)
      ≡ list_any is_line lines
  any_row name [] = refl
  any_row name (line ∷ lines) = rw (year_cell line.year year, any_row name lines) refl

  any_paired : (name : List ℕ) (rows : List YearRow) (lines : List YearLine)
      → Pairs (IsYear name) rows lines → list_any is_row rows ≡ list_any is_line lines
  any_paired name [] [] pairs = refl
  any_paired name [] (line ∷ lines) pairs = absurd pairs
  any_paired name (row ∷ rows) [] pairs = absurd pairs
  any_paired name (row ∷ rows) (line ∷ lines) pairs = rw (
    pairs.0,
    year_cell line.year year,
    any_paired name rows lines pairs.1,
  ) refl

  -- a year is open where one of the lines that are listed is of it
  pub knows_year : {A : Type 0} (name : List ℕ) (lines : Vec YearLine A) (t : Tables)
      → ListsYears name lines t → KnowsYear name year (list_any is_line lines.items) t
  knows_year name lines t lists s stands =
      let was = stands.settled name in
      let rows = filter (is_year_of name) (t Years) in
      let opened : is_some (kept_at year (filter (is_of name) s.open_years)) ≡ list_any is_line
      was.lines =
      any_entry (filter (is_of name) s.open_years) ∙ ap (list_any is_it) (sym was.are_lines.years)
      ∙ any_map is_it year_of_line was.lines in
      let rowed : list_any is_row rows ≡ list_any is_line was.lines =
      list_any-IsPermutation is_row rows (map (year_row name) was.lines) was.line_rows
      ∙ any_row name was.lines in
      let shown : list_any is_row rows ≡ list_any is_line lines.items =
      list_any-IsPermutation is_row rows lists.listed.ordered lists.listed.same
      ∙ any_paired name lists.listed.ordered lines.items lists.listed.pairs in
      opened ∙ sym rowed ∙ shown
