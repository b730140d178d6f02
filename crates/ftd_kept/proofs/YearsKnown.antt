-- Open years that were listed and told are the account's, each with its lookback total by the
-- totals as they were first reported.
use Rattle.std.proofs.Common.{◌≡◌, ◌∙◌, refl, sym, ap, subst, ℕ, ◌+◌, ◌-◌, ◌<◌, List, [], ◌∷◌, ◌++◌}
use Rattle.std.proofs.Common.{map, take, length, get_or, Some, Ok, Vec}
use Rattle.std.specs.Prelude.{filter, option_map}
use Rattle.ftd_days.specs.declared.cents.Cents.{Cents}
use Rattle.ftd_days.proofs.Spelling.{same_text}
use Rattle.ftd_rules.specs.declared.Form.{Form}
use Rattle.ftd_rules.specs.declared.Form.TheVariants.{F941, F943}
use Rattle.ftd_rules.specs.declared.YearLine.{YearLine}
use Rattle.ftd_rules.specs.Lists.{Has}
use Rattle.ftd_rules.proofs.Members.{has_mapped, mapped_has}
use Rattle.ftd_sql.specs.Standing.{Tables}
use Rattle.ftd_store.specs.Lists.{Pairs}
use Rattle.ftd_store.specs.declared.kept_cells.QuarterTotal.{QuarterTotal}
use Rattle.ftd_store.specs.declared.kept_cells.YearTotal.{YearTotal}
use Rattle.ftd_store.specs.Finds.{ListsYears}
use Rattle.ftd_store.specs.Kept.{ListsReported, ListsReportedYears}
use Rattle.ftd_store.proofs.Items.{taken, pairs_more, paired_from}
use Rattle.ftd_machine.specs.History.{AreLinesOf, HasLookback, figure_of, figures, quarter_figures}
use Rattle.ftd_machine.specs.History.{year_figures}
use Rattle.ftd_machine.specs.Kept.{as_first_reported, line_of}
use Rattle.ftd_machine.specs.Sound.{AreDistinct, IsSound, place_of}
use Rattle.ftd_machine.specs.State.{State, Entry, Entries, entries_of, is_of, kept_at, latest}
use Rattle.ftd_machine.specs.declared.entries.Account.{Account}
use Rattle.ftd_machine.specs.declared.kept.KeptYear.{KeptYear}
use Rattle.ftd_machine.proofs.Entered.{is_kept}
use Rattle.ftd_machine.proofs.Members.{has_filtered}
use Rattle.ftd_entries.specs.Standing.{StandsFor}
use Rattle.ftd_entries.proofs.Figures.{kept_has}
use Rattle.ftd_entries.proofs.Lines.{lines_known}
use Rattle.ftd_entries.proofs.Totals.{SameAt, lookback_same, year_lookback_same, on_941, on_943}
use Rattle.ftd_kept.specs.Kept.{IsKeptYear, IsLookbackBy, KnowsYears, quarter_figure, year_figure}
use Rattle.ftd_kept.proofs.KeptTotals.{quarter_in, quarter_there, year_in, year_there}

-- one open year more is told
pub year_more : (account : Account) (quarters years : List (ℕ × Cents)) (lines : List YearLine)
    (i : ℕ) (line : YearLine) (total : Cents) (rows : List KeptYear)
    → i < length lines → line ≡ get_or lines i line
    → Pairs (IsKeptYear account quarters years) (take i lines) rows
    → IsLookbackBy account.form quarters years account.start line.year total
    → Pairs (IsKeptYear account quarters years) (take (i + 1) lines)
    (rows ++ record { line = line; first_lookback = total } ∷ [])
year_more account quarters years lines i line total rows some is so_far by =
    rw (taken lines i line some is)
    (pairs_more (IsKeptYear account quarters years) (take i lines) rows line
    (record { line = line; first_lookback = total }) so_far
    (record { is_line = refl; is_lookback = by }))

-- ---- the figures as they were first reported

-- what is kept under a key is a figure as it was first reported
first_has : (key : ℕ) (xs : List (Entry Cents)) (cents : Cents) → kept_at key xs ≡ Some cents
    → Has (figures xs []) (key, cents)
first_has key xs cents is = kept_has key xs [] cents (ap (option_map (λ first. latest first [])) is)

-- and the other way round, where no two have the same name and key
has_first : (name : List ℕ) (xs : List (Entry Cents)) → AreDistinct place_of xs → (key : ℕ)
    (cents : Cents) → Has (figures (filter (is_of name) xs) []) (key, cents)
    → kept_at key (filter (is_of name) xs) ≡ Some cents
has_first name xs distinct key cents has =
    let from = has_mapped (figure_of []) (filter (is_of name) xs) (key, cents) has in
    let e : Entry Cents = from.0 in
    let there = has_filtered (is_of name) xs e from.1 in
    let kept : kept_at e.key (filter (is_of name) xs) ≡ Some e.content =
    is_kept name xs distinct e there.0 (same_text e.name name there.1) in
    let at : key ≡ e.key = ap (λ (p : ℕ × Cents). p.0) from.2 in
    let amount : cents ≡ e.content = ap (λ (p : ℕ × Cents). p.1) from.2 in
    ap (λ k. kept_at k (filter (is_of name) xs)) at ∙ kept ∙ ap Some (sym amount)

-- ---- by the tables

module _ {A : Type 0} (name : List ℕ) (quarters : Vec QuarterTotal A) (years : Vec YearTotal A)
    (t : Tables) (of_quarters : ListsReported name quarters t)
    (of_years : ListsReportedYears name years t) (s : State) (stands : StandsFor t s)
    (sound : IsSound s) where
  abbrev first_own : Entries
  first_own = as_first_reported (entries_of s name)

  -- the totals that were read are the figures as they were first reported
  same_quarters : (quarter : ℕ)
      → SameAt (map quarter_figure quarters.items) (quarter_figures first_own) quarter
  same_quarters quarter amount = (
    (λ has.
        (let from = has_mapped quarter_figure quarters.items (quarter, amount) has in
        subst (Has (quarter_figures first_own)) (sym from.2)
        (first_has from.0.quarter (entries_of s name).reported from.0.cents
        (quarter_in name t s stands sound quarters.items of_quarters from.0 from.1)))),
    (λ has. mapped_has quarter_figure quarters.items _
        (quarter_there name t s stands sound quarters.items of_quarters quarter amount
        (has_first name s.reported sound.reported quarter amount has))),
  )

  same_years : (year : ℕ)
      → SameAt (map year_figure years.items) (year_figures first_own) year
  same_years year amount = (
    (λ has.
        (let from = has_mapped year_figure years.items (year, amount) has in
        subst (Has (year_figures first_own)) (sym from.2)
        (first_has from.0.year (entries_of s name).reported_years from.0.cents
        (year_in name t s stands sound years.items of_years from.0 from.1)))),
    (λ has. mapped_has year_figure years.items _
        (year_there name t s stands sound years.items of_years year amount
        (has_first name s.reported_years sound.reported_years year amount has))),
  )

  -- so a lookback total by them is that by the totals as they were first reported
  lookback_is : (account : Account) → (entries_of s name).account ≡ Some account → (form : Form)
      → account.form ≡ form → (year : ℕ) (total : Cents)
      → IsLookbackBy form (map quarter_figure quarters.items) (map year_figure years.items)
      account.start year total → HasLookback first_own year total
  lookback_is account is F941 same year total h =
      on_941 first_own account year is (Ok total) same
      (lookback_same (map quarter_figure quarters.items) (quarter_figures first_own) account.start
      year (λ quarter has. same_quarters quarter) total.0 h)
  lookback_is account is F943 same year total h =
      on_943 first_own account year is (Ok total) same
      (year_lookback_same (map year_figure years.items) (year_figures first_own) account.start
      year (same_years (year - 2)) total h)

told_lines : (account : Account) (quarters years : List (ℕ × Cents)) (lines : List YearLine)
    (rows : List KeptYear) → Pairs (IsKeptYear account quarters years) lines rows
    → map line_of rows ≡ lines
told_lines account quarters years [] [] pairs = refl
told_lines account quarters years [] (x ∷ rows) pairs = absurd pairs
told_lines account quarters years (line ∷ lines) [] pairs = absurd pairs
told_lines account quarters years (line ∷ lines) (x ∷ rows) pairs =
    ap (λ l. l ∷ map line_of rows) pairs.0.is_line
    ∙ ap (λ ls. line ∷ ls) (told_lines account quarters years lines rows pairs.1)

module _ {A : Type 0} (name : List ℕ) (account : Account) (lines : Vec YearLine A)
    (quarters : Vec QuarterTotal A) (years : Vec YearTotal A) (rows : List KeptYear) (t : Tables)
    (of_lines : ListsYears name lines t) (of_quarters : ListsReported name quarters t)
    (of_years : ListsReportedYears name years t)
    (pairs : Pairs (IsKeptYear account (map quarter_figure quarters.items)
    (map year_figure years.items)) lines.items rows) where
  -- the rows are the account's open years
  pub knows_years : KnowsYears name account rows t
  knows_years s stands sound is =
      let by_quarters = map quarter_figure quarters.items in
      let by_years = map year_figure years.items in
      let settled = stands.settled name in
      let same : map line_of rows ≡ settled.lines =
      told_lines account by_quarters by_years lines.items rows pairs
      ∙ lines_known name lines t s stands of_lines settled in
      record {
        are_lines = subst (AreLinesOf (entries_of s name)) (sym same) settled.are_lines;
        first_lookbacks = λ x has.
            (let from = paired_from (IsKeptYear account by_quarters by_years) lines.items rows x
            pairs has in
            subst (λ (l : YearLine).
            HasLookback (as_first_reported (entries_of s name)) l.year x.first_lookback)
            (sym from.2.is_line)
            (lookback_is name quarters years t of_quarters of_years s stands sound account is
            account.form refl from.0.year x.first_lookback from.2.is_lookback));
      }
