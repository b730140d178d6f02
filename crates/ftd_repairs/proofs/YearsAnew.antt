-- Years are opened anew, one after the other, over the tables.
use Rattle.std.proofs.Common.{◌≡◌, ◌≢◌, ℕ, zero, suc, ◌+◌, ◌<◌, ◌≤◌, ◌↔◌, inl, inr, List, [], ◌∷◌}
use Rattle.std.proofs.Common.{◌++◌, length, get_or, sym, ap, ◌∙◌, subst, arith}
use Rattle.std.specs.Prelude.{IsTrue}
use Rattle.std.specs.List.{All}
use Rattle.std.proofs.lemmas.List.{length-append}
use Rattle.ftd_days.specs.Business.{holidays_end}
use Rattle.ftd_days.specs.Calendar.{year_start}
use Rattle.ftd_rules.specs.declared.Form.{Form}
use Rattle.ftd_rules.specs.declared.Kind.{Kind}
use Rattle.ftd_rules.specs.declared.Kind.TheVariants as kind
use Rattle.ftd_rules.specs.declared.YearLine.{YearLine}
use Rattle.ftd_rules.specs.Lists.{Has}
use Rattle.ftd_rules.specs.Years.{AreOpenYears, TurnedBefore, YearsFrom, year_last}
use Rattle.ftd_rules.specs.Private.Years.{OpensBy}
use Rattle.ftd_rules.proofs.Owed.{has_right}
use Rattle.ftd_rules.proofs.Schedules.{year_facts, years_within}
use Rattle.ftd_buckets.specs.declared.Patch.{Patch}
use Rattle.ftd_buckets.specs.Histories.{History}
use Rattle.ftd_sql.specs.Standing.{Tables}
use Rattle.ftd_store.proofs.Items.{has_at}
use Rattle.ftd_repairs.specs.declared.reopening.Anew.{Anew}
use Rattle.ftd_repairs.specs.Reopened.{IsAmong}
use Rattle.ftd_repairs.specs.Anew.{AddsYearOf, IsPatchFrom}
use Rattle.ftd_repairs.specs.Reopening.{IsReopening, Reopens, YearRunsAre}
use Rattle.ftd_repairs.proofs.LinesAnew.{later_stay}
use Rattle.ftd_repairs.proofs.RowsAnew.{IsAnewTo, anew_more, anew_none, anew_right, year_of_line}
use Rattle.ftd_repairs.proofs.RowsAnew.{year_opens, year_stays}

-- ---- the years of lines

-- the lines after some others
years_after : (first : ℕ) (xs ys : List YearLine) → YearsFrom first (xs ++ ys)
    → YearsFrom (first + length xs) ys
years_after first [] ys years =
    subst (λ n. YearsFrom n ys) (let e : first ≡ first + 0 = omega arith in e) years
years_after first (x ∷ xs) ys years =
    subst (λ n. YearsFrom n ys) (let e : first + 1 + length xs ≡ first + suc (length xs) =
    omega arith in e) (years_after (first + 1) xs ys years.1)

year_at : (first : ℕ) (lines : List YearLine) (i : ℕ) (x : YearLine) → YearsFrom first lines
    → i < length lines → x ≡ get_or lines i x → x.year ≡ first + i
year_at first [] i x years some is = absurd (omega arith)
year_at first (y ∷ lines) zero x years some is =
    let at = years.0 in let same : x.year ≡ y.year = ap (λ (l : YearLine). l.year) is in omega arith
year_at first (y ∷ lines) (suc i) x years some is =
    let rest = year_at (first + 1) lines i x years.1 (omega arith) is in omega arith

year_below : (first : ℕ) (lines : List YearLine) (x : YearLine) → YearsFrom first lines
    → Has lines x → x.year < first + length lines
year_below first [] x years has = absurd has
year_below first (y ∷ lines) x years (inl is) =
    let at = years.0 in let same : x.year ≡ y.year = ap (λ (l : YearLine). l.year) is in omega arith
year_below first (y ∷ lines) x years (inr has) =
    let rest = year_below (first + 1) lines x years.1 has in omega arith

-- ---- so far

module _ (account : List ℕ) (form : Form) (year : ℕ) (lines : List YearLine) (holidays : List ℕ)
  where
    -- this is known of the years up to, but without, the next one, whatever the histories are
    abbrev pub Through : ℕ → Anew → Tables → Type 0
    Through next known t = (before after : History) (c : IsReopening year before after)
        → before.lines ≡ lines → YearRunsAre account t year before after
        → IsAnewTo form year next holidays before after known

    pub through_none : (known : Anew) (t : Tables) → 2001 ≤ year → known.rows.items ≡ []
        → known.years.items ≡ [] → IsTrue known.turned ↔ TurnedBefore lines year
        → Through year known t
    through_none known t late rows years turned before after c are runs =
        anew_none form year holidays before after c known late rows years
        (subst (λ ls. IsTrue known.turned ↔ TurnedBefore ls year) (sym are) turned)

    module _ (among : IsAmong year lines) (rest : List YearLine)
        (rest_is : rest ≡ among.line ∷ among.later) (open_years : AreOpenYears rest)
        (calendar : All (λ d. d < holidays_end) holidays) where
      cut : lines ≡ among.earlier ++ rest
      cut = among.cut ∙ ap (λ ls. among.earlier ++ ls) (sym rest_is)

      first_is : open_years.0 ≡ year
      first_is = sym (subst (YearsFrom open_years.0) rest_is open_years.2).0 ∙ among.of_year

      rest_years : YearsFrom year rest
      rest_years = subst (λ n. YearsFrom n rest) first_is open_years.2

      late : 2001 ≤ year
      late = let is = first_is in let from = open_years.1 in omega arith

      module _ (i : ℕ) (x : YearLine) (some : i < length rest) (x_is : x ≡ get_or rest i x) where
        of_year : x.year ≡ year + i
        of_year = year_at year rest i x rest_years some x_is

        -- it may be open, and ends before the next one
        pub is_open : (2001 ≤ x.year) × (x.year ≤ 2098)
        is_open =
            let w = years_within year rest x rest_years (has_at rest i x some x_is) in
            let w0 = w.0 in let from = late in (omega arith, w.1)

        pub end_is : year_last x.year + 1 ≡ year_start (year + (i + 1))
        end_is =
            let f = year_facts x.year is_open.0 is_open.1 in
            let is = of_year in
            let e : x.year + 1 ≡ year + (i + 1) = omega arith in
            f.3 ∙ ap year_start e

        has : (before : History) → before.lines ≡ lines → Has before.lines x
        has before are = subst (λ ls. Has ls x) (sym (are ∙ cut)) (has_right among.earlier rest x
            (has_at rest i x some x_is))

        module _ (known : Anew) (opens : Kind)
            (told : opens ≡ kind.Semiweekly ↔ OpensBy (IsTrue known.turned) x) (t : Tables)
            (through : Through (year + i) known t) where
          -- the year opens otherwise than before
          pub through_more : (later : Anew) → opens ≢ x.opening
              → AddsYearOf account form x holidays known later t → Through (year + (i + 1)) later t
          through_more later differs adds before after c are runs =
              let anew = through before after c are runs in
              let k = year_of_line form year holidays before after c x (has before are) in
              let agree = runs x k.0 (year_opens form year holidays before after c (year + i) known
              anew x
              k.0 k.1 of_year opens told differs) adds.sums adds.are_live in
              let e : year + i + 1 ≡ year + (i + 1) = omega arith in
              subst (λ n. IsAnewTo form year n holidays before after later) e
              (anew_more form year holidays before after c (year + i) known anew x k.0 k.1 of_year
              opens
              told differs adds.sums later adds.adds agree calendar)

          -- the year opens as before
          pub through_same : (patch : Patch) → opens ≡ x.opening
              → IsPatchFrom (year_start year) known patch → known.to + 1 ≡ year_start (year + i)
              → Reopens account form year lines holidays patch t
          through_same patch same made to before after c are runs =
              let anew = through before after c are runs in
              let k = year_of_line form year holidays before after c x (has before are) in
              let stays = year_stays form year holidays before after c (year + i) known anew x k.0
              k.1
              of_year opens told same in
              anew_right form year holidays before after c (year + i) known anew
              (λ n on. later_stay year before after c (year + i) (omega arith) stays n on) calendar
              patch
              made.from_is (ap (λ day. day + 1) made.to_is ∙ to) made.rows_are made.years_are late

      -- no year is left
      pub through_all : (known : Anew) (t : Tables) (patch : Patch)
          → Through (year + length rest) known t → IsPatchFrom (year_start year) known patch
          → known.to + 1 ≡ year_start (year + length rest)
          → Reopens account form year lines holidays patch t
      through_all known t patch through made to before after c are runs =
          anew_right form year holidays before after c (year + length rest) known
          (through before after c are runs)
          (λ n on line has of_year.
          let all_are = are ∙ cut in
          let all : AreOpenYears (among.earlier ++ rest) = subst AreOpenYears all_are c.years in
          let after = subst (YearsFrom (all.0 + length among.earlier)) rest_is
          (years_after all.0 among.earlier rest all.2) in
          let start : all.0 + length among.earlier ≡ year = sym after.0 ∙ among.of_year in
          let below = year_below all.0 (among.earlier ++ rest) line all.2
          (subst (λ ls. Has ls line) all_are has) in
          let count = length-append among.earlier rest in
          absurd (omega arith))
          calendar patch made.from_is (ap (λ day. day + 1) made.to_is ∙ to) made.rows_are
          made.years_are late
