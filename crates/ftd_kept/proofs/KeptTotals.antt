-- The totals that were read are those that are kept.
use Rattle.std.proofs.Common.{◌≡◌, ◌∙◌, sym, ap, subst, ℕ, refl, List, map, Some}
use Rattle.std.specs.Prelude.{◌↔◌, filter}
use Rattle.ftd_days.specs.Calendar.{quarter_year, quarter_number}
use Rattle.ftd_days.specs.declared.cents.Cents.{Cents}
use Rattle.ftd_rules.specs.declared.Form.TheVariants.{F941, F943}
use Rattle.ftd_rules.specs.Lists.{Has}
use Rattle.ftd_rules.proofs.Members.{has_mapped, mapped_has}
use Rattle.ftd_sql.specs.Orders.{QuartersRise, ReportedYearsRise}
use Rattle.ftd_sql.specs.Rows.{ReportedQuarterRow, ReportedYearRow}
use Rattle.ftd_sql.specs.Standing.{Tables}
use Rattle.ftd_sql.specs.Tests.{is_reported_of, is_reported_year_of}
use Rattle.ftd_sql.specs.declared.TableName.TheVariants.{ReportedQuarters, ReportedYears}
use Rattle.ftd_store.specs.Lists.{Lists}
use Rattle.ftd_store.specs.Rows.{reported_row, reported_year_row}
use Rattle.ftd_store.specs.declared.kept_cells.QuarterTotal.{QuarterTotal}
use Rattle.ftd_store.specs.declared.kept_cells.YearTotal.{YearTotal}
use Rattle.ftd_store.specs.Kept.{IsQuarterTotal, IsYearTotal}
use Rattle.ftd_machine.specs.Sound.{IsSound}
use Rattle.ftd_machine.specs.State.{State, Entry, entries_of, kept_at, reported_at}
use Rattle.ftd_machine.specs.declared.kept.KeptTotal.{KeptTotal}
use Rattle.ftd_machine.specs.declared.entries.ReturnPeriod.{ReturnPeriod}
use Rattle.ftd_machine.specs.declared.entries.ReturnPeriod.TheVariants.{Quarter, Year}
use Rattle.ftd_machine.specs.Requests.{form_for}
use Rattle.ftd_machine.proofs.Adding.{own_name}
use Rattle.ftd_entries.specs.Standing.{StandsFor, quarter_entry, year_entry}
use Rattle.ftd_entries.proofs.Kept.{same_nat, cents_is, quarter_is}
use Rattle.ftd_entries.proofs.ListedRows.{value_passes, passing_value}
use Rattle.ftd_kept.specs.Kept.{kept_quarter, kept_year, IsFirstTotal}
use Rattle.ftd_machine.proofs.Entered.{is_kept, of_kept}

abbrev total_at : ReturnPeriod → Cents → Cents → KeptTotal
total_at period cents first = record { period = period; cents = cents; first = first }

-- the rows of an account's totals
abbrev quarter_row : List ℕ → QuarterTotal → ReportedQuarterRow
quarter_row name x = reported_row name x.quarter x.cents

abbrev year_row : List ℕ → YearTotal → ReportedYearRow
year_row name x = reported_year_row name x.year x.cents

same_entry : {X : Type 0} (e : Entry X) (name : List ℕ) (key : ℕ) (content : X) → e.name ≡ name
    → e.key ≡ key → e.content ≡ content
    → e ≡ record { name = name; key = key; content = content }
same_entry e name key content a b c = rw (sym a, sym b, sym c) refl

module _ (name : List ℕ) (t : Tables) (s : State) (stands : StandsFor t s) (sound : IsSound s) where
  -- ---- quarters

  module _ (found : List QuarterTotal) (lists : Lists QuartersRise (IsQuarterTotal name)
      (filter (is_reported_of name) (t ReportedQuarters)) found) where
    pub quarter_in : (x : QuarterTotal) → Has found x
        → kept_at x.quarter (entries_of s name).reported ≡ Some x.cents
    quarter_in x has =
        let there = value_passes (quarter_row name) QuartersRise (is_reported_of name)
        (t ReportedQuarters) found lists x has in
        let from = has_mapped quarter_entry s.reported (quarter_row name x)
        (subst (λ rs. Has rs (quarter_row name x)) stands.entries.figures.reported there.0) in
        let e : Entry Cents = from.0 in
        let is : quarter_entry e ≡ quarter_row name x = sym from.2 in
        let named : e.name ≡ name = ap (λ (r : ReportedQuarterRow). r.account) is in
        let year : quarter_year e.key ≡ quarter_year x.quarter =
        same_nat (quarter_year e.key) (quarter_year x.quarter)
        (ap (λ (r : ReportedQuarterRow). r.year) is) in
        let number : quarter_number e.key ≡ quarter_number x.quarter =
        same_nat (quarter_number e.key) (quarter_number x.quarter)
        (ap (λ (r : ReportedQuarterRow). r.quarter) is) in
        let key : e.key ≡ x.quarter = quarter_is e.key x.quarter year number in
        let cents : e.content ≡ x.cents = cents_is e.content x.cents
        (ap (λ (r : ReportedQuarterRow). r.cents) is) in
        subst (λ k. kept_at k (entries_of s name).reported ≡ Some x.cents) key
        (is_kept name s.reported sound.reported e from.1 named ∙ ap Some cents)

    pub quarter_there : (quarter : ℕ) (cents : Cents)
        → kept_at quarter (entries_of s name).reported ≡ Some cents
        → Has found (record { quarter = quarter; cents = cents })
    quarter_there quarter cents is =
        let kept = of_kept name s.reported sound.reported quarter cents is in
        let x : QuarterTotal = record { quarter = quarter; cents = cents } in
        let row : quarter_entry kept.0 ≡ quarter_row name x =
        ap quarter_entry (same_entry kept.0 name quarter cents kept.2 kept.3 kept.4) in
        let there : Has (t ReportedQuarters) (quarter_row name x) =
        subst (λ rs. Has rs (quarter_row name x)) (sym stands.entries.figures.reported)
        (subst (Has (map quarter_entry s.reported)) row
        (mapped_has quarter_entry s.reported kept.0 kept.1)) in
        let item = passing_value (quarter_row name) QuartersRise (is_reported_of name)
        (t ReportedQuarters) found lists (quarter_row name x) there (own_name name) in
        let year : quarter_year quarter ≡ quarter_year item.0.quarter =
        same_nat (quarter_year quarter) (quarter_year item.0.quarter)
        (ap (λ (r : ReportedQuarterRow). r.year) item.2) in
        let number : quarter_number quarter ≡ quarter_number item.0.quarter =
        same_nat (quarter_number quarter) (quarter_number item.0.quarter)
        (ap (λ (r : ReportedQuarterRow). r.quarter) item.2) in
        let key : quarter ≡ item.0.quarter = quarter_is quarter item.0.quarter year number in
        let amount : cents ≡ item.0.cents = cents_is cents item.0.cents
        (ap (λ (r : ReportedQuarterRow). r.cents) item.2) in
        let same : x ≡ item.0 = λ i. record { quarter = key i; cents = amount i } in
        subst (Has found) (sym same) item.1

    pub quarters_are : (x : KeptTotal) → Has (map kept_quarter found) x
        ↔ IsFirstTotal F941 (entries_of s name) x
    quarters_are x = (
      (λ has.
          (let from = has_mapped kept_quarter found x has in
          subst (IsFirstTotal F941 (entries_of s name)) (sym from.2) (record {
            of_form = refl;
            same = refl;
            first_reported = quarter_in from.0 from.1;
          }))),
      (λ is. back x.period x.cents x.first is.of_form is.same is.first_reported),
    )
      where
        back : (period : ReturnPeriod) (cents first : Cents) → form_for period ≡ F941
            → cents ≡ first → reported_at (entries_of s name) period ≡ Some first
            → Has (map kept_quarter found) (total_at period cents first)
        back (Quarter quarter) cents first of same was =
            subst (λ c. Has (map kept_quarter found) (total_at (Quarter quarter) c first))
            (sym same)
            (mapped_has kept_quarter found _ (quarter_there quarter first was))
        back (Year year) cents first of same was = absurd cc

  -- ---- years

  module _ (found : List YearTotal) (lists : Lists ReportedYearsRise (IsYearTotal name)
      (filter (is_reported_year_of name) (t ReportedYears)) found) where
    pub year_in : (x : YearTotal) → Has found x
        → kept_at x.year (entries_of s name).reported_years ≡ Some x.cents
    year_in x has =
        let there = value_passes (year_row name) ReportedYearsRise (is_reported_year_of name)
        (t ReportedYears) found lists x has in
        let from = has_mapped year_entry s.reported_years (year_row name x)
        (subst (λ rs. Has rs (year_row name x)) stands.entries.figures.reported_years there.0) in
        let e : Entry Cents = from.0 in
        let is : year_entry e ≡ year_row name x = sym from.2 in
        let named : e.name ≡ name = ap (λ (r : ReportedYearRow). r.account) is in
        let key : e.key ≡ x.year =
        same_nat e.key x.year (ap (λ (r : ReportedYearRow). r.year) is) in
        let cents : e.content ≡ x.cents = cents_is e.content x.cents
        (ap (λ (r : ReportedYearRow). r.cents) is) in
        subst (λ k. kept_at k (entries_of s name).reported_years ≡ Some x.cents) key
        (is_kept name s.reported_years sound.reported_years e from.1 named ∙ ap Some cents)

    pub year_there : (year : ℕ) (cents : Cents)
        → kept_at year (entries_of s name).reported_years ≡ Some cents
        → Has found (record { year = year; cents = cents })
    year_there year cents is =
        let kept = of_kept name s.reported_years sound.reported_years year cents is in
        let x : YearTotal = record { year = year; cents = cents } in
        let row : year_entry kept.0 ≡ year_row name x =
        ap year_entry (same_entry kept.0 name year cents kept.2 kept.3 kept.4) in
        let there : Has (t ReportedYears) (year_row name x) =
        subst (λ rs. Has rs (year_row name x)) (sym stands.entries.figures.reported_years)
        (subst (Has (map year_entry s.reported_years)) row
        (mapped_has year_entry s.reported_years kept.0 kept.1)) in
        let item = passing_value (year_row name) ReportedYearsRise (is_reported_year_of name)
        (t ReportedYears) found lists (year_row name x) there (own_name name) in
        let key : year ≡ item.0.year = same_nat year item.0.year
        (ap (λ (r : ReportedYearRow). r.year) item.2) in
        let amount : cents ≡ item.0.cents = cents_is cents item.0.cents
        (ap (λ (r : ReportedYearRow). r.cents) item.2) in
        let same : x ≡ item.0 = λ i. record { year = key i; cents = amount i } in
        subst (Has found) (sym same) item.1

    pub years_are : (x : KeptTotal) → Has (map kept_year found) x
        ↔ IsFirstTotal F943 (entries_of s name) x
    years_are x = (
      (λ has.
          (let from = has_mapped kept_year found x has in
          subst (IsFirstTotal F943 (entries_of s name)) (sym from.2) (record {
            of_form = refl;
            same = refl;
            first_reported = year_in from.0 from.1;
          }))),
      (λ is. back x.period x.cents x.first is.of_form is.same is.first_reported),
    )
      where
        back : (period : ReturnPeriod) (cents first : Cents) → form_for period ≡ F943
            → cents ≡ first → reported_at (entries_of s name) period ≡ Some first
            → Has (map kept_year found) (total_at period cents first)
        back (Year year) cents first of same was =
            subst (λ c. Has (map kept_year found) (total_at (Year year) c first)) (sym same)
            (mapped_has kept_year found _ (year_there year first was))
        back (Quarter quarter) cents first of same was = absurd cc
