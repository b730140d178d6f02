-- What is kept of one account is sound where it is so by its plain values and each open year has
-- its lookback total.
use Rattle.std.proofs.Common.{◌≡◌, ℕ, Bool, List, [], ◌∷◌, map}
use Rattle.std.proofs.Common.{Result, Ok, Err, IfOk, inl, inr, refl, sym, ap, subst, ◌∙◌}
use Rattle.std.specs.Prelude.{◌↔◌, IsTrue}
use Rattle.std.proofs.lemmas.Bool.{cases_Bool}
use Rattle.ftd_days.specs.declared.cents.Cents.{Cents}
use Rattle.ftd_rules.specs.declared.Form.{Form}
use Rattle.ftd_rules.specs.declared.Form.TheVariants.{F941, F943}
use Rattle.ftd_rules.specs.declared.DaySum.{DaySum}
use Rattle.ftd_rules.specs.declared.run.PayRun.{PayRun}
use Rattle.ftd_rules.specs.declared.run.Voidable.{Voidable}
use Rattle.ftd_rules.specs.Lookback.{IsLookback, IsYearLookback}
use Rattle.ftd_rules.proofs.Members.{mapped_has}
use Rattle.ftd_rules.proofs.Rising.{all_has, has_all}
use Rattle.ftd_machine.specs.declared.entries.Account.{Account}
use Rattle.ftd_machine.specs.declared.entries.ReturnPeriod.TheVariants.{Quarter, Year}
use Rattle.ftd_machine.specs.State.{Entry}
use Rattle.ftd_machine.specs.Sound.{Follow}
use Rattle.ftd_machine.specs.History.{IsLookbackOn, HasLookback, live, liability_of}
use Rattle.ftd_machine.specs.History.{year_of_entry}
use Rattle.ftd_sound.specs.declared.own.Own.{Own}
use Rattle.ftd_sound.specs.declared.figures.Figures.{Figures}
use Rattle.ftd_sound.specs.Entered.{entry_of, year_opened, entries_in}
use Rattle.ftd_sound.specs.Own.{IsYearSound, AreYearsSound, IsOwnSound}
use Rattle.ftd_sound.specs.Private.Plain.{account_now, AreOfPeriods, AreTotals, AreStarts, IsYear}
use Rattle.ftd_sound.specs.Private.Plain.{AreYears, AreRuns, ArePayments, IsSoundButTotals}
use Rattle.ftd_sound.specs.Private.Lines.{figures_in, IsTotalOn, IsTotal, HaveTotals, sums_in}
use Rattle.ftd_sound.proofs.Named.{all_mapped, starts_plain, starts_named, runs_plain}
use Rattle.ftd_sound.proofs.Named.{runs_named, payments_plain, payments_named}
use Rattle.ftd_sound.proofs.NamedTotals.{figures_named, totals_plain, periods_plain, totals_named}

-- ---- the liability

pub sums_named : (name : List ℕ) (runs : List (ℕ × Voidable PayRun))
    → map liability_of (live (map (entry_of name) runs)) ≡ sums_in runs
sums_named name [] = refl
sums_named name (x ∷ xs) = elim (cases_Bool x.1.voided) [
  | inl voided ↦ rw voided (sums_named name xs)
  | inr live ↦ rw live
      (ap (λ (sums : List DaySum). liability_of x.1.value ∷ sums) (sums_named name xs))
]

-- ---- lookback totals

-- these are the totals in force
pub record AreFigures (own : Own) (figures : Figures) : Type 0 where
  pub quarters : figures.quarters.items ≡ figures_in own.reported.items own.corrected.items
  pub years : figures.years.items ≡ figures_in own.reported_years.items own.corrected_years.items

module _ (name : List ℕ) (own : Own) (figures : Figures) (are : AreFigures own figures) where
  on_form : (form : Form) (year : ℕ) (total : Cents)
      → IsTotalOn form (account_now own).start figures year total
      → IsLookbackOn form (entries_in name own) year total
  on_form F941 year total h =
      subst (λ (fs : List (ℕ × Cents)). IsLookback fs (account_now own).start year total.0)
      (are.quarters ∙ sym (figures_named name own.reported.items own.corrected.items)) h
  on_form F943 year total h =
      subst (λ (fs : List (ℕ × Cents)). IsYearLookback fs (account_now own).start year total)
      (are.years ∙ sym (figures_named name own.reported_years.items own.corrected_years.items)) h

  by_form : (form : Form) (year : ℕ) (total : Cents)
      → IsLookbackOn form (entries_in name own) year total
      → IsTotalOn form (account_now own).start figures year total
  by_form F941 year total h =
      subst (λ (fs : List (ℕ × Cents)). IsLookback fs (account_now own).start year total.0)
      (figures_named name own.reported.items own.corrected.items ∙ sym are.quarters) h
  by_form F943 year total h =
      subst (λ (fs : List (ℕ × Cents)). IsYearLookback fs (account_now own).start year total)
      (figures_named name own.reported_years.items own.corrected_years.items ∙ sym are.years) h

  pub total_named : (year : ℕ) (total : Cents) → IsTotal (account_now own) figures year total
      → HasLookback (entries_in name own) year total
  total_named = on_form (account_now own).form

  pub total_plain : (year : ℕ) (total : Cents) → HasLookback (entries_in name own) year total
      → IsTotal (account_now own) figures year total
  total_plain = by_form (account_now own).form

-- ---- open years

pub years_are : (name : List ℕ) (years : List ℕ)
    → map year_of_entry (map (year_opened name) years) ≡ years
years_are name [] = refl
years_are name (year ∷ years) = ap (λ ys. year ∷ ys) (years_are name years)

module _ (given : List ℕ) (name : List ℕ) (own : Own) where
  years_plain : AreYearsSound given (entries_in name own)
      → AreYears given (account_now own) own.open_years.items
  years_plain h = record {
    in_turn = subst Follow (years_are name own.open_years.items) h.in_turn;
    each = all_has (λ year. IsYear given (account_now own) year) own.open_years.items
        (λ year has. (let is = h.each (year_opened name year)
        (mapped_has (year_opened name) own.open_years.items year has) in
        record {
          is_open_year = is.is_open_year;
          given_is = is.given_is;
          next_is = is.next_is;
          since = is.since;
        }));
  }

  years_named : (figures : Figures) → AreFigures own figures
      → AreYears given (account_now own) own.open_years.items
      → HaveTotals (account_now own) figures own.open_years.items
      → AreYearsSound given (entries_in name own)
  years_named figures are h totals = record {
    in_turn = subst Follow (sym (years_are name own.open_years.items)) h.in_turn;
    each = all_mapped (year_opened name)
        (λ (e : Entry (Unit {0})). IsYearSound given (entries_in name own) e.key)
        own.open_years.items
        (all_has (λ year. IsYearSound given (entries_in name own) year) own.open_years.items
        (λ year has. (let is = has_all (λ year. IsYear given (account_now own) year)
        own.open_years.items h.each year has in
        let total = has_all
        (λ year. (total : Cents) × IsTotal (account_now own) figures year total)
        own.open_years.items totals year has in
        record {
          is_open_year = is.is_open_year;
          given_is = is.given_is;
          next_is = is.next_is;
          since = is.since;
          total = (total.0, total_named name own figures are year total.0 total.1);
        })));
  }

  -- ---- all of it

  pub own_plain : IsOwnSound given (entries_in name own) → IsSoundButTotals given own
  own_plain h = record {
    starts = starts_plain name own h.starts;
    quarter_periods = periods_plain name (account_now own) Quarter own.reported.items
        own.corrected.items h.quarters;
    quarters = totals_plain name (account_now own) Quarter own.reported.items own.corrected.items
        h.quarters;
    year_periods = periods_plain name (account_now own) Year own.reported_years.items
        own.corrected_years.items h.years;
    years = totals_plain name (account_now own) Year own.reported_years.items
        own.corrected_years.items h.years;
    open_years = years_plain h.open_years;
    runs = runs_plain name own h.runs;
    payments = payments_plain name own h.payments;
  }

  pub have_totals : (figures : Figures) → AreFigures own figures
      → IsOwnSound given (entries_in name own)
      → HaveTotals (account_now own) figures own.open_years.items
  have_totals figures are h =
      all_has (λ year. (total : Cents) × IsTotal (account_now own) figures year total)
      own.open_years.items
      (λ year has. (let is = h.open_years.each (year_opened name year)
      (mapped_has (year_opened name) own.open_years.items year has) in
      (is.total.0, total_plain name own figures are year is.total.0 is.total.1)))

  pub own_named : (figures : Figures) → AreFigures own figures → IsSoundButTotals given own
      → HaveTotals (account_now own) figures own.open_years.items
      → IsOwnSound given (entries_in name own)
  own_named figures are h totals = record {
    in_force = refl;
    starts = starts_named name own h.starts;
    quarters = totals_named name (account_now own) Quarter own.reported.items own.corrected.items
        h.quarters h.quarter_periods;
    years = totals_named name (account_now own) Year own.reported_years.items
        own.corrected_years.items h.years h.year_periods;
    open_years = years_named figures are h.open_years totals;
    runs = runs_named name own h.runs;
    payments = payments_named name own h.payments;
  }

-- ---- decided part by part

abbrev pub AreQuarterTotals : Account → Own → Type 0
AreQuarterTotals account own =
    AreOfPeriods account Quarter own.reported.items
    × AreTotals own.reported.items own.corrected.items

abbrev pub AreYearTotals : Account → Own → Type 0
AreYearTotals account own =
    AreOfPeriods account Year own.reported_years.items
    × AreTotals own.reported_years.items own.corrected_years.items

pub own_decided : {E : Type 0} (given : List ℕ) (own : Own) (account : Account)
    → account ≡ account_now own → AreStarts own → AreQuarterTotals account own
    → AreYearTotals account own → AreYears given account own.open_years.items
    → AreRuns account own.open_years.items own.runs.items → (r : Result Bool E)
    → IfOk r (λ b. IsTrue b ↔ ArePayments account own.open_years.items own.payments.items)
    → IfOk r (λ b. IsTrue b ↔ IsSoundButTotals given own)
own_decided given own account is starts quarters totals years runs (Err e) h = tt
own_decided given own account is starts quarters totals years runs (Ok b) h = (
  λ e. record {
    starts = starts;
    quarter_periods =
        subst (λ (a : Account). AreOfPeriods a Quarter own.reported.items) is quarters.0;
    quarters = quarters.1;
    year_periods =
        subst (λ (a : Account). AreOfPeriods a Year own.reported_years.items) is totals.0;
    years = totals.1;
    open_years = subst (λ (a : Account). AreYears given a own.open_years.items) is years;
    runs = subst (λ (a : Account). AreRuns a own.open_years.items own.runs.items) is runs;
    payments = subst (λ (a : Account). ArePayments a own.open_years.items own.payments.items) is
        (h.0 e);
  },
  λ all. h.1 (subst (λ (a : Account). ArePayments a own.open_years.items own.payments.items)
      (sym is) all.payments),
)
