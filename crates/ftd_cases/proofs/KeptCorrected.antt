-- A worked case: what is kept once the total of a quarter is corrected. Of `elm`, whose total of
-- 2023Q2 was corrected from 12,500.00 to 12,500.01, the list of its reported totals has both, and
-- that of its open years the lookback total 50,000.01 beside 50,000.00 as it was first reported. A
-- quarter is the number of quarters after the first of 1900, an amount its cents.
use Rattle.std.proofs.Common.{◌≡◌, ◌∙◌, inl, inr, refl, sym, ap, ℕ, arith}
use Rattle.std.proofs.Common.{List, [], ◌∷◌, Some}
use Rattle.std.proofs.lemmas.Bool.{ltb-true, eqb-true}
use Rattle.std.proofs.lemmas.Option.{same_Some}
use Rattle.ftd_days.specs.Calendar.{month_start}
use Rattle.ftd_days.specs.declared.cents.Cents.{Cents}
use Rattle.ftd_rules.specs.Accounts.{is_account_name}
use Rattle.ftd_rules.specs.declared.Form.TheVariants.{F941, F943}
use Rattle.ftd_rules.specs.Lists.{Has}
use Rattle.ftd_machine.specs.State.{Entry, has_key, content_of, entries_of, in_force_at}
use Rattle.ftd_machine.specs.State.{reported_at}
use Rattle.ftd_machine.specs.History.{HasLookback}
use Rattle.ftd_machine.specs.Kept.{as_first_reported, IsTotal, IsTotalBefore}
use Rattle.ftd_machine.specs.Requests.{form_for}
use Rattle.ftd_machine.specs.Step.{Step}
use Rattle.ftd_machine.specs.Told.{kept_answer}
use Rattle.ftd_machine.specs.declared.entries.ReturnPeriod.{ReturnPeriod}
use Rattle.ftd_machine.specs.declared.entries.ReturnPeriod.TheVariants.{Quarter, Year}
use Rattle.ftd_machine.specs.declared.kept.KeptRows.TheVariants as rows
use Rattle.ftd_machine.specs.declared.kept.KeptTotal.{KeptTotal}
use Rattle.ftd_machine.specs.declared.kept.KeptYear.{KeptYear}
use Rattle.ftd_machine.specs.declared.requests.KeptList.TheVariants as list
use Rattle.ftd_machine.specs.declared.requests.Question.TheVariants as question
use Rattle.ftd_machine.specs.declared.requests.Request.TheVariants as request
use Rattle.ftd_machine.proofs.Members.{found_some}
use Rattle.ftd_cases.proofs.January.{cents}
use Rattle.ftd_cases.proofs.Listing.{HoldsOfEach, each, only, in_order}
use Rattle.ftd_cases.proofs.QuarterCorrected.{elm, after, semiweekly_year, lines_after}

-- ---- open years

abbrev corrected_year : KeptYear
corrected_year = record { line = semiweekly_year; first_lookback = cents 5_000_000 }

lookback_at_first : HasLookback (as_first_reported (entries_of after elm)) 2024 (cents 5_000_000)
unfolding month_start
lookback_at_first = record {
  first = cents 1_250_000;
  second = cents 1_250_000;
  third = cents 1_250_000;
  fourth = cents 1_250_000;
  count = (
    inr (ltb-true _ _ refl, inl refl),
    inr (ltb-true _ _ refl, inr (inl refl)),
    inr (ltb-true _ _ refl, inr (inr (inl refl))),
    inr (ltb-true _ _ refl, inr (inr (inr (inl refl)))),
  );
  adds_up = refl;
}

years_listed : Step after (request.Question (question.Kept (list.Years elm)))
    (kept_answer (rows.Years elm (corrected_year ∷ []))) after
unfolding is_account_name
years_listed = (
  refl,
  record {
    listed = corrected_year ∷ [];
    are_lines = lines_after;
    first_lookbacks = only
        (λ (y : KeptYear).
        HasLookback (as_first_reported (entries_of after elm)) y.line.year y.first_lookback)
        corrected_year lookback_at_first;
    told = refl;
  },
)

-- ---- reported totals

abbrev total : ℕ → ℕ → ℕ → KeptTotal
total quarter in_force first =
    record { period = Quarter quarter; cents = cents in_force; first = cents first }

abbrev totals : List KeptTotal
totals = total 490 1_250_000 1_250_000 ∷ total 491 1_250_000 1_250_000
    ∷ total 492 1_250_000 1_250_000 ∷ total 493 1_250_001 1_250_000 ∷ []

are_totals : HoldsOfEach (IsTotal F941 (entries_of after elm)) totals
are_totals = (
  record { of_form = refl; in_force = refl; first_reported = refl },
  (
    record { of_form = refl; in_force = refl; first_reported = refl },
    (
      record { of_form = refl; in_force = refl; first_reported = refl },
      (record { of_form = refl; in_force = refl; first_reported = refl }, tt),
    ),
  ),
)

-- a total of a period is the one that is reported and in force of it
total_of : (x : KeptTotal) (period : ReturnPeriod) (in_force first : Cents) → x.period ≡ period
    → IsTotal F941 (entries_of after elm) x
    → in_force_at (entries_of after elm) period ≡ Some in_force
    → reported_at (entries_of after elm) period ≡ Some first
    → x ≡ record { period = period; cents = in_force; first = first }
total_of x period in_force first same is now was =
    let cents : x.cents ≡ in_force = same_Some x.cents in_force
    (sym is.in_force ∙ ap (in_force_at (entries_of after elm)) same ∙ now) in
    let as_first : x.first ≡ first = same_Some x.first first
    (sym is.first_reported ∙ ap (reported_at (entries_of after elm)) same ∙ was) in
    λ i. record { period = same i; cents = cents i; first = as_first i }

no_year : F943 ≡ F941 → ⊥
no_year e = absurd cc

all_totals : (x : KeptTotal) (period : ReturnPeriod) → x.period ≡ period
    → IsTotal F941 (entries_of after elm) x → Has totals x
all_totals x (Year year) same is =
    absurd (no_year (ap form_for (sym same) ∙ is.of_form))
all_totals x (Quarter quarter) same is =
    let found = found_some content_of (has_key quarter) (entries_of after elm).reported x.first
    (ap (reported_at (entries_of after elm)) (sym same) ∙ is.first_reported) in
    let keyed : found.0.key ≡ quarter = eqb-true found.0.key quarter found.2 in
    let at : (key : ℕ) → found.0.key ≡ key → x.period ≡ Quarter key =
    λ key e. same ∙ ap Quarter (sym keyed ∙ e) in
    elim found.1 [
      | inl e ↦ inl (total_of x (Quarter 490) (cents 1_250_000) (cents 1_250_000)
          (at 490 (ap (λ (d : Entry Cents). d.key) e)) is refl refl)
      | inr rest ↦ elim rest [
        | inl e ↦ inr (inl (total_of x (Quarter 491) (cents 1_250_000) (cents 1_250_000)
            (at 491 (ap (λ (d : Entry Cents). d.key) e)) is refl refl))
        | inr more ↦ elim more [
          | inl e ↦ inr (inr (inl (total_of x (Quarter 492) (cents 1_250_000) (cents 1_250_000)
              (at 492 (ap (λ (d : Entry Cents). d.key) e)) is refl refl)))
          | inr last ↦ elim last [
            | inl e ↦ inr (inr (inr (inl
                (total_of x (Quarter 493) (cents 1_250_001) (cents 1_250_000)
                (at 493 (ap (λ (d : Entry Cents). d.key) e)) is refl refl))))
            | inr none ↦ absurd none
          ]
        ]
      ]
    ]

totals_listed : Step after (request.Question (question.Kept (list.Reported elm)))
    (kept_answer (rows.Reported elm totals)) after
unfolding is_account_name
totals_listed = (
  refl,
  record {
    listed = totals;
    by_period = in_order IsTotalBefore totals (
      (omega arith, (omega arith, (omega arith, tt))),
      ((omega arith, (omega arith, tt)), ((omega arith, tt), (tt, tt))),
    );
    all = λ x. (
      each (IsTotal F941 (entries_of after elm)) totals are_totals x,
      all_totals x x.period refl,
    );
    told = refl;
  },
)
