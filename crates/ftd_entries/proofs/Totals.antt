-- The lookback total by what was found of the figures of the lookback period.
use Rattle.std.proofs.Common.{◌≡◌, ◌↔◌, ℕ, ◌+◌, ◌-◌, List, [], ◌∷◌, Option, None, Some, Result, Ok}
use Rattle.std.proofs.Common.{Err, inl, inr, refl, sym, ap, subst, ◌∙◌}
use Rattle.ftd_days.specs.declared.cents.Cents.{Cents}
use Rattle.ftd_rules.specs.declared.Form.{Form}
use Rattle.ftd_rules.specs.declared.Form.TheVariants.{F941, F943}
use Rattle.ftd_rules.specs.Lists.{Has}
use Rattle.ftd_rules.specs.Lookback.{lookback_first, lookback_quarters, Counts, IsLookback}
use Rattle.ftd_rules.specs.Lookback.{IsMissing, IsFirstMissing, IsYearLookback, IsYearMissing}
use Rattle.ftd_rules.specs.Lookback.{AreReportedOnce}
use Rattle.ftd_rules.proofs.Owed.{has_append, has_left, has_right}
use Rattle.ftd_machine.specs.declared.entries.Account.{Account}
use Rattle.ftd_machine.specs.declared.replies.Refusal.{Refusal}
use Rattle.ftd_machine.specs.State.{State, entries_of, Entry, Entries, figure_at}
use Rattle.ftd_machine.specs.History.{figures, quarter_figures, year_figures, IsLookbackOn}
use Rattle.ftd_machine.specs.History.{HasLookback, IsMissingOn, LacksFigure}
use Rattle.ftd_machine.specs.Sound.{IsSound}
use Rattle.ftd_machine.proofs.Soundness.{sound_once}
use Rattle.ftd_entries.specs.Totals.{IsTotalOn941, IsTotalOn943, IsTotal, as_figures, figures_found}
use Rattle.ftd_entries.specs.Totals.{AreFiguresOnce, figure_before}
use Rattle.ftd_entries.proofs.Figures.{kept_has, kept_none}

-- both lists have the same figures of the quarter, or of the year
abbrev pub SameAt : List (ℕ × Cents) → List (ℕ × Cents) → ℕ → Type 0
SameAt some others key = (amount : Cents) → Has some (key, amount) ↔ Has others (key, amount)

counts_same : (some others : List (ℕ × Cents)) (start quarter : ℕ) (amount : Cents)
    → SameAt some others quarter → Counts some start quarter amount
    → Counts others start quarter amount
counts_same some others start quarter amount same (inl before) = inl before
counts_same some others start quarter amount same (inr has) = inr (has.0, (same amount).0 has.1)

missing_same : (some others : List (ℕ × Cents)) (start quarter : ℕ) → SameAt some others quarter
    → IsMissing some start quarter → IsMissing others start quarter
missing_same some others start quarter same missing =
    (missing.0, λ amount has. missing.1 amount ((same amount).1 has))

missing_back : (some others : List (ℕ × Cents)) (start quarter : ℕ) → SameAt some others quarter
    → IsMissing others start quarter → IsMissing some start quarter
missing_back some others start quarter same missing =
    (missing.0, λ amount has. missing.1 amount ((same amount).0 has))

module _ (some others : List (ℕ × Cents)) (start year : ℕ) where
  module _ (same : (quarter : ℕ) → Has (lookback_quarters year) quarter
      → SameAt some others quarter) where
    pub lookback_same : (total : ℕ) → IsLookback some start year total
        → IsLookback others start year total
    lookback_same total h = record {
      first = h.first;
      second = h.second;
      third = h.third;
      fourth = h.fourth;
      count = (
        counts_same some others start (lookback_first year) h.first
            (same (lookback_first year) (inl refl)) h.count.0,
        counts_same some others start (lookback_first year + 1) h.second
            (same (lookback_first year + 1) (inr (inl refl))) h.count.1,
        counts_same some others start (lookback_first year + 2) h.third
            (same (lookback_first year + 2) (inr (inr (inl refl)))) h.count.2,
        counts_same some others start (lookback_first year + 3) h.fourth
            (same (lookback_first year + 3) (inr (inr (inr (inl refl))))) h.count.3,
      );
      adds_up = h.adds_up;
    }

    pub first_missing_same : (quarter : ℕ) → IsFirstMissing some start year quarter
        → IsFirstMissing others start year quarter
    first_missing_same quarter h = (
      h.0,
      missing_same some others start quarter (same quarter h.0) h.1,
      λ earlier has less missing. h.2 earlier has less
          (missing_back some others start earlier (same earlier has) missing),
    )

  module _ (same : SameAt some others (year - 2)) where
    pub year_lookback_same : (amount : Cents) → IsYearLookback some start year amount
        → IsYearLookback others start year amount
    year_lookback_same amount (inl before) = inl before
    year_lookback_same amount (inr has) = inr (has.0, (same amount).0 has.1)

    pub year_missing_same : (missing : ℕ) → IsYearMissing some start year missing
        → IsYearMissing others start year missing
    year_missing_same missing h =
        let here : SameAt some others missing = subst (SameAt some others) (sym h.0) same in
        (h.0, h.1, λ amount has. h.2 amount ((here amount).1 has))

-- ---- what was found

figure_is : (x : ℕ × Option Cents) (key : ℕ) (amount : Cents) → Has (as_figures x.0 x.1)
    (key, amount) → (key, Some amount) ≡ x
figure_is (k, None) key amount has = absurd has
figure_is (k, Some cents) key amount (inl is) = ap (λ (p : ℕ × Cents). (p.0, Some p.1)) is
figure_is (k, Some cents) key amount (inr none) = absurd none

found_has : (found : List (ℕ × Option Cents)) (key : ℕ) (amount : Cents) → Has (figures_found found)
    (key, amount) → Has found (key, Some amount)
found_has [] key amount has = absurd has
found_has (x ∷ more) key amount has =
    elim (has_append (as_figures x.0 x.1) (figures_found more) (key, amount) has) [
      | inl here ↦ inl (figure_is x key amount here)
      | inr later ↦ inr (found_has more key amount later)
    ]

has_found : (found : List (ℕ × Option Cents)) (key : ℕ) (amount : Cents)
    → Has found (key, Some amount) → Has (figures_found found) (key, amount)
has_found [] key amount has = absurd has
has_found (x ∷ more) key amount (inl is) =
    has_left (as_figures x.0 x.1) (figures_found more) (key, amount)
    (subst (λ (p : ℕ × Option Cents). Has (as_figures p.0 p.1) (key, amount)) is (inl refl))
has_found (x ∷ more) key amount (inr has) = has_right (as_figures x.0 x.1) (figures_found more)
    (key, amount) (has_found more key amount has)

-- where what was found is what is kept, and that stands once, its figures are those that are kept
same_found : (reported corrected : List (Entry Cents)) (found : List (ℕ × Option Cents))
    → AreReportedOnce (figures reported corrected)
    → ((key : ℕ) (o : Option Cents) → Has found (key, o)
    → figure_at key reported corrected ≡ o)
    → (key : ℕ) (o : Option Cents) → Has found (key, o) → SameAt (figures_found found)
    (figures reported corrected) key
same_found reported corrected found once kept key o there amount = (
  (λ has. kept_has key reported corrected amount
      (kept key (Some amount) (found_has found key amount has))),
  (λ has. back o there (kept key o there) has),
)
  where
    back : (o : Option Cents) → Has found (key, o) → figure_at key reported corrected ≡ o
        → Has (figures reported corrected) (key, amount) → Has (figures_found found) (key, amount)
    back None there is has = absurd (kept_none key reported corrected is amount has)
    back (Some cents) there is has = has_found found key amount
        (subst (λ c. Has found (key, Some c))
        (once key cents amount (kept_has key reported corrected cents is) has) there)

-- ---- on Form 943

total_by : (some others : List (ℕ × Cents)) (start year : ℕ) (total : Result Cents Refusal)
    → SameAt some others (year - 2) → IsTotalOn943 some start year total
    → IsTotalOn943 others start year total
total_by some others start year (Ok total) same h = year_lookback_same some others start year same
    total h
total_by some others start year (Err refusal) same h =
    (h.0, year_missing_same some others start year same h.0 h.1, h.2)

pub total_known : (reported corrected : List (Entry Cents)) (start year : ℕ) (found : Option Cents)
    (total : Result Cents Refusal) → AreReportedOnce (figures reported corrected)
    → figure_at (year - 2) reported corrected ≡ found
    → IsTotalOn943 (figure_before year found) start year total
    → IsTotalOn943 (figures reported corrected) start year total
total_known reported corrected start year found total once is h =
    total_by (figure_before year found) (figures reported corrected) start year total
    (same_found reported corrected Only once only (year - 2) found (inl refl)) h
  where
    Only : List (ℕ × Option Cents)
    Only = (year - 2, found) ∷ []

    only : (key : ℕ) (o : Option Cents) → Has Only (key, o) → figure_at key reported corrected ≡ o
    only key o (inl same) = subst (λ (p : ℕ × Option Cents). figure_at p.0 reported corrected ≡ p.1)
        (sym same) is
    only key o (inr none) = absurd none

-- ---- on Form 941

total_on_941 : (some others : List (ℕ × Cents)) (start year : ℕ) (total : Result Cents Refusal)
    → ((quarter : ℕ) → Has (lookback_quarters year) quarter → SameAt some others quarter)
    → IsTotalOn941 some start year total → IsTotalOn941 others start year total
total_on_941 some others start year (Ok total) same h = lookback_same some others start year same
    total.0 h
total_on_941 some others start year (Err refusal) same h =
    (h.0, first_missing_same some others start year same h.0 h.1, h.2)

module _ (reported corrected : List (Entry Cents)) (start year : ℕ)
    (once : AreReportedOnce (figures reported corrected)) (third fourth first second : ℕ)
    (a b c d : Option Cents) where
  abbrev Found : List (ℕ × Option Cents)
  Found = (third, a) ∷ (fourth, b) ∷ (first, c) ∷ (second, d) ∷ []

  module _ (kept_a : figure_at third reported corrected ≡ a)
      (kept_b : figure_at fourth reported corrected ≡ b)
      (kept_c : figure_at first reported corrected ≡ c)
      (kept_d : figure_at second reported corrected ≡ d) where
    among : (key : ℕ) (o : Option Cents) → Has Found (key, o) → figure_at key reported corrected ≡ o
    among key o (inl is) = subst (λ (p : ℕ × Option Cents). figure_at p.0 reported corrected ≡ p.1)
        (sym is) kept_a
    among key o (inr (inl is)) =
        subst (λ (p : ℕ × Option Cents). figure_at p.0 reported corrected ≡ p.1)
        (sym is) kept_b
    among key o (inr (inr (inl is))) =
        subst (λ (p : ℕ × Option Cents). figure_at p.0 reported corrected ≡ p.1)
        (sym is) kept_c
    among key o (inr (inr (inr (inl is)))) =
        subst (λ (p : ℕ × Option Cents). figure_at p.0 reported corrected ≡ p.1) (sym is) kept_d
    among key o (inr (inr (inr (inr none)))) = absurd none

    at_key : (key : ℕ) (o : Option Cents) → Has Found (key, o) → SameAt (figures_found Found)
        (figures reported corrected) key
    at_key = same_found reported corrected Found once among

    module _ (is_third : third ≡ lookback_first year) (is_fourth : fourth ≡ lookback_first year + 1)
        (is_first : first ≡ lookback_first year + 2)
        (is_second : second ≡ lookback_first year + 3) where
      same : (quarter : ℕ) → Has (lookback_quarters year) quarter → SameAt (figures_found Found)
          (figures reported corrected) quarter
      same quarter (inl is) = subst (SameAt (figures_found Found) (figures reported corrected))
          (is_third ∙ sym is) (at_key third a (inl refl))
      same quarter (inr (inl is)) =
          subst (SameAt (figures_found Found) (figures reported corrected))
          (is_fourth ∙ sym is) (at_key fourth b (inr (inl refl)))
      same quarter (inr (inr (inl is))) = subst
          (SameAt (figures_found Found) (figures reported corrected))
          (is_first ∙ sym is) (at_key first c (inr (inr (inl refl))))
      same quarter (inr (inr (inr (inl is)))) =
          subst (SameAt (figures_found Found) (figures reported corrected)) (is_second ∙ sym is)
          (at_key second d (inr (inr (inr (inl refl)))))
      same quarter (inr (inr (inr (inr none)))) = absurd none

      pub quarters_known : (total : Result Cents Refusal)
          → IsTotalOn941 (figures_found Found) start year total
          → IsTotalOn941 (figures reported corrected) start year total
      quarters_known total h = total_on_941 (figures_found Found) (figures reported corrected) start
          year
          total same h

-- ---- the figures of a sound state

pub figures_once : (s : State) → IsSound s → (name : List ℕ) → AreFiguresOnce (entries_of s name)
figures_once s sound name =
    let once = sound_once s sound name in
    (once.quarters (entries_of s name).corrected, once.years (entries_of s name).corrected_years)

-- ---- by the account's form

module _ (own : Entries) (account : Account) (year : ℕ) (is : own.account ≡ Some account) where
  abbrev Known : Entries
  Known = record own { account = Some account }

  has_lookback : (form : Form) (total : Cents) → account.form ≡ form
      → IsLookbackOn form Known year total → HasLookback own year total
  has_lookback form total same h =
      subst (λ a. HasLookback (record own { account = a }) year total) (sym is)
      (subst (λ f. IsLookbackOn f Known year total) (sym same) h)

  lacks_figure : (form : Form) (refusal : Refusal) → account.form ≡ form
      → IsMissingOn form Known year refusal → LacksFigure own year refusal
  lacks_figure form refusal same h =
      subst (λ a. LacksFigure (record own { account = a }) year refusal) (sym is)
      (subst (λ f. IsMissingOn f Known year refusal) (sym same) h)

  pub on_941 : (total : Result Cents Refusal) → account.form ≡ F941
      → IsTotalOn941 (quarter_figures own) account.start year total → IsTotal own year total
  on_941 (Ok total) same h = has_lookback F941 total same h
  on_941 (Err refusal) same h = lacks_figure F941 refusal same h

  pub on_943 : (total : Result Cents Refusal) → account.form ≡ F943
      → IsTotalOn943 (year_figures own) account.start year total → IsTotal own year total
  on_943 (Ok total) same h = has_lookback F943 total same h
  on_943 (Err refusal) same h = lacks_figure F943 refusal same h
