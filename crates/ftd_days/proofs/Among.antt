-- The days of a list that pass a test.
use Rattle.std.proofs.Common.{◌≡◌, ◌≤◌, ◌==◌, ℕ, Bool, true, false, List, [], ◌∷◌, arith}
use Rattle.std.proofs.Common.{refl, sym, ap, ◌∙◌}
use Rattle.std.proofs.lemmas.Bool.{eqb-true}
use Rattle.std.proofs.lemmas.List.Sums.{sum_by-cons}
use Rattle.std.specs.Prelude.{filter, count_by, ◌&&◌, ◌||◌, if◌then◌else◌}
use Rattle.ftd_days.specs.Business.{is_holiday}
use Rattle.ftd_days.specs.Calendar.{year_of}
use Rattle.ftd_days.specs.Holidays.{AreFew}

-- a day is among those that pass a test if it is among all and passes
pub is_among : (test : ℕ → Bool) (days : List ℕ) (day : ℕ)
    → is_holiday (filter test days) day ≡ (is_holiday days day && test day)
is_among test [] day = refl
is_among test (x ∷ xs) day = step (is_among test xs day) (test x) (x == day) refl refl
  where
    step : is_holiday (filter test xs) day ≡ (is_holiday xs day && test day)
        → (passes same : Bool) → test x ≡ passes → (x == day) ≡ same
        → is_holiday (if passes then x ∷ filter test xs else filter test xs) day
        ≡ ((x == day || is_holiday xs day) && test day)
    step more true true e same =
        let here : test day ≡ true = ap test (sym (eqb-true x day same)) ∙ e in
        rw (same, here) refl
    step more true false e same = rw same more
    step more false true e same =
        let here : test day ≡ false = ap test (sym (eqb-true x day same)) ∙ e in
        rw (same, here) (more ∙ rw here (none (is_holiday xs day)))
      where
        none : (b : Bool) → (b && false) ≡ false
        none true = refl
        none false = refl
    step more false false e same = rw same more

count_less : (year : ℕ) (test : ℕ → Bool) (days : List ℕ)
    → count_by (λ day. year_of day == year) (filter test days)
    ≤ count_by (λ day. year_of day == year) days
count_less year test [] = omega arith
count_less year test (x ∷ xs) = step (count_less year test xs) (test x)
  where
    own : ℕ → ℕ
    own day = if year_of day == year then 1 else 0

    step : count_by (λ day. year_of day == year) (filter test xs)
        ≤ count_by (λ day. year_of day == year) xs
        → (passes : Bool)
        → count_by (λ day. year_of day == year)
        (if passes then x ∷ filter test xs else filter test xs)
        ≤ count_by (λ day. year_of day == year) (x ∷ xs)
    step less true =
        let one = sum_by-cons own x xs in
        let other = sum_by-cons own x (filter test xs) in
        omega (arith, one, other, less)
    step less false =
        let one = sum_by-cons own x xs in
        omega (arith, one, less)

-- and of few days few pass
pub few_among : (test : ℕ → Bool) (days : List ℕ) → AreFew days → AreFew (filter test days)
few_among test days few year = let less = count_less year test days in
    let enough = few year in omega (arith, less, enough)
