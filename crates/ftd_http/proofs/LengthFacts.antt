-- The number of a text, by its first digit and the others.
use Rattle.std.proofs.Common.{◌≡◌, ◌≤◌, ◌<◌, ◌+◌, ◌-◌, ◌*◌, ◌^◌, ℕ, Bool, true, false, List, []}
use Rattle.std.proofs.Common.{◌∷◌, length, Some, None, refl, arith, ap, nat_lt, nat_le}
use Rattle.std.specs.Prelude.{◌&&◌, if◌then◌else◌}
use Rattle.std.specs.Char.{is_ascii_digit}
use Rattle.std.specs.Str.{all_ascii_digits}
use Rattle.std.proofs.lemmas.Bool.Decides.{nat_tests}
use Rattle.std.proofs.lemmas.Bool.{and_right}
use Rattle.ftd_days.specs.Digits.{AreDigits, number_of}
use Rattle.ftd_http.specs.Heads.{number_in}

-- what the tests say
if_so : (text : List ℕ) (b : Bool)
    → (nat_lt 0 (length text) && nat_le (length text) 10 && all_ascii_digits text) ≡ b
    → number_in text ≡ (if b then Some (number_of text) else None)
unfolding number_in
if_so text b e = ap (λ b. if b then Some (number_of text) else None) e

pub none_empty : (text : List ℕ) → length text ≡ 0 → number_in text ≡ None
none_empty [] none = if_so [] false refl
none_empty (d ∷ ds) none = absurd (omega arith)

pub none_long : (d : ℕ) (ds : List ℕ) → 9 < length ds → number_in (d ∷ ds) ≡ None
none_long d ds long =
    let e : nat_le (length (d ∷ ds)) 10 ≡ false = grind (arith, nat_tests) in
    if_so (d ∷ ds) false (rw e (grind (arith, nat_tests)))

pub none_first : (d : ℕ) (ds : List ℕ) → is_ascii_digit d ≡ false → number_in (d ∷ ds) ≡ None
none_first d ds e = if_so (d ∷ ds) false (and_right _ _ (ap (λ b. b && all_ascii_digits ds) e))

pub none_others : (d : ℕ) (ds : List ℕ) → (AreDigits ds → ⊥) → number_in (d ∷ ds) ≡ None
none_others d ds others = if_so (d ∷ ds) false
    (and_right _ _ (and_right _ _ (not_digits (all_ascii_digits ds) others)))
  where
    not_digits : (b : Bool) → (b ≡ true → ⊥) → b ≡ false
    not_digits true isnt = absurd (isnt refl)
    not_digits false isnt = refl

pub some_number : (d : ℕ) (ds : List ℕ) → length ds ≤ 9 → is_ascii_digit d ≡ true → AreDigits ds
    → number_in (d ∷ ds) ≡ Some ((d - 48) * 10 ^ length ds + number_of ds)
some_number d ds short digit digits =
    let e : nat_le (length (d ∷ ds)) 10 ≡ true = grind (arith, nat_tests) in
    let f : nat_lt 0 (length (d ∷ ds)) ≡ true = grind (arith, nat_tests) in
    if_so (d ∷ ds) true (rw (e, f, digit, digits) refl)
