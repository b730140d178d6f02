-- Years that follow one another.
use Rattle.std.proofs.Common.{◌≡◌, ℕ, ◌+◌, ◌-◌, ◌<◌, ◌==◌, ◌&&◌, Bool, true, false, nat_lt}
use Rattle.std.proofs.Common.{List, [], ◌∷◌, length, zero, suc, get_or, refl, sym, ◌∙◌, arith}
use Rattle.std.specs.Prelude.{◌↔◌, IsTrue}
use Rattle.std.specs.List.{IsAllAdjacentAnswer}
use Rattle.std.proofs.lemmas.Bool.{false≢true, eqb-true, and_parts, lt-ltb}
use borrow.Author.Tests.{ltb-true}
use Rattle.ftd_machine.specs.Sound.{Follow}

-- the next year is one more
abbrev pub is_next : ℕ → ℕ → Bool
is_next year next = nat_lt year next && (next - year == 1)

one_more : (year next : ℕ) → is_next year next ≡ true → next ≡ year + 1
one_more year next is =
    let parts = and_parts (nat_lt year next) (next - year == 1) is in
    let less = ltb-true year next parts.0 in
    let by = eqb-true (next - year) 1 parts.1 in
    omega arith

is_one_more : (year next : ℕ) → next ≡ year + 1 → is_next year next ≡ true
is_one_more year next is =
    let less : nat_lt year next ≡ true = lt-ltb year next (omega arith) in
    let by : next - year ≡ 1 = omega arith in
    rw (less, by) refl

follow_each : (xs : List ℕ)
    → ((k : ℕ) (d : ℕ) → k + 1 < length xs → get_or xs (k + 1) d ≡ get_or xs k d + 1) → Follow xs
follow_each [] h = tt
follow_each (x ∷ []) h = tt
follow_each (x ∷ y ∷ xs) h = (
  h 0 0 (omega arith),
  follow_each (y ∷ xs) (λ k d l. let next : suc k + 1 ≡ suc (k + 1) = omega arith in
      rw next at (h (suc k) d (omega arith))),
)

each_follows : (xs : List ℕ) → Follow xs → (k d : ℕ) → k + 1 < length xs
    → get_or xs (k + 1) d ≡ get_or xs k d + 1
each_follows [] h k d l = absurd (omega arith)
each_follows (x ∷ []) h k d l = absurd (omega arith)
each_follows (x ∷ y ∷ xs) h zero d l = h.0
each_follows (x ∷ y ∷ xs) h (suc k) d l =
    let next : suc k + 1 ≡ suc (k + 1) = omega arith in
    rw next (each_follows (y ∷ xs) h.1 k d (omega arith))

pub follow_decided : (xs : List ℕ) (r : Bool)
    → IsAllAdjacentAnswer (λ x y b. b ≡ is_next x y) xs r → IsTrue r ↔ Follow xs
follow_decided xs true h =
    (λ _. follow_each xs (λ k d l. one_more _ _ (sym (h k d l))), λ _. refl)
follow_decided xs false h = (
  λ e. absurd (false≢true e),
  λ follow. absurd (false≢true (h.2 0
      ∙ is_one_more _ _ (each_follows xs follow h.0 0 h.1))),
)
