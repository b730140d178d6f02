-- Keys that stand once, decided one after the other.
use Rattle.std.proofs.Common.{◌≡◌, ◌∙◌, ℕ, sym, subst, true, false, List, ◌∷◌, eqb-true, eq-eqb}
use Rattle.std.specs.Prelude.{◌==◌, ◌↔◌, IsTrue}
use Rattle.std.specs.List.{list_any}
use Rattle.std.proofs.lemmas.Bool.{true≢false}
use Rattle.ftd_rules.proofs.Members.{some_pass, any_has}
use Rattle.ftd_machine.specs.Sound.{AreDistinct}

module _ {X : Type 0} (key : X → ℕ) (x : X) (xs : List X) where
  -- one more whose key none of the others has
  pub once_more : list_any (λ y. key y == key x) xs ≡ false → AreDistinct key xs
      → AreDistinct key (x ∷ xs)
  once_more none once = (
    (λ later has same. true≢false
        (sym (any_has (λ y. key y == key x) xs later has (eq-eqb (key later) (key x) same))
        ∙ none)),
    once,
  )

  -- one whose key another has
  pub not_once : list_any (λ y. key y == key x) xs ≡ true → AreDistinct key (x ∷ xs) → ⊥
  not_once some once =
      let found = some_pass (λ y. key y == key x) xs some in
      once.0 found.0 found.1 (eqb-true (key found.0) (key x) found.2)

-- ---- from one list to what is left of it

-- the whole decides as what is left does
abbrev pub DecidedBy : Type 0 → Type 0 → Type 0
DecidedBy Whole Left = (Left → Whole) × (Whole → Left)

module _ {X : Type 0} (key : X → ℕ) (left : List X) (x : X) (rest : List X) (is : left ≡ x ∷ rest)
    (Whole : Type 0) (decided : DecidedBy Whole (AreDistinct key left)) where
  pub once_rest : list_any (λ y. key y == key x) rest ≡ false
      → DecidedBy Whole (AreDistinct key rest)
  once_rest none = (
    (λ once. decided.0 (subst (AreDistinct key) (sym is) (once_more key x rest none once))),
    (λ whole. (subst (AreDistinct key) is (decided.1 whole)).1),
  )

  pub once_fails : list_any (λ y. key y == key x) rest ≡ true → IsTrue false ↔ Whole
  once_fails some = (
    (λ no. absurd (true≢false (sym no))),
    (λ whole. absurd (not_once key x rest some (subst (AreDistinct key) is (decided.1 whole)))),
  )
