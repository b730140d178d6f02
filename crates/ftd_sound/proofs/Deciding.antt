-- What a test of each member, or of some member, decides.
use Rattle.std.proofs.Common.{◌≡◌, ℕ, ◌<◌, ◌==◌, Bool, true, false, List, [], ◌∷◌, length}
use Rattle.std.proofs.Common.{refl, sym, ap, subst, ◌∙◌, arith, Result, Ok, Err, IfOk}
use Rattle.std.specs.Prelude.{◌↔◌, IsTrue, All, MatchBool, map}
use Rattle.std.specs.List.{AllWithin, HoldsAt, list_any}
use Rattle.std.proofs.lemmas.Bool.{false≢true, eqb-true}
use Rattle.std.proofs.lemmas.List.Elements.{All-from_all_within}
use Rattle.ftd_rules.specs.Lists.{Has}
use Rattle.ftd_rules.proofs.Members.{some_pass, any_has, mapped_has, has_mapped}
use Rattle.ftd_machine.proofs.Keeping.{same_key}

-- none of no items fails, and where one fails not all pass
some_fails : {X : Type 0} (P : X → Type 0) (xs : List X) (k : ℕ) → k < length xs
    → HoldsAt (λ x. P x → ⊥) xs k → All P xs → ⊥
some_fails P [] k less fails all = absurd (omega arith)
some_fails P (x ∷ xs) k less fails all = fails x (all k x less)

-- `all` answers whether each meets the fact
pub all_decides : {X : Type 0} (P : X → Type 0) (xs : List X) (r : Bool)
    → MatchBool r (AllWithin P xs 0 (length xs))
    ((k : ℕ) × (k < length xs) × HoldsAt (λ x. P x → ⊥) xs k)
    → IsTrue r ↔ All P xs
all_decides P xs true h = (λ _. All-from_all_within P xs h, λ _. refl)
all_decides P xs false h =
    (λ e. absurd (false≢true e), λ all. absurd (some_fails P xs h.0 h.1 h.2 all))

-- whether a number is one of these
pub any_is_one : (xs : List ℕ) (x : ℕ) (r : Bool) → r ≡ list_any (λ y. y == x) xs
    → IsTrue r ↔ Has xs x
any_is_one xs x r is = (
  (λ e. let found = some_pass (λ y. y == x) xs (sym is ∙ e) in
      subst (Has xs) (eqb-true found.0 x found.2) found.1),
  (λ has. is ∙ any_has (λ y. y == x) xs x has (same_key x)),
)

-- whether it is the key of one of these
pub any_has_key : {X : Type 0} (xs : List (ℕ × X)) (key : ℕ) (r : Bool)
    → r ≡ list_any (λ (e : ℕ × X). e.0 == key) xs
    → IsTrue r ↔ Has (map (λ (e : ℕ × X). e.0) xs) key
any_has_key {X = X} xs key r is = (
  (λ e. let found = some_pass (λ (e : ℕ × X). e.0 == key) xs (sym is ∙ e) in
      subst (Has (map (λ (e : ℕ × X). e.0) xs)) (eqb-true found.0.0 key found.2)
      (mapped_has (λ (e : ℕ × X). e.0) xs found.0 found.1)),
  (λ has. let from = has_mapped (λ (e : ℕ × X). e.0) xs key has in
      is ∙ any_has (λ (e : ℕ × X). e.0 == key) xs from.0 from.1
      (ap (λ k. k == key) (sym from.2) ∙ same_key key)),
)

-- where the first of two facts holds, what decides the second decides both
pub and_also : {E : Type 0} (P Q : Type 0) (r : Result Bool E) → P → IfOk r (λ b. IsTrue b ↔ Q)
    → IfOk r (λ b. IsTrue b ↔ (P × Q))
and_also P Q (Ok b) p q = (λ e. (p, q.0 e), λ h. q.1 h.1)
and_also P Q (Err e) p q = tt
