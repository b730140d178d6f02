-- There is one verdict on a case, and one row of an obligation.
use Rattle.std.proofs.Common.{◌≡◌, ◌↔◌, Bool, true, false, refl, sym}
use Rattle.std.specs.Prelude.{IsTrue}
use Rattle.std.proofs.lemmas.Bool.{true≢false}

-- tests of the same fact are equal
pub same_test : {P : Type 0} (a b : Bool) → IsTrue a ↔ P → IsTrue b ↔ P → a ≡ b
same_test true true f g = refl
same_test true false f g = absurd (true≢false (sym (g.1 (f.0 refl))))
same_test false true f g = absurd (true≢false (sym (f.1 (g.0 refl))))
same_test false false f g = refl
