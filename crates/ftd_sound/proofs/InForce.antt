-- What is in force: the last of what was put right.
use Rattle.std.proofs.Common.{◌≡◌, ◌-◌, List, [], ◌∷◌, length, suc, Some, arith, ◌∙◌, ap}
use Rattle.std.specs.Prelude.{slice_get}
use Rattle.ftd_machine.specs.State.{latest}

pub latest_last : {X : Type 0} (first : X) (xs : List X) (last : X)
    → Some last ≡ slice_get xs (length xs - 1) → latest first xs ≡ last
latest_last first [] last is = absurd cc
latest_last first (x ∷ []) last is =
    let at : length (x ∷ []) - 1 ≡ 0 = omega arith in
    let found : Some last ≡ Some x = is ∙ ap (slice_get (x ∷ [])) at in cc
latest_last first (x ∷ y ∷ xs) last is =
    let at : length (x ∷ y ∷ xs) - 1 ≡ suc (length (y ∷ xs) - 1) = omega arith in
    latest_last x (y ∷ xs) last (is ∙ ap (slice_get (x ∷ y ∷ xs)) at)
