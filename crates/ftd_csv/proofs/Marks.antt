-- A byte order mark at the start of a text.
use Rattle.std.proofs.Common.{◌≡◌, ◌+◌, ℕ, List, [], ◌∷◌, length, take, drop, Bool, true, false}
use Rattle.std.proofs.Common.{refl, Option, Some, None, Bor, MatchOption, unwrap_or, eqb, sym, ◌∙◌}
use Rattle.std.specs.Prelude.{◌&&◌}
use Rattle.std.specs.Cmp.Lexicographic.{pointwise}
use Rattle.std.proofs.Math.Bool.{and-false}
use Rattle.csv.specs.Reading.{is_bom, strip_bom}

abbrev mark : List ℕ
mark = 0xEF ∷ 0xBB ∷ 0xBF ∷ []

three : (a b c : Bool) → ((a && b) && c) ≡ (a && (b && (c && true)))
three false b c = refl
three true false c = refl
three true true false = refl
three true true true = refl

two : (a b : Bool) → (a && (b && false)) ≡ false
two true b = and-false b
two false b = refl

marked : (text : List ℕ) → pointwise eqb (take 3 text) mark ≡ true → drop 3 text ≡ strip_bom text
unfolding strip_bom
marked [] h = cc
marked (a ∷ []) h = let f = sym h ∙ and-false (eqb a 0xEF) in cc f
marked (a ∷ b ∷ []) h = let f = sym h ∙ two (eqb a 0xEF) (eqb b 0xBB) in cc f
marked (a ∷ b ∷ c ∷ rest) h =
    let found : is_bom a b c ≡ true = three (eqb a 0xEF) (eqb b 0xBB) (eqb c 0xBF) ∙ h in
    rw found refl

unmarked : (text : List ℕ) → pointwise eqb (take 3 text) mark ≡ false → text ≡ strip_bom text
unfolding strip_bom
unmarked [] h = refl
unmarked (a ∷ []) h = refl
unmarked (a ∷ b ∷ []) h = refl
unmarked (a ∷ b ∷ c ∷ rest) h =
    let other : is_bom a b c ≡ false = three (eqb a 0xEF) (eqb b 0xBB) (eqb c 0xBF) ∙ h in
    rw other refl

-- what is left of a text that may begin with the mark
pub stripped : (text : Bor (List ℕ)) (found : Option (Bor (List ℕ)))
    → MatchOption found (pointwise eqb (take 3 text.now) mark ≡ false)
    (λ x. (pointwise eqb (take 3 text.now) mark ≡ true) × (x.now ≡ drop 3 text.now)
    × (length x.now + 3 ≡ length text.now))
    → (unwrap_or found text).now ≡ strip_bom text.now
stripped text None h = unmarked text.now h
stripped text (Some x) h = h.1 ∙ marked text.now h.0
