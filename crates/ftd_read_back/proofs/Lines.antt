-- A text is one list of lines at most.
use Rattle.std.proofs.Common.{◌≡◌, ◌∙◌, refl, sym, ap, ℕ, Bool, true, false, List, [], ◌∷◌, ◌++◌}
use Rattle.std.proofs.Common.{append_assoc}
use Rattle.std.specs.Prelude.{All, ◌||◌}
use Rattle.std.specs.List.{flat_map, list_any}
use Rattle.std.proofs.lemmas.List.Elements.{All-head, All-tail}
use Rattle.ftd_read_back.specs.Lines.{is_break, AreLines}

abbrev pub ended : List ℕ → List ℕ
ended line = line ++ 13 ∷ 10 ∷ []

-- a line, its end, and what follows
abbrev before : List ℕ → List ℕ → List ℕ
before line rest = line ++ 13 ∷ 10 ∷ rest

abbrev Unbroken : List ℕ → Type 0
Unbroken line = list_any is_break line ≡ false

or_parts : (a b : Bool) → (a || b) ≡ false → (a ≡ false) × (b ≡ false)
or_parts true b e = absurd cc
or_parts false b e = (refl, e)

no_break : (byte : ℕ) (line : List ℕ) → Unbroken (byte ∷ line) → 13 ≡ byte → ⊥
no_break byte line h e =
    let first = (or_parts (is_break byte) (list_any is_break line) h).0 in
    let same : is_break 13 ≡ is_break byte = ap is_break e in
    cc

rest_unbroken : (byte : ℕ) (line : List ℕ) → Unbroken (byte ∷ line) → Unbroken line
rest_unbroken byte line h = (or_parts (is_break byte) (list_any is_break line) h).1

same_front : (a b s t : List ℕ) → Unbroken a → Unbroken b → before a s ≡ before b t
    → (a ≡ b) × (s ≡ t)
same_front [] [] s t p q e = (refl, cc)
same_front [] (y ∷ ys) s t p q e = absurd (no_break y ys q cc)
same_front (x ∷ xs) [] s t p q e = absurd (no_break x xs p cc)
same_front (x ∷ xs) (y ∷ ys) s t p q e =
    let rest = same_front xs ys s t (rest_unbroken x xs p) (rest_unbroken y ys q) cc in
    let tails = rest.0 in
    (cc, rest.1)

ends : (line rest : List ℕ) → ended line ++ rest ≡ before line rest
ends line rest = append_assoc line (13 ∷ 10 ∷ []) rest

not_nothing : (line rest : List ℕ) → [] ≡ before line rest → ⊥
not_nothing [] rest e = cc
not_nothing (x ∷ xs) rest e = cc

same : (lines others : List (List ℕ)) → All Unbroken lines → All Unbroken others
    → flat_map ended lines ≡ flat_map ended others → lines ≡ others
same [] [] p q e = refl
same [] (y ∷ ys) p q e = absurd (not_nothing y (flat_map ended ys) (e ∙ ends y (flat_map ended ys)))
same (x ∷ xs) [] p q e =
    absurd (not_nothing x (flat_map ended xs) (sym e ∙ ends x (flat_map ended xs)))
same (x ∷ xs) (y ∷ ys) p q e =
    let parts = same_front x y (flat_map ended xs) (flat_map ended ys) (All-head Unbroken x xs p)
    (All-head Unbroken y ys q)
    (sym (ends x (flat_map ended xs)) ∙ e ∙ ends y (flat_map ended ys)) in
    let first = parts.0 in
    let rest = same xs ys (All-tail Unbroken x xs p) (All-tail Unbroken y ys q) parts.1 in
    cc

pub same_lines : (text : List ℕ) (lines others : List (List ℕ)) → AreLines text lines
    → AreLines text others → lines ≡ others
same_lines text lines others p q =
    same lines others p.unbroken q.unbroken (sym p.joined ∙ q.joined)
