-- Rows one after the other.
use Rattle.std.proofs.Common.{◌≡◌, ℕ, ◌+◌, ◌<◌, ◌≤◌, List, [], ◌∷◌, ◌++◌, length, drop, get_or, map}
use Rattle.std.proofs.Common.{refl, sym, ap, ◌∙◌, append-nil, append_assoc}
use Rattle.std.specs.List.{join_with_byte, flat_map}
use Rattle.std.proofs.lemmas.List.{drop_all, nil_from_length}
use Rattle.ftd_days.proofs.Wholes.{rest_of}
use Rattle.std.specs.Prelude.{codes}
use Rattle.std.specs.Borrow.{Bor}
use Rattle.ftd_answers.specs.Columns.{line_end}
use Rattle.ftd_answers.specs.Fields.{Field, array_of, comma, json_of, member, member_of, members_of}
use Rattle.ftd_answers.specs.Fields.{object_of, object_told, told_by}
use Rattle.ftd_answers.specs.declared.fields.Value.{Value}

-- the texts of the rows from one on are its text and those of the rows after it
pub texts_at : {X : Type 0} (text : X → List ℕ) (rows : List X) (i : ℕ) (row : X)
    → i < length rows → row ≡ get_or rows i row
    → flat_map text (drop i rows) ≡ text row ++ flat_map text (drop (i + 1) rows)
texts_at {X} text rows i row h is = ap (λ (z : List X). flat_map text z) (rest_of rows i row h is)

-- after the last row there is none
pub texts_end : {X : Type 0} (text : X → List ℕ) (rows : List X) (i : ℕ) → length rows ≤ i
    → flat_map text (drop i rows) ≡ []
texts_end text rows i h = let none = drop_all i rows h in rw none refl

-- rows with one comma between are the first, and the others with a comma before each
pub joined : {X : Type 0} (first : List ℕ) (text : X → List ℕ) (xs : List X)
    → join_with_byte comma (first ∷ map text xs) ≡ first ++ flat_map (λ y. comma ∷ text y) xs
joined first text [] = sym (append-nil first)
joined first text (y ∷ ys) = ap (λ z. first ++ (comma ∷ z)) (joined (text y) text ys)

pub joined_from : {X : Type 0} (text : X → List ℕ) (rows : List X) (x : X) (xs : List X)
    → rows ≡ x ∷ xs
    → join_with_byte comma (map text rows) ≡ text x ++ flat_map (λ y. comma ∷ text y) xs
joined_from {X} text rows x xs e =
    ap (λ (z : List X). join_with_byte comma (map text z)) e ∙ joined (text x) text xs

pub joined_none : {X : Type 0} (text : X → List ℕ) (rows : List X) → length rows ≡ 0
    → join_with_byte comma (map text rows) ≡ []
joined_none text rows h = let none = nil_from_length rows h in rw none refl

-- a member is its name between quotes, with a colon behind, and its value
pub member_parts : (name value : List ℕ)
    → member name value ≡ (34 ∷ (name ++ (34 ∷ 58 ∷ []))) ++ value
member_parts name value = simp append_assoc

-- a list as JSON, by the parts in which it is written
pub json_parts : {T : Type 0} (fields : List (Field T)) (rows : List T)
    (sums : List (Bor (List ℕ) × Value)) → json_of fields (map member_of sums) rows ≡
    codes "{\"rows\":" ++ (array_of (map (λ x. object_of (members_of (told_by fields x))) rows)
    ++ (flat_map (λ y. comma ∷ member_of y) sums ++ codes "}\n"))
unfolding object_told
json_parts fields rows sums =
    let told = array_of (map (λ x. object_of (members_of (told_by fields x))) rows) in
    ap (λ z. (codes "{" ++ (z ++ codes "}")) ++ (line_end ∷ []))
    (joined (member (codes "rows") told) member_of sums) ∙ simp append_assoc
