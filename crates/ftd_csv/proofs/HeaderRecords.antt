-- The fields of a row, one after the other beside those of a header.
use Rattle.std.proofs.Common.{◌≡◌, ◌∙◌, ◌<◌, ◌≤◌, ◌+◌, ◌∷◌, [], ℕ, zero, suc, List, length, Option}
use Rattle.std.proofs.Common.{Some, refl, sym, ap, arith, take, get_or, map, Bor, None, option_map}
use Rattle.std.specs.Prelude.{IfSome, MatchOption}
use Rattle.std.specs.Option.{option_copied}
use Rattle.std.proofs.lemmas.List.{get_or-map, length-map}
use Rattle.std.proofs.Math.Seq.{take-length}
use Rattle.csv.specs.Records.{field_at}
use Rattle.csv.proofs.RecordFacts.{field-none}

-- the field at a place
pub at_place : (fields : List (List ℕ)) (i : ℕ) (default : List ℕ) → i < length fields
    → field_at fields i ≡ Some (get_or fields i default)
unfolding field_at
at_place [] i default within = absurd (omega arith)
at_place (field ∷ fields) zero default within = refl
at_place (field ∷ fields) (suc i) default within = at_place fields i default (omega arith)

-- one more field is the same
pub one_more : (fields names : List (List ℕ)) (i : ℕ) (name : List ℕ)
    → take i fields ≡ take i names → field_at fields i ≡ Some name → field_at names i ≡ Some name
    → take (suc i) fields ≡ take (suc i) names
unfolding field_at
one_more [] names i name same here there = absurd cc
one_more (field ∷ fields) [] i name same here there = absurd cc
one_more (field ∷ fields) (other ∷ names) zero name same here there =
    let f : field ≡ name = cc in let g : other ≡ name = cc in rw (f, g) refl
one_more (field ∷ fields) (other ∷ names) (suc i) name same here there =
    let first : field ≡ other = cc in
    let later : take i fields ≡ take i names = cc in
    let more = one_more fields names i name later here there in
    rw first (ap (λ (rest : List (List ℕ)). other ∷ rest) more)

abbrev text : Bor (List ℕ) → List ℕ
text name = name.now

module _ (fields names : List (List ℕ)) (columns : List (Bor (List ℕ)))
    (are : map text columns ≡ names) where
  -- the name at a place
  pub name_at : (i : ℕ) (default : Bor (List ℕ)) → i < length columns
      → field_at names i ≡ Some (text (get_or columns i default))
  name_at i default within =
      let long = sym (ap length are) ∙ length-map columns text in
      at_place names i [] (omega (arith, long))
      ∙ ap (λ (name : List ℕ). Some name) (sym (ap (λ (xs : List (List ℕ)). get_or xs i []) are)
      ∙ get_or-map text columns i default [] within)

  -- a field that is none of the header
  pub not_header : (i : ℕ) (default : Bor (List ℕ)) → i < length columns → fields ≡ names
      → field_at fields i ≡ Some (text (get_or columns i default))
  not_header i default within same = ap (λ (xs : List (List ℕ)). field_at xs i) same
      ∙ name_at i default within

  -- one more field is that of the header
  pub more_same : (i : ℕ) (default : Bor (List ℕ)) → i < length columns
      → take i fields ≡ take i names
      → field_at fields i ≡ Some (text (get_or columns i default))
      → take (i + 1) fields ≡ take (i + 1) names
  more_same i default within same here =
      let one : i + 1 ≡ suc i = omega arith in
      rw one (one_more fields names i (text (get_or columns i default)) same here
      (name_at i default within))

  -- all of them are
  pub all_same : (i : ℕ) → length columns ≤ i → i ≤ length columns → length fields ≡ length columns
      → take i fields ≡ take i names → fields ≡ names
  all_same i from to wide same =
      let long = sym (ap length are) ∙ length-map columns text in
      let first : i ≡ length fields = omega arith in
      let second : i ≡ length names = omega (arith, long) in
      sym (take-length fields) ∙ ap (λ n. take n fields) (sym first) ∙ same
      ∙ ap (λ n. take n names) second ∙ take-length names

  -- the name at a place that was looked up
  pub column_is : (i : ℕ) (found : Option (Bor (Bor (List ℕ))))
      → IfSome found (λ name. name.now ≡ get_or columns i name.now)
      → MatchOption found (length columns ≤ i) (λ name. i < length columns)
      → option_map text (option_copied found) ≡ field_at names i
  column_is i None is past =
      let long = sym (ap length are) ∙ length-map columns text in
      sym (field-none names i (omega (arith, long)))
  column_is i (Some name) is within =
      ap (λ (it : Bor (List ℕ)). Some (text it)) is ∙ sym (name_at i name.now within)
