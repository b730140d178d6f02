-- The words of a list.
use Rattle.std.proofs.Common.{◌≡◌, ℕ, suc, ◌+◌, ◌||◌, List, [], ◌∷◌, Bool, true, false, not, cond}
use Rattle.std.proofs.Common.{length, take, drop, refl, ap, ◌∙◌, nat_lt}
use Rattle.std.proofs.Common.{◌-◌, Some, None, arith, sym, take_all, drop-drop, length-drop}
use Rattle.std.proofs.lemmas.Bool.Decides.{nat_tests}
use Rattle.std.specs.List.{list_any, onto_first, slice_split, position, position_or_len}
use Rattle.std.proofs.Math.Bool.{or-false}
use Rattle.ftd_http.specs.Fields.{is_between, is_word, lists}

-- what stands behind the first word
abbrev pub rest_of : (ℕ → Bool) → List ℕ → List (List ℕ)
rest_of p list =
    cond (nat_lt (position_or_len p list) (length list))
    (slice_split p (drop (position_or_len p list + 1) list)) []

less : (bytes : List ℕ) → true ≡ nat_lt 0 (suc (length bytes))
less bytes = grind (arith, nat_tests)

-- one byte more stands in the first word
further : (p : ℕ → Bool) (byte : ℕ) (bytes : List ℕ) (n m k : ℕ) (b : Bool) → m ≡ suc n
    → k ≡ suc (n + 1) → b ≡ nat_lt n (length bytes)
    → (byte ∷ take n bytes)
    ∷ cond (nat_lt n (length bytes)) (slice_split p (drop (n + 1) bytes)) []
    ≡ take m (byte ∷ bytes) ∷ cond b (slice_split p (drop k (byte ∷ bytes))) []
further p byte bytes n m k b one two same = rw (one, two, same) refl

-- a list, cut behind its first word
pub cut : (p : ℕ → Bool) (list : List ℕ)
    → slice_split p list ≡ take (position_or_len p list) list ∷ rest_of p list
cut p [] = refl
cut p (byte ∷ bytes) =
    let n = position_or_len p bytes in
    elim (p byte) as (λ b. cond b ([] ∷ slice_split p bytes) (onto_first byte (slice_split p bytes))
    ≡ take (cond (not b) (1 + n) 0) (byte ∷ bytes)
    ∷ cond (nat_lt (cond (not b) (1 + n) 0) (length (byte ∷ bytes)))
    (slice_split p (drop (cond (not b) (1 + n) 0 + 1) (byte ∷ bytes))) []) [
      | true ↦ ap (λ b. [] ∷ cond b (slice_split p bytes) []) (less bytes)
      | false ↦ ap (onto_first byte) (cut p bytes)
          ∙ further p byte bytes n (1 + n) (1 + n + 1) (nat_lt (1 + n) (length (byte ∷ bytes)))
          (omega arith) (omega arith) (grind (arith, nat_tests))
    ]

-- the first word of a list, by the place of what stands behind it
parts_by : (p : ℕ → Bool) (list : List ℕ) (m n : ℕ) (b : Bool) → cond b (Some m) None ≡ Some n
    → take m list ∷ cond b (slice_split p (drop (m + 1) list)) []
    ≡ take n list ∷ slice_split p (drop (n + 1) list)
parts_by p list m n true same = let is : m ≡ n = cc in
    ap (λ z. take z list ∷ slice_split p (drop (z + 1) list)) is
parts_by p list m n false same = cc

whole_by : (p : ℕ → Bool) (list : List ℕ) (m : ℕ) (b : Bool) → nat_lt m (length list) ≡ b
    → cond b (Some m) None ≡ None
    → take m list ∷ cond b (slice_split p (drop (m + 1) list)) [] ≡ list ∷ []
whole_by p list m true less none = cc
whole_by p list m false less none = ap (λ z. z ∷ []) (take_all m list (grind (arith, nat_tests)))

-- a list has a word where its first one is it, or what stands behind that has it
pub lists_more : (word list : List ℕ) (n : ℕ) → position is_between list ≡ Some n
    → lists word list ≡ (is_word word (take n list) || lists word (drop (n + 1) list))
unfolding lists
lists_more word list n same =
    ap (list_any (is_word word))
    (cut is_between list ∙ parts_by is_between list (position_or_len is_between list) n
    (nat_lt (position_or_len is_between list) (length list)) same)

pub lists_last : (word list : List ℕ) → position is_between list ≡ None
    → lists word list ≡ is_word word list
unfolding lists
lists_last word list none =
    ap (list_any (is_word word))
    (cut is_between list ∙ whole_by is_between list (position_or_len is_between list)
    (nat_lt (position_or_len is_between list) (length list)) refl none)
    ∙ or-false (is_word word list)

-- the first word of a list is it
pub lists_first : (word list first : List ℕ) (n : ℕ) → position is_between list ≡ Some n
    → first ≡ take n list → is_word word first ≡ true → lists word list ≡ true
lists_first word list first n same front is =
    lists_more word list n same
    ∙ ap (λ z. is_word word z || lists word (drop (n + 1) list)) (sym front)
    ∙ ap (λ b. b || lists word (drop (n + 1) list)) is

-- a list but its first element
tail_is : (list : List ℕ) (n : ℕ) → drop (n + 1) list
    ≡ take (length (drop n list) - 1) (drop 1 (drop n list))
tail_is list n =
    ap (λ m. drop m list) (omega arith)
    ∙ sym (drop-drop 1 n list)
    ∙ sym (take_all (length (drop n list) - 1) (drop 1 (drop n list))
    (let l = length-drop 1 (drop n list) in omega arith))

-- the first word of a list is another
pub lists_behind : (word list first behind : List ℕ) (n : ℕ) → position is_between list ≡ Some n
    → first ≡ take n list → behind ≡ drop n list → is_word word first ≡ false
    → lists word list ≡ lists word (take (length behind - 1) (drop 1 behind))
lists_behind word list first behind n same front back other =
    lists_more word list n same
    ∙ ap (λ z. is_word word z || lists word (drop (n + 1) list)) (sym front)
    ∙ ap (λ b. b || lists word (drop (n + 1) list)) other
    ∙ ap (lists word) (tail_is list n)
    ∙ ap (λ z. lists word (take (length z - 1) (drop 1 z))) (sym back)
