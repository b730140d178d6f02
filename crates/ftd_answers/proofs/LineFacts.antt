-- The pieces of a line, joined.
use Rattle.std.proofs.Common.{◌≡◌, ℕ, ◌+◌, ◌-◌, ◌/◌, ◌<◌, ◌≤◌, List, [], ◌∷◌, ◌++◌, length, drop}
use Rattle.std.proofs.Common.{get_or, refl, sym, ap, ◌∙◌, arith, append_assoc, length-append}
use Rattle.std.specs.Prelude.{replicate}
use Rattle.std.specs.List.{join_with_byte, concat, flat_map, sum_by}
use Rattle.std.specs.Fmt.{decimal}
use Rattle.std.proofs.lemmas.List.{drop_all}
use Rattle.std.proofs.lemmas.List.Sums.{sum_by-cons}
use Rattle.ftd_days.specs.Digits.{two_digits}
use Rattle.ftd_days.specs.Text.{point, cents_text}
use Rattle.ftd_days.proofs.Wholes.{rest_of}
use Rattle.ftd_answers.specs.Columns.{amount_in}
use Rattle.ftd_answers.specs.declared.values.AmountColumn.{AmountColumn}

-- spaces, dollars, and the point with the cents are an amount in its column
pub amount_parts : (amount width : ℕ) (spaces : List ℕ)
    → width ≡ 14 - length (decimal (amount / 100)) → spaces ≡ replicate width 32
    → spaces ++ decimal (amount / 100) ++ (point ∷ two_digits amount) ≡ amount_in amount
unfolding amount_in
amount_parts amount width spaces w s =
    let long : 17 - length (cents_text amount) ≡ width = simp length-append (omega arith) in
    rw (s, long) (append_assoc (replicate width 32) (decimal (amount / 100)) _)

-- a column, a space and what follows to the end of the line
pub column : (a others end line : List ℕ) → others ++ end ≡ line → (a ++ (32 ∷ others)) ++ end ≡ a
    ++ ((32 ∷ []) ++ line)
column a others end line e = append_assoc a (32 ∷ others) end ∙ ap (λ z. a ++ (32 ∷ z)) e

-- a column of three pieces
pub three : (s d c others end line : List ℕ) → others ++ end ≡ line
    → ((s ++ d ++ c) ++ (32 ∷ others)) ++ end ≡ s ++ (d ++ (c ++ ((32 ∷ []) ++ line)))
three s d c others end line e = column (s ++ d ++ c) others end line e
    ∙ (append_assoc (s ++ d) c (32 ∷ line) ∙ append_assoc s d (c ++ (32 ∷ line)))

-- the pieces of a row's line are its columns, with one space between
pub row_parts : (x y : AmountColumn) {a b r u m v amount paid first last rule due made state
    : List ℕ} → a ≡ first → b ≡ last → r ≡ rule → x.spaces.now ++ x.dollars.now ++ x.cents ≡ amount
    → u ≡ due → m ≡ made → y.spaces.now ++ y.dollars.now ++ y.cents ≡ paid → v ≡ state
    → concat (a ∷ (32 ∷ []) ∷ b ∷ (32 ∷ []) ∷ r ∷ (32 ∷ []) ∷ x.spaces.now ∷ x.dollars.now ∷ x.cents
    ∷ (32 ∷ []) ∷ u ∷ (32 ∷ []) ∷ m ∷ (32 ∷ []) ∷ y.spaces.now ∷ y.dollars.now ∷ y.cents ∷ (32 ∷ [])
    ∷ v ∷ (10 ∷ []) ∷ [])
    ≡ join_with_byte 32 (first ∷ last ∷ rule ∷ amount ∷ due ∷ made ∷ paid ∷ state ∷ []) ++ (10 ∷ [])
row_parts x y {a = a} {b = b} {r = r} {u = u} {m = m} p q w c d e f g =
    rw (← p, ← q, ← w, ← c, ← d, ← e, ← f, ← g) (sym (column a _ _ _ (column b _ _ _
    (column r _ _ _ (three x.spaces.now _ _ _ _ _ (column u _ _ _ (column m _ _ _
    (three y.spaces.now _ _ _ _ _ refl))))))))

-- so are their lines, and their amounts
pub rows_at : {X : Type 0} (line : X → List ℕ) (rows : List X) (i : ℕ) (row : X) (last : List ℕ)
    → i < length rows → row ≡ get_or rows i row
    → flat_map line (drop i rows) ++ last ≡ line row ++ (flat_map line (drop (i + 1) rows) ++ last)
rows_at {X} line rows i row last h is =
    ap (λ (z : List X). flat_map line z ++ last) (rest_of rows i row h is)
    ∙ append_assoc (line row) (flat_map line (drop (i + 1) rows)) last

pub amounts_at : {X : Type 0} (amount : X → ℕ) (rows : List X) (i : ℕ) (row : X) → i < length rows
    → row ≡ get_or rows i row
    → sum_by amount (drop i rows) ≡ amount row + sum_by amount (drop (i + 1) rows)
amounts_at {X} amount rows i row h is =
    ap (λ (z : List X). sum_by amount z) (rest_of rows i row h is)
    ∙ sum_by-cons amount row (drop (i + 1) rows)

-- after the last row the last line is left, of the whole total
pub rows_end : {X : Type 0} (line : X → List ℕ) (amount : X → ℕ) (last_line : ℕ → List ℕ)
    (rows : List X) (i total : ℕ) → length rows ≤ i → total + sum_by amount (drop i rows) ≡ sum_by
    amount rows
    → flat_map line (drop i rows) ++ last_line (sum_by amount rows) ≡ last_line total
rows_end line amount last_line rows i total h e =
    let none = drop_all i rows h in
    let whole : total ≡ sum_by amount rows = let f = rw none at e in omega arith in
    rw none (ap (λ z. last_line z) (sym whole))

-- no line is left after the last row, and the total is the whole
pub lines_end : {X : Type 0} (line : X → List ℕ) (rows : List X) (i : ℕ) → length rows ≤ i
    → (last : List ℕ) → flat_map line (drop i rows) ++ last ≡ last
lines_end line rows i h last = let none = drop_all i rows h in rw none refl

pub amounts_end : {X : Type 0} (amount : X → ℕ) (rows : List X) (i total : ℕ) → length rows ≤ i
    → total + sum_by amount (drop i rows) ≡ sum_by amount rows → total ≡ sum_by amount rows
amounts_end amount rows i total h e =
    let none = drop_all i rows h in let f = rw none at e in omega arith
