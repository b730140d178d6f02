-- The records of a text that a writer of CSV wrote are those that it wrote.
use Rattle.std.proofs.Common.{◌≡◌, refl, ap, ℕ, zero, suc, ◌+◌, ◌≤◌, List, [], ◌∷◌, ◌++◌}
use Rattle.std.proofs.Common.{length, length-append, arith}
use Rattle.csv.specs.Machine.{next_record}
use Rattle.csv.specs.Reading.{default_config, records, records_from}
use Rattle.std.specs.Prelude.{if◌then◌else◌}
use Rattle.csv.specs.Writing.{default_writer, row_body, row_text, is_blank}
use Rattle.csv.specs.declared.parser.State.TheVariants as st
use Rattle.csv.proofs.RoundTrip.{read-write, rows_text}

-- each row has a field
abbrev pub AreRows : List (List (List ℕ)) → Type 0
AreRows [] = Unit {0}
AreRows ([] ∷ rows) = ⊥
AreRows ((field ∷ fields) ∷ rows) = AreRows rows

read_all : (rows : List (List (List ℕ))) (most : ℕ) → AreRows rows → length rows ≤ most
    → records_from default_config most st.StartRecord (rows_text rows) ≡ rows
unfolding records_from rows_text next_record
read_all [] zero are some = refl
read_all [] (suc most) are some = refl
read_all ([] ∷ rows) most are some = absurd are
read_all ((field ∷ fields) ∷ rows) zero are some = absurd (omega arith)
read_all ((field ∷ fields) ∷ rows) (suc most) are some =
    rw (read-write (field ∷ fields) (rows_text rows))
    (ap (λ (t : List (List (List ℕ))). (field ∷ fields) ∷ t) (read_all rows most are (omega arith)))

-- no row takes no byte
ended : (xs ys : List ℕ) → 1 ≤ length (xs ++ (ys ++ (10 ∷ [])))
ended xs ys =
    let a = length-append xs (ys ++ (10 ∷ [])) in
    let b = length-append ys (10 ∷ []) in
    omega (arith, a, b)

one_byte : (row : List (List ℕ)) → 1 ≤ length (row_text default_writer row)
one_byte row =
    ended (row_body default_writer row)
    (if is_blank default_writer row then 34 ∷ 34 ∷ [] else [])

long_rows : (rows : List (List (List ℕ))) → AreRows rows → length rows ≤ length (rows_text rows)
unfolding rows_text
long_rows [] are = omega arith
long_rows ([] ∷ rows) are = absurd are
long_rows ((field ∷ fields) ∷ rows) are =
    let row = field ∷ fields in
    let rest = long_rows rows are in
    let whole = length-append (row_text default_writer row) (rows_text rows) in
    let some = one_byte row in
    omega (arith, whole, rest, some)

pub read_written : (rows : List (List (List ℕ))) → AreRows rows
    → records default_config (rows_text rows) ≡ rows
read_written rows are =
    let long = long_rows rows are in
    read_all rows (length (rows_text rows) + 1) are (omega arith)
