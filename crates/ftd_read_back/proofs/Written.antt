-- A list told as CSV is read as its columns and its rows.
use Rattle.std.proofs.Common.{◌≡◌, ◌∙◌, refl, sym, ap, subst, ℕ, zero, suc, ◌+◌, ◌≤◌, Bool}
use Rattle.std.proofs.Common.{false, not, inl, inr, List, [], ◌∷◌, ◌++◌, length, map, filter}
use Rattle.std.proofs.Common.{append-nil, length-append, arith}
use Rattle.std.specs.Prelude.{if◌then◌else◌}
use Rattle.std.specs.List.{flat_map, join_with_byte, list_any}
use Rattle.std.proofs.lemmas.Bool.{cases_Bool}
use Rattle.csv.specs.Machine.{next_record}
use Rattle.csv.specs.Reading.{default_config, records, records_from, strip_bom}
use Rattle.csv.specs.Writing.{default_writer, field_text, fields_text, is_blank, needs_byte}
use Rattle.csv.specs.Writing.{row_body, row_text}
use Rattle.csv.specs.declared.parser.State.TheVariants as st
use Rattle.csv.proofs.RoundTrip.{read-write, rows_text}
use Rattle.ftd_rules.specs.Lists.{Has}
use Rattle.ftd_answers.specs.Fields.{Field, cells, columns, csv_of, header_of, record_of}
use Rattle.ftd_answers.specs.Fields.{record_told}
use Rattle.ftd_read_back.specs.Cells.{cell, read_under, table_read}

-- ---- a row

abbrev pub IsUnquoted : List ℕ → Type 0
IsUnquoted text = list_any (needs_byte default_writer) text ≡ false

abbrev pub AreUnquoted : List (List ℕ) → Type 0
AreUnquoted [] = Unit {0}
AreUnquoted (text ∷ texts) = IsUnquoted text × AreUnquoted texts

joined : (text : List ℕ) (texts : List (List ℕ)) → AreUnquoted (text ∷ texts)
    → row_body default_writer (text ∷ texts) ≡ join_with_byte 44 (text ∷ texts)
unfolding fields_text
joined text [] are = rw are.0 (append-nil text)
joined text (next ∷ texts) are =
    let own : field_text default_writer text ≡ text = rw are.0 refl in
    ap (λ (t : List ℕ). t ++ fields_text default_writer (next ∷ texts)) own
    ∙ ap (λ (t : List ℕ). text ++ (44 ∷ t)) (joined next texts are.1)

-- a row of two texts or more that call for no quotes is written by csv as it is told
abbrev pub IsWritten : List (List ℕ) → Type 0
IsWritten row = (row_text default_writer row ≡ record_of row) × (1 ≤ length row)

pub unquoted_row : (row : List (List ℕ)) → AreUnquoted row → 2 ≤ length row → IsWritten row
unfolding is_blank
unquoted_row [] are long = absurd (omega arith)
unquoted_row (text ∷ []) are long = absurd (omega arith)
unquoted_row (text ∷ next ∷ texts) are long =
    (ap (λ (t : List ℕ). t ++ (10 ∷ [])) (joined text (next ∷ texts) are), omega arith)

-- ---- rows that csv has written are read back

abbrev AreSome : List (List (List ℕ)) → Type 0
AreSome rows = (row : List (List ℕ)) → Has rows row → 1 ≤ length row

ended : (xs ys : List ℕ) → 1 ≤ length (xs ++ (ys ++ (10 ∷ [])))
ended xs ys =
    let a = length-append xs (ys ++ (10 ∷ [])) in
    let b = length-append ys (10 ∷ []) in
    omega (arith, a, b)

one_byte : (row : List (List ℕ)) → 1 ≤ length (row_text default_writer row)
one_byte row =
    ended (row_body default_writer row) (if is_blank default_writer row then 34 ∷ 34 ∷ [] else [])

read_all : (rows : List (List (List ℕ))) (most : ℕ) → AreSome rows → length rows ≤ most
    → records_from default_config most st.StartRecord (rows_text rows) ≡ rows
unfolding records_from rows_text next_record
read_all [] zero are few = refl
read_all [] (suc most) are few = refl
read_all ([] ∷ rows) most are few = absurd (let none = are [] (inl refl) in omega arith)
read_all ((text ∷ texts) ∷ rows) zero are few = absurd (omega arith)
read_all ((text ∷ texts) ∷ rows) (suc most) are few =
    rw (read-write (text ∷ texts) (rows_text rows))
    (ap (λ (t : List (List (List ℕ))). (text ∷ texts) ∷ t)
    (read_all rows most (λ row has. are row (inr has)) (omega arith)))

long_rows : (rows : List (List (List ℕ))) → length rows ≤ length (rows_text rows)
unfolding rows_text
long_rows [] = omega arith
long_rows (row ∷ rows) =
    let rest = long_rows rows in
    let whole = length-append (row_text default_writer row) (rows_text rows) in
    let some = one_byte row in
    omega (arith, whole, rest, some)

read_written : (rows : List (List (List ℕ))) → AreSome rows
    → records default_config (rows_text rows) ≡ rows
read_written rows are =
    let long = long_rows rows in
    read_all rows (length (rows_text rows) + 1) are (omega arith)

-- ---- a list

module _ {T A : Type 0} (is_void : T → Bool) (fields : List (Field T))
    (read : (List ℕ → List ℕ) → A) (told : T → A) where
  -- those that are not void
  abbrev live : List T → List T
  live rows = filter (λ x. not (is_void x)) rows

  -- a row is written, and read as what is told
  abbrev pub IsRead : T → Type 0
  IsRead x = IsWritten (cells fields x) × (read (cell (columns fields) (cells fields x)) ≡ told x)

  abbrev read_row : List (List ℕ) → A
  read_row row = read (cell (columns fields) row)

  abbrev record_or : T → List ℕ
  record_or x = if is_void x then [] else record_told fields x

  written : (rows : List T) → ((x : T) → Has rows x → IsRead x)
      → (rows_text (map (cells fields) (live rows)) ≡ flat_map record_or rows)
      × (map read_row (map (cells fields) (live rows)) ≡ map told (live rows))
      × AreSome (map (cells fields) (live rows))
  unfolding rows_text record_told
  written [] are = (refl, refl, λ row has. absurd has)
  written (x ∷ rows) are =
      let rest = written rows (λ y has. are y (inr has)) in
      let own = are x (inl refl) in
      elim (cases_Bool (is_void x)) [
        | inl void ↦ rw void rest
        | inr lives ↦ rw lives (
          ap (λ (t : List ℕ). t ++ rows_text (map (cells fields) (live rows))) own.0.0
              ∙ ap (λ (t : List ℕ). record_of (cells fields x) ++ t) rest.0,
          ap (λ (a : A). a ∷ map read_row (map (cells fields) (live rows))) own.1
              ∙ ap (λ (t : List A). told x ∷ t) rest.1,
          λ row has. (elim has [
            | inl same ↦ subst (λ (r : List (List ℕ)). 1 ≤ length r) (sym same) own.0.1
            | inr more ↦ rest.2 row more
          ]),
        )
      ]

  pub list_read : (rows : List T) → IsWritten (columns fields)
      → strip_bom (csv_of is_void fields rows) ≡ csv_of is_void fields rows
      → ((x : T) → Has rows x → IsRead x)
      → table_read read (csv_of is_void fields rows) ≡ map told (live rows)
  unfolding rows_text
  list_read rows head no_mark are =
      let body : List (List (List ℕ)) = map (cells fields) (live rows) in
      let own = written rows are in
      let text : rows_text (columns fields ∷ body) ≡ csv_of is_void fields rows =
      ap (λ (t : List ℕ). t ++ rows_text body) head.0
      ∙ ap (λ (t : List ℕ). header_of fields ++ t) own.0 in
      let some : AreSome (columns fields ∷ body) = λ row has. (elim has [
        | inl same ↦ subst (λ (r : List (List ℕ)). 1 ≤ length r) (sym same) head.1
        | inr more ↦ own.2 row more
      ]) in
      ap (λ (t : List ℕ). read_under read (records default_config t)) (no_mark ∙ sym text)
      ∙ ap (λ (rs : List (List (List ℕ))). read_under read rs)
      (read_written (columns fields ∷ body) some)
      ∙ own.1
