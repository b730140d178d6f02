-- One step of the reader.
use Rattle.std.proofs.Common.{◌≡◌, ◌<◌, ◌+◌, ℕ, suc, List, [], ◌∷◌, length, Option, Some, None}
use Rattle.std.proofs.Common.{Bool, true, false, Bor, IsSome, MatchBool, refl, sym, ap, ◌∙◌, arith}
use Rattle.std.proofs.Common.{inl, inr}
use Rattle.csv.specs.Machine.{next_record, ends_at_end}
use Rattle.csv.specs.Reading.{ChangesHeaders, Reached, ReadRecord, default_config, names_headers}
use Rattle.csv.specs.Reading.{reader_config, reader_headers, reader_state, reader_trim}
use Rattle.csv.specs.Reading.{records_from, records_next, strip_bom, took_first}
use Rattle.csv.specs.declared.parser.State.{State}
use Rattle.csv.specs.declared.parser.State.TheVariants as st
use Rattle.csv.specs.declared.reader.Trim.TheVariants as trim
use Rattle.csv.specs.declared.reader.Reader.{Reader}
use Rattle.csv.proofs.ReadFacts.{rows-end, rows-more}
use Rattle.ftd_csv.specs.Records.{rows_of}
use Rattle.ftd_csv.specs.Rows.{IsReading, bytes_left, rows_from, rows_left}
use Rattle.ftd_csv.proofs.AllRows.{next-takes, records_from-any, records-next}

known_bytes : (o : Option (List ℕ)) → IsSome o → (bytes : List ℕ) × (o ≡ Some bytes)
known_bytes None h = cc h
known_bytes (Some bytes) h = (bytes, refl)

-- the rows of bytes from which a first was read
first_row : (s t : State) (xs ys : List ℕ) (fields : List (List ℕ)) → ends_at_end s ≡ false
    → Reached default_config s xs (fields ∷ []) t ys
    → (ends_at_end t ≡ false) × (rows_from s (Some xs) ≡ fields ∷ rows_from t (Some ys))
unfolding Reached rows_from records_from
first_row s t xs ys fields clean r =
    let (p, e, same, rest) = r in
    let takes = next-takes s xs p clean e in
    let fewer : length p.2 < length xs = takes.fewer in
    let one : length xs + 1 ≡ suc (length xs) = omega arith in
    let same_rows = records_from-any (length xs) (length p.2 + 1) p.1 p.2 (omega arith)
    (omega arith) takes.clean in
    let read = records-next (records_from default_config (length xs)) _ p e in
    let after : fields ∷ records_from default_config (length p.2 + 1) p.1 p.2 ≡ fields
    ∷ records_from default_config (length ys + 1) t ys = rw (rest.0, rest.1) refl in (
      rw rest.0 at takes.clean,
      rw one (read ∙ ap (λ rows. p.0 ∷ rows) same_rows
          ∙ ap (λ row. row ∷ records_from default_config (length p.2 + 1) p.1 p.2) (sym same)
          ∙ after),
    )

no_row : (s : State) (xs : List ℕ) → next_record default_config s [] [] xs ≡ None
    → rows_from s (Some xs) ≡ []
unfolding rows_from records_from
no_row s xs e =
    let one : length xs + 1 ≡ suc (length xs) = omega arith in
    rw one (ap (records_next (records_from default_config (length xs))) e)

row_read : (a b : Reader (Bor (List ℕ))) (fields : List (List ℕ)) → IsReading a
    → took_first b ≡ true → ReadRecord (λ s. Some s.now) a b true fields
    → IsReading b × (rows_left a ≡ fields ∷ rows_left b)
unfolding Reached
row_read a b fields h first r =
    let (xs, known) = known_bytes (bytes_left a) h.known in
    let more = rows-more (λ (s : Bor (List ℕ)). Some s.now) a b fields default_config a.state xs xs
    [] h.by_default known (refl, refl) r in
    let (ys, left, reached) = more in
    let step = first_row a.state b.state xs ys fields h.between reached in
    let rows : rows_from a.state (bytes_left a) ≡ fields ∷ rows_from b.state (bytes_left b) =
    rw (known, left) step.1 in (
      record {
        as_it_stands = r.3 ∙ h.as_it_stands;
        by_default = r.2 ∙ h.by_default;
        ready = inl first;
        known = rw left refl;
        between = step.0;
      },
      rows,
    )

none_read : (a b : Reader (Bor (List ℕ))) (fields : List (List ℕ)) → IsReading a
    → ReadRecord (λ s. Some s.now) a b false fields → rows_left a ≡ []
none_read a b fields h r =
    let (xs, known) = known_bytes (bytes_left a) h.known in
    let rows : rows_from a.state (bytes_left a) ≡ [] =
    rw known (no_row a.state xs
    (rows-end (λ (s : Bor (List ℕ)). Some s.now) a b fields default_config xs h.by_default known
    r)) in
    rows

-- what a read of the next row does, whether there was one or not
pub next_is : (a b : Reader (Bor (List ℕ))) (found : Bool) (fields : List (List ℕ)) → IsReading a
    → took_first b ≡ true → ReadRecord (λ s. Some s.now) a b found fields
    → MatchBool found (IsReading b × (rows_left a ≡ fields ∷ rows_left b)) (rows_left a ≡ [])
next_is a b true fields h first r = row_read a b fields h first r
next_is a b false fields h first r = none_read a b fields h r

-- a reader at the start of a text, with a header row given
pub opened : (text : List ℕ) (a b : Reader (Bor (List ℕ))) → reader_trim a ≡ trim.None
    → reader_config a ≡ default_config → names_headers a ≡ true → reader_state a ≡ st.StartRecord
    → bytes_left a ≡ Some (strip_bom text) → ChangesHeaders a b → IsSome (reader_headers b)
    → IsReading b × (rows_left b ≡ rows_of text)
unfolding rows_from rows_of
opened text a b plain default named start source same given =
    let bytes : bytes_left b ≡ Some (strip_bom text) =
    ap (λ (r : Reader (Bor (List ℕ))). bytes_left r) same ∙ source in
    let state : b.state ≡ st.StartRecord = ap (λ (r : Reader (Bor (List ℕ))). r.state) same
    ∙ start in
    let rows : rows_from b.state (bytes_left b) ≡ records_from default_config
    (length (strip_bom text) + 1) st.StartRecord (strip_bom text) = rw (bytes, state) refl in (
      record {
        as_it_stands = ap (λ (r : Reader (Bor (List ℕ))). r.trim) same ∙ plain;
        by_default = ap (λ (r : Reader (Bor (List ℕ))). r.config) same ∙ default;
        ready = inr (inl (ap (λ (r : Reader (Bor (List ℕ))). r.has_headers) same ∙ named, given));
        known = rw bytes refl;
        between = rw state refl;
      },
      rows,
    )
