-- Refused records, and the lines of them.
use Rattle.std.proofs.Common.{◌≡◌, ◌∙◌, ◌+◌, ◌-◌, ◌<◌, ◌≤◌, ◌++◌, ◌∷◌, [], ℕ, Bool, false, List}
use Rattle.std.proofs.Common.{sym, ap, length, map, take, drop, get_or, append_assoc, length-append}
use Rattle.std.proofs.Common.{drop-cons, add-one, arith, nat_eq, true}
use Rattle.std.specs.Prelude.{nat_lt}
use Rattle.std.specs.Borrow.{Bor}
use Rattle.std.specs.List.{flat_map, range_with_len}
use Rattle.std.proofs.lemmas.Bool.{le-ltb}
use Rattle.std.proofs.lemmas.Grind.{flat_map-append}
use Rattle.std.proofs.lemmas.List.{append-nil, map-append, map-id, take-append-drop, take_more}
use Rattle.std.proofs.lemmas.List.Elements.{filter-append}
use Rattle.std.proofs.lemmas.List.FromFn.{map-range_with_len_more}
use Rattle.ftd_machine.specs.Refusals.{number_of}
use Rattle.ftd_machine.specs.State.{State}
use Rattle.ftd_imports.specs.declared.refusals.RefusedRecord.{RefusedRecord}
use Rattle.ftd_program.specs.RecordNotes.{more_of_kind, of_kind, record_line, records_in}
use Rattle.ftd_program.specs.declared.record_notes.RecordLine.{RecordLine}

same_number : (n : ℕ) → nat_eq n n ≡ true
same_number n = search arith

-- the line of one record more
pub lines_more : (s : State) (before lines after : List RecordLine)
    (records : List (Bor RefusedRecord)) (i : ℕ) (it : Bor RefusedRecord) (line : RecordLine)
    → i < length records → it ≡ get_or records i it
    → lines ≡ before ++ map (record_line s) (records_in (take i records))
    → line ≡ record_line s it.now → after ≡ lines ++ line ∷ []
    → after ≡ before ++ map (record_line s) (records_in (take (i + 1) records))
lines_more s before lines after records i it line some is so_far its pushed =
    let more : take (i + 1) records ≡ take i records ++ it ∷ [] =
    take_more records i it some
    ∙ ap (λ (x : Bor RefusedRecord). take i records ++ x ∷ []) (sym is) in
    let now : Bor RefusedRecord → RefusedRecord = (λ x. x.now) in
    let all : map (record_line s) (records_in (take (i + 1) records))
    ≡ map (record_line s) (records_in (take i records)) ++ record_line s it.now ∷ [] =
    ap (λ (xs : List (Bor RefusedRecord)). map (record_line s) (records_in xs)) more
    ∙ ap (map (record_line s)) (map-append now (take i records) (it ∷ []))
    ∙ map-append (record_line s) (records_in (take i records)) (it.now ∷ []) in
    pushed
    ∙ ap (λ (xs : List RecordLine). xs ++ line ∷ []) so_far
    ∙ ap (λ (x : RecordLine).
    (before ++ map (record_line s) (records_in (take i records))) ++ x ∷ []) its
    ∙ append_assoc before (map (record_line s) (records_in (take i records)))
    (record_line s it.now ∷ [])
    ∙ ap (λ (xs : List RecordLine). before ++ xs) (sym all)

-- a list has no fewer of a kind than what is behind a place
part_of : (kind i : ℕ) (records : List RefusedRecord)
    → length (of_kind kind (drop i records)) ≤ length (of_kind kind records)
part_of kind i records =
    let p : RefusedRecord → Bool = (λ x. nat_eq (number_of x.refusal) kind) in
    let split : length (of_kind kind records) ≡ length (of_kind kind (take i records)) + length
    (of_kind kind (drop i records)) =
    ap (λ (xs : List RefusedRecord). length (of_kind kind xs)) (sym (take-append-drop i records))
    ∙ ap length (filter-append p (take i records) (drop i records))
    ∙ length-append (of_kind kind (take i records)) (of_kind kind (drop i records)) in
    omega (arith, split)

head_of : (kind : ℕ) (it : RefusedRecord) (rest : List RefusedRecord)
    → number_of it.refusal ≡ kind
    → length (of_kind kind (it ∷ rest)) ≡ length (of_kind kind rest) + 1
head_of kind it rest same = rw (same, same_number kind) (omega arith)

-- where 20 of a kind are from a place on, they are not few
pub not_few : (kind i j : ℕ) (records : List RefusedRecord) (it : RefusedRecord) → j ≡ i + 1
    → i < length records → it ≡ get_or records i it → number_of it.refusal ≡ kind
    → length (of_kind kind (drop j records)) + 1 ≡ 20
    → nat_lt (length (of_kind kind records)) 20 ≡ false
not_few kind i j records it next some is same full =
    let rest : drop i records ≡ it ∷ drop j records =
    rw next (rw add-one (drop-cons records i it some)
    ∙ ap (λ (x : RefusedRecord). x ∷ drop (i + 1) records) (sym is)) in
    let here : length (of_kind kind (drop i records)) ≡ 20 =
    ap (λ (xs : List RefusedRecord). length (of_kind kind xs)) rest
    ∙ head_of kind it (drop j records) same ∙ full in
    let part = part_of kind i records in
    le-ltb (length (of_kind kind records)) 20 (omega (arith, here, part))

-- the lines of one kind more
pub kinds_more : (records : List RefusedRecord) (before lines after : List RecordLine) (k : ℕ)
    → 1 ≤ k → lines ≡ before ++ flat_map (more_of_kind records) (range_with_len 1 (k - 1))
    → after ≡ lines ++ more_of_kind records k
    → after ≡ before ++ flat_map (more_of_kind records) (range_with_len 1 ((k + 1) - 1))
kinds_more records before lines after k one so_far pushed =
    let last : (k + 1) - 1 ≡ (k - 1) + 1 = omega (arith, one) in
    let id : ℕ → ℕ = (λ x. x) in
    let range : range_with_len 1 ((k - 1) + 1) ≡ range_with_len 1 (k - 1) ++ k ∷ [] =
    sym (map-id (range_with_len 1 ((k - 1) + 1)))
    ∙ map-range_with_len_more id 1 (k - 1) k (omega (arith, one))
    ∙ ap (λ (xs : List ℕ). xs ++ k ∷ []) (map-id (range_with_len 1 (k - 1))) in
    let kinds = more_of_kind records in
    let all : flat_map kinds (range_with_len 1 ((k + 1) - 1))
    ≡ flat_map kinds (range_with_len 1 (k - 1)) ++ kinds k =
    rw (last, range) (flat_map-append kinds (range_with_len 1 (k - 1)) (k ∷ [])
    ∙ ap (λ (xs : List RecordLine). flat_map kinds (range_with_len 1 (k - 1)) ++ xs)
    (append-nil (kinds k))) in
    pushed
    ∙ ap (λ (xs : List RecordLine). xs ++ kinds k) so_far
    ∙ append_assoc before (flat_map kinds (range_with_len 1 (k - 1))) (kinds k)
    ∙ ap (λ (xs : List RecordLine). before ++ xs) (sym all)
