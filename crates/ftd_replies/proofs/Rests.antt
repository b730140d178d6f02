-- What is left of an amount or over, and the hint of rows, case by case.
use Rattle.std.proofs.Common.{◌≡◌, ℕ, ◌-◌, ◌<◌, ◌≤◌, List, [], ◌∷◌, length, refl, arith}
use Rattle.std.specs.Prelude.{codes}
use Rattle.std.specs.Fmt.{decimal}
use Rattle.std.specs.List.{concat}
use Rattle.std.proofs.lemmas.Bool.{lt-ltb, le-ltb}
use Rattle.ftd_machine.specs.declared.lists.UnappliedRow.{UnappliedRow}
use Rattle.ftd_replies.specs.Commands.{file_text}
use Rattle.ftd_replies.specs.Notes.{amount_so, rest_text, unapplied_hint}

pub rest_left : (amount paid : ℕ) → paid < amount
    → amount_so (amount - paid) (codes " left to pay\n") ≡ rest_text amount paid
rest_left amount paid less = let is = lt-ltb paid amount less in rw is refl

pub rest_over : (amount paid : ℕ) → amount < paid
    → amount_so (paid - amount) (codes " more than its amount\n") ≡ rest_text amount paid
rest_over amount paid more =
    let first = le-ltb paid amount (omega arith) in
    let second = lt-ltb amount paid more in
    rw (first, second) refl

pub rest_none : (amount paid : ℕ) → amount ≤ paid → paid ≤ amount
    → codes ", paid in full\n" ≡ rest_text amount paid
rest_none amount paid low high =
    let first = le-ltb paid amount low in
    let second = le-ltb amount paid high in
    rw (first, second) refl

pub some_rows : (db : List ℕ) (rows : List UnappliedRow) (file count : List ℕ)
    → 1 ≤ length rows → file ≡ file_text db → count ≡ decimal (length rows)
    → concat (codes "hint: money that counts for nothing, listed by ftd unapplied --db " ∷ file
    ∷ codes ": " ∷ count ∷ codes "\n" ∷ []) ≡ unapplied_hint db rows
some_rows db [] file count some named counted = absurd (omega arith)
some_rows db (x ∷ rows) file count some named counted = rw (named, counted) refl
