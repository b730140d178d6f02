-- The lines of notes, one after the other.
use Rattle.std.proofs.Common.{◌≡◌, ℕ, ◌+◌, ◌<◌, List, ◌∷◌, ◌++◌, length, drop, get_or, suc, add-one}
use Rattle.std.proofs.Common.{drop-cons, sym, ap, ◌∙◌}
use Rattle.std.specs.List.{flat_map}
use Rattle.ftd_imports.specs.declared.summary.Note.{Note}
use Rattle.ftd_program.specs.Summaries.{note_text}

pub note_on : (notes : List Note) (i : ℕ) (note : Note) → i < length notes
    → note ≡ get_or notes i note
    → flat_map note_text (drop i notes) ≡ note_text note ++ flat_map note_text (drop (i + 1) notes)
note_on notes i note h is =
    let on : drop i notes ≡ note ∷ drop (i + 1) notes = rw add-one (drop-cons notes i note h
    ∙ ap (λ (z : Note). z ∷ drop (suc i) notes) (sym is)) in
    ap (λ (z : List Note). flat_map note_text z) on
