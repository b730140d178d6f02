use Rattle.std.proofs.Common.{◌≡◌, ◌∷◌, rules, sym}
use Rattle.std.proofs.lemmas.List.Elements.{All-head, All-same, All-tail}
use Rattle.ftd_desk.specs.Unrefused.{IsReply}
use Rattle.ftd_shell.proofs.told.first_told.Goals as goal

pub returns-then-not-has_note-clause-replies : goal.returns-then-not-has_note-clause-replies
returns-then-not-has_note-clause-replies c = λ all.
    let x = c.in-Some-split_first.answer.now in
    let xs = c.in-Some-split_first.answers.now in
    let parts : c.args.answers.now ≡ x ∷ xs = search rules in
    let these = All-same IsReply (x ∷ xs) c.args.answers.now (sym parts) all in
    (All-head IsReply x xs these, All-tail IsReply x xs these)

pub returns-clause-replies : goal.returns-clause-replies
returns-clause-replies c = λ all.
    let x = c.in-Some-split_first.answer.now in
    let xs = c.in-Some-split_first.answers.now in
    let y = c.in-Some-split_first-3.note.now in
    let ys = c.in-Some-split_first-3.answers.now in
    let parts : c.args.answers.now ≡ x ∷ xs = search rules in
    let more : xs ≡ y ∷ ys = search rules in
    let these = All-same IsReply (x ∷ xs) c.args.answers.now (sym parts) all in
    let later = All-same IsReply (y ∷ ys) xs (sym more) (All-tail IsReply x xs these) in
    (All-head IsReply x xs these, All-tail IsReply y ys later)
