use Rattle.std.proofs.Common.{◌≡◌, ℕ, List, [], get_or}
use Rattle.std.specs.Borrow.{Bor}
use Rattle.std.proofs.lemmas.List.{get_or-map}
use Rattle.ftd_questions.specs.Nearest.{edits_to, texts_of}
use Rattle.ftd_questions.proofs.Passed.{passed_more, passed_nearer}
use Rattle.ftd_questions.proofs.names.nearest.Goals as goal
use Rattle.ftd_questions.proofs.names.nearest.Goals.{then-edits-fewest, else-edits-fewest}

pub loop-place-preserved : goal.loop-place-preserved
loop-place-preserved c =
    let names : List (Bor (List ℕ)) = c.args.names.now in
    let texts = texts_of names in
    let place = c.loop-place.place in
    let none : Bor (List ℕ) = record { ref_ptr = (0, 0); now = [] } in
    let text : get_or texts place [] ≡ (get_or names place none).now =
    get_or-map (λ (name : Bor (List ℕ)). name.now) names place none [] c.loop-place-test.true in
    let same : c.in_ok-edits.edits ≡ edits_to c.args.typed.now texts place =
    rw text c.in_ok-edits.ensures.value in
    let before = c.loop-place.invariant in
    elim c.if-edits-fewest.branch [
      | then-edits-fewest w ↦ rw w.fewest-is (rw w.found-is (passed_nearer c.args.typed.now texts
          c.loop-place.fewest c.loop-place.found place c.in_ok-edits.edits before same
          w.if-edits-fewest.true))
      | else-edits-fewest w ↦ rw w.fewest-is (rw w.found-is (passed_more c.args.typed.now texts
          c.loop-place.fewest c.loop-place.found place before
          (rw same at w.if-edits-fewest.false)))
    ]
