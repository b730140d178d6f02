use Rattle.std.proofs.Common.{◌≡◌, ◌<◌, ◌+◌, ◌∷◌, ◌∙◌, ℕ, List, drop, length, sym, ap, min, arith}
use Rattle.std.proofs.lemmas.Grind.{common_steps}
use Rattle.ftd_rules.specs.declared.Obligation.{Obligation}
use Rattle.ftd_rules.proofs.Items.{drop_item}
use Rattle.ftd_program.specs.AddedNotes.{earliest}
use Rattle.ftd_program.proofs.added_notes.earliest.Goals as goal

pub loop-row-preserved : goal.loop-row-preserved
loop-row-preserved c =
    let rows : List Obligation = c.args.rows.now in
    let x : Obligation = c.row-item.result in
    let i : ℕ = c.loop-row.row-index in
    let some : i < length rows = c.loop-row-test.true in
    let rest : drop i rows ≡ x ∷ drop (i + 1) rows = drop_item rows i x c.row-item.is some in
    let least : c.min-due.result ≡ min c.loop-row.due x.due = grind (
      arith,
      common_steps,
      c.min-due.ensures,
    ) in
    ap (λ (d : ℕ). earliest d (drop (i + 1) rows)) least
    ∙ ap (earliest c.loop-row.due) (sym rest) ∙ c.loop-row.invariant
