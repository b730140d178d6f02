use Rattle.std.proofs.Common.{◌≡◌, List, inl, inr, sym, ap, subst, arith}
use Rattle.ftd_rules.specs.declared.YearLine.{YearLine}
use Rattle.ftd_rules.specs.Lists.{Has}
use Rattle.ftd_store.proofs.Replaced.{all_taken}
use Rattle.ftd_store.proofs.Items.{has_more}
use Rattle.ftd_repairs.proofs.reading.year_after.Goals as goal
use Rattle.ftd_repairs.proofs.reading.year_after.Goals.{then-end-line, else-end-line}

pub loop-line-preserved : goal.loop-line-preserved
loop-line-preserved c line has early =
    let xs : List YearLine = c.args.lines.now in
    let x : YearLine = c.line-item.result in
    elim (has_more xs c.loop-line.line-index x line c.loop-line-test.true c.line-item.is has) [
      | inl before ↦
          (let so_far = c.loop-line.invariant line before early in
          elim c.if-end-line.branch [
            | then-end-line w ↦ (let is = w.end-is in let next = w.saturating_add-end.ensures in
                let more = w.if-end-line.true in omega arith)
            | else-end-line w ↦ (let is = w.end-is in omega arith)
          ])
      | inr here ↦
          (let year : line.year ≡ x.year = ap (λ (l : YearLine). l.year) here in
          elim c.if-end-line.branch [
            | then-end-line w ↦ (let is = w.end-is in let next = w.saturating_add-end.ensures in
                omega arith)
            | else-end-line w ↦ (let is = w.end-is in let later = w.if-end-line.false in
                omega arith)
          ])
    ]

pub returns : goal.returns
returns c line has =
    let end = c.loop-line-test.false in
    c.loop-line.invariant line (subst (λ (ls : List YearLine). Has ls line)
    (sym (all_taken c.args.lines.now c.loop-line.line-index (omega arith))) has)
