use Rattle.std.proofs.Common.{List, inl, inr, refl, sym, ap, ◌∙◌, subst, arith}
use Rattle.ftd_rules.specs.declared.YearLine.{YearLine}
use Rattle.ftd_rules.specs.Lists.{Has}
use Rattle.ftd_store.proofs.Replaced.{all_taken}
use Rattle.ftd_store.proofs.Items.{has_at, has_more}
use Rattle.ftd_repairs.proofs.patching.rescheduled.Goals as goal

pub returns-then-other-line : goal.returns-then-other-line
returns-then-other-line c =
    let xs : List YearLine = c.args.changed.now in
    let x : YearLine = c.other-item.result in (
      x,
      has_at xs c.loop-other.other-index x c.loop-other-test.true c.other-item.is,
      c.if-other-line.true,
      refl,
    )

pub loop-other-preserved : goal.loop-other-preserved
loop-other-preserved c other has same =
    let xs : List YearLine = c.args.changed.now in
    let x : YearLine = c.other-item.result in
    elim (has_more xs c.loop-other.other-index x other c.loop-other-test.true c.other-item.is has) [
      | inl before ↦ c.loop-other.invariant other before same
      | inr here ↦ absurd (let n = c.if-other-line.false in
          n (sym (ap (λ (l : YearLine). l.year) here) ∙ same))
    ]

pub returns : goal.returns
returns c other has =
    let end = c.loop-other-test.false in
    c.loop-other.invariant other (subst (λ (ls : List YearLine). Has ls other)
    (sym (all_taken c.args.changed.now c.loop-other.other-index (omega arith))) has)
