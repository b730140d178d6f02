use Rattle.std.proofs.Common.{◌∙◌, ◌+◌, ◌-◌, ap, arith, sym}
use Rattle.ftd_imports.specs.declared.refusals.RefusedRecord.{RefusedRecord}
use Rattle.ftd_machine.specs.Refusals.{number_of}
use Rattle.ftd_program.proofs.RecordFacts.{not_few}
use Rattle.ftd_program.proofs.record_notes.are_few.Goals as goal

pub returns-then-count-eq-MOST_NOTES : goal.returns-then-count-eq-MOST_NOTES
returns-then-count-eq-MOST_NOTES c =
    let i = c.loop-i.i - 1 in
    let some = c.loop-i-test.true in
    let inside = c.loop-i.invariant.inside in
    let same = ap (λ (it : RefusedRecord). number_of it.refusal) c.index-records-i.is
    ∙ sym c.number.ensures ∙ c.if-number-kind.true in
    sym (not_few c.args.kind i c.loop-i.i c.args.records.now c.index-records-i.result
    (omega (arith, some)) (omega (arith, some, inside)) c.index-records-i.is same
    (ap (λ n. n + 1) (sym c.loop-i.invariant.counted) ∙ c.if-count-eq-MOST_NOTES.true))
