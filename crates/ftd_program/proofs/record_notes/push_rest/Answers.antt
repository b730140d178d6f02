use Rattle.std.proofs.Common.{◌≡◌, arith}
use Rattle.ftd_program.proofs.RecordFacts.{kinds_more}
use Rattle.ftd_program.proofs.record_notes.push_rest.Goals as goal

pub loop-kind-preserved : goal.loop-kind-preserved
loop-kind-preserved c =
    kinds_more c.args.records.now c.args.lines.now.items c.loop-kind.lines.items _ c.loop-kind.kind
    c.loop-kind.auto.kind c.loop-kind.invariant c.in_ok-push_kind.ensures.pushed

pub returns-clause-pushed : goal.returns-clause-pushed
returns-clause-pushed c =
    let ended = c.loop-kind-test.false in
    let bounds = c.loop-kind.auto.kind-end (omega arith) in
    let last : c.loop-kind.kind ≡ 30 = omega (arith, ended, bounds) in
    rw last at c.loop-kind.invariant
