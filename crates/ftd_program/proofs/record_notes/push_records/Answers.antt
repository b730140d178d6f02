use Rattle.std.proofs.lemmas.List.{take_all}
use Rattle.ftd_desk.specs.Desks.{held}
use Rattle.ftd_program.proofs.Mended.{keeps_on, stands_on}
use Rattle.ftd_program.proofs.RecordFacts.{lines_more}
use Rattle.ftd_program.proofs.record_notes.push_records.Goals as goal

pub returns-in_err-line-clause-stands : goal.returns-in_err-line-clause-stands
returns-in_err-line-clause-stands g c =
    stands_on (held g.S.Store c.args.desk.now) (held g.S.Store c.loop-it.desk)
    (held g.S.Store c.record_line.new.desk) c.loop-it.invariant.stands c.record_line.ensures.stands

pub returns-in_err-push_line-clause-stands : goal.returns-in_err-push_line-clause-stands
returns-in_err-push_line-clause-stands g c =
    stands_on (held g.S.Store c.args.desk.now) (held g.S.Store c.loop-it.desk)
    (held g.S.Store c.record_line.new.desk) c.loop-it.invariant.stands c.record_line.ensures.stands

pub loop-it-preserved : goal.loop-it-preserved
loop-it-preserved g c =
    let a = held g.S.Store c.args.desk.now in
    let b = held g.S.Store c.loop-it.desk in
    let d = held g.S.Store c.record_line.new.desk in
    let later = c.record_line.ensures.stands in
    record {
      stands = stands_on a b d c.loop-it.invariant.stands later;
      pushed = λ clean s keeps. lines_more s c.args.lines.now.items c.loop-it.lines.items _
          c.args.records.now c.loop-it.it-index c.it-item.result c.in_ok-line.line
          c.loop-it-test.true c.it-item.is
          (c.loop-it.invariant.pushed (later.honest clean) s keeps)
          (c.in_ok-line.ensures.knows clean s
          (keeps_on a b s c.loop-it.invariant.stands (later.honest clean) keeps))
          c.in_ok-push_line.ensures.pushed;
    }

pub returns-clause-knows : goal.returns-clause-knows
returns-clause-knows g c = λ clean s keeps.
    let its = c.loop-it.invariant.pushed clean s keeps in
    rw (take_all c.loop-it.it-index c.args.records.now c.loop-it-test.false) at its
