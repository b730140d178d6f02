use Rattle.std.proofs.Common.{refl}
use Rattle.ftd_program.specs.Performing.{numbered, unnumbered}
use Rattle.ftd_program.proofs.Numbered.{next_counted, next_unused}
use Rattle.ftd_program.proofs.numbering.ask_next.Goals as goal

pub returns-in-Some-Ok : goal.returns-in-Some-Ok
returns-in-Some-Ok g c =
    let finds = rw c.in-Some-Ok.field-0-is at c.in-Some-Ok.ensures.finds in
    next_unused g.S.Store g.O.Target.taken g.O.Target.failed g.E.Target.taken g.E.Target.failed
    c.args.out c.args.err c.ask_under.result c.args.desk.now c.ask_under.new.desk c.args.db.now
    c.args.request finds.0
    (numbered c.unused_number.new.desk c.in-Some-Ok.number finds.1
    (rw c.with_number.ensures at c.ask_under.ensures))

pub returns-in-Some-Err : goal.returns-in-Some-Err
returns-in-Some-Err g c =
    let finds = rw c.in-Some-Err.field-0-is at c.in-Some-Err.ensures.finds in
    next_unused g.S.Store g.O.Target.taken g.O.Target.failed g.E.Target.taken g.E.Target.failed
    c.args.out c.args.err c.print_refusal.result c.args.desk.now c.unused_number.new.desk
    c.args.db.now c.args.request finds.0
    (unnumbered c.in-Some-Err.refusal finds.1 finds.2 c.print_refusal.ensures)

pub returns-in-None : goal.returns-in-None
returns-in-None g c =
    next_counted g.S.Store g.O.Target.taken g.O.Target.failed g.E.Target.taken g.E.Target.failed
    c.args.out c.args.err c.ask_counted.result c.args.desk.now c.ask_counted.new.desk c.args.db.now
    c.args.request c.in-None.ensures.finds
    (rw (c.in-None.ensures.same refl) at c.ask_counted.ensures)
