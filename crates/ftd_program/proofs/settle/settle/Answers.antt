use Rattle.ftd_program.specs.Settling.{known, unknown}
use Rattle.ftd_program.proofs.settle.settle.Goals as goal

pub returns-in-Ok-known : goal.returns-in-Ok-known
returns-in-Ok-known g c =
    known c.in-Ok-known.field-0 c.handle-known.new.self
    (rw (c.years_question-years.ensures, c.in-Ok.ensures.same, c.in-Ok-known.is)
    at c.handle-known.ensures.handles)
    c.settle_due.ensures

pub returns : goal.returns
returns g c =
    unknown c.in-Err.field-0
    (rw (c.years_question-years.ensures, c.in-Ok.ensures.same, c.in-Err.is)
    at (c.print_answer.ensures c.args.desk.now c.handle-known.ensures.handles))
