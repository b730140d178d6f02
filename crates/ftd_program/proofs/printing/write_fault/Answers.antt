use Rattle.std.proofs.Common.{subst}
use Rattle.ftd_ports.specs.Writing.{Writes}
use Rattle.ftd_program.proofs.FaultLines.{record_is, run_is}
use Rattle.ftd_program.proofs.printing.write_fault.Goals as goal

pub returns-in-BadHeader : goal.returns-in-BadHeader
returns-in-BadHeader g c = rw c.in-BadHeader.is c.write_all.ensures

pub returns-in-TooLong : goal.returns-in-TooLong
returns-in-TooLong g c = rw c.in-TooLong.is c.write_all-in-TooLong.ensures

pub returns-in-TooManyRuns : goal.returns-in-TooManyRuns
returns-in-TooManyRuns g c = rw c.in-TooManyRuns.is c.write_all-in-TooManyRuns.ensures

pub returns-in-BadCalendar : goal.returns-in-BadCalendar
returns-in-BadCalendar g c = rw c.in-BadCalendar.is c.write_all-in-BadCalendar.ensures

pub returns-in-Memory : goal.returns-in-Memory
returns-in-Memory g c = rw c.in-Memory.is c.write_all-in-Memory.ensures

pub returns-in-Malformed : goal.returns-in-Malformed
returns-in-Malformed g c = rw c.in-Malformed.is
    (subst (λ z. Writes c.write_record.result (g.E.Target.taken c.args.err.now)
    (g.E.Target.taken c.write_record.new.err) (g.E.Target.failed c.write_record.new.err) z)
    (record_is c.in-Malformed.number c.in-Malformed.field) c.write_record.ensures)

pub returns-in-RunDiffers : goal.returns-in-RunDiffers
returns-in-RunDiffers g c = rw c.in-RunDiffers.is
    (subst (λ z. Writes c.write_run.result (g.E.Target.taken c.args.err.now)
    (g.E.Target.taken c.write_run.new.err) (g.E.Target.failed c.write_run.new.err) z)
    (run_is c.in-RunDiffers.number) c.write_run.ensures)
