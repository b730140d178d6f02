use Rattle.std.proofs.Common.{refl}
use Rattle.ftd_program.specs.Performing.{asked, unasked}
use Rattle.ftd_program.proofs.settle.ask_line.Goals as goal

pub returns-in-Ok : goal.returns-in-Ok
returns-in-Ok g c = asked c.write_request.new.target c.in-Ok.ensures.ok c.answer_then_note.ensures

pub returns-in-Err : goal.returns-in-Err
returns-in-Err g c = unasked refl (record {
  status_is = c.fail_output.ensures.status;
  part = rw c.fail_output.ensures.out c.in-Err.ensures.err;
  failed = rw c.fail_output.ensures.out c.in-Err.ensures.fault;
  line = c.fail_output.ensures.line;
})
