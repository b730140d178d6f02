use Rattle.ftd_program.specs.PlainLines.{run_line}
use Rattle.ftd_program.proofs.printing.write_run.Goals as goal

pub returns : goal.returns
unfolding run_line
returns g c = rw (c.as_bytes-number.ensures.value, c.format.ensures.text) at c.write_pieces.ensures
