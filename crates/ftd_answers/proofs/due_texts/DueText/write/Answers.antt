use Rattle.ftd_ports.proofs.WritingFacts.{then_writes, stops_in}
use Rattle.ftd_answers.proofs.due_texts.DueText.write.Goals as goal

pub returns-in_err-write_first-clause-writes : goal.returns-in_err-write_first-clause-writes
returns-in_err-write_first-clause-writes g c =
    stops_in _ c.from_residual.ensures.0 c.in_err-write_first.ensures.writes

pub returns-clause-writes : goal.returns-clause-writes
returns-clause-writes g c = then_writes c.in_ok-write_first.ensures.writes c.write_row.ensures
