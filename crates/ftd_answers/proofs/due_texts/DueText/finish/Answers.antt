use Rattle.ftd_ports.proofs.WritingFacts.{then_writes, stops_in}
use Rattle.ftd_answers.proofs.due_texts.DueText.finish.Goals as goal

pub returns-in_err-write_first : goal.returns-in_err-write_first
returns-in_err-write_first g c = stops_in _ c.from_residual.ensures.0 c.in_err-write_first.ensures.writes

pub returns : goal.returns
returns g c = then_writes c.in_ok-write_first.ensures.writes c.write_total.ensures
