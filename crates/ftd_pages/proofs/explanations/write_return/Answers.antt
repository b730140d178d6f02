use Rattle.ftd_ports.proofs.WritingFacts.{then_writes, stops_in}
use Rattle.ftd_pages.specs.Explanations.{return_part}
use Rattle.ftd_pages.specs.Statements.{return_rule}
use Rattle.ftd_pages.proofs.explanations.write_return.Goals as goal

pub returns-in_err-write_all : goal.returns-in_err-write_all
unfolding return_part return_rule
returns-in_err-write_all g c = stops_in _ c.from_residual.ensures.0 c.in_err-write_all.ensures

pub returns-in_err-write_all-2 : goal.returns-in_err-write_all-2
unfolding return_part return_rule
returns-in_err-write_all-2 g c = then_writes c.in_ok-write_all.ensures (stops_in _ c.from_residual-in_err-write_all-2.ensures.0 (rw c.day_bytes.ensures at c.in_err-write_all-2.ensures))

pub returns-in_err-write_all-3 : goal.returns-in_err-write_all-3
unfolding return_part return_rule
returns-in_err-write_all-3 g c = then_writes c.in_ok-write_all.ensures (then_writes (rw c.day_bytes.ensures at c.in_ok-write_all-2.ensures) (stops_in _ c.from_residual-in_err-write_all-3.ensures.0 c.in_err-write_all-3.ensures))

pub returns : goal.returns
unfolding return_part return_rule
returns g c = then_writes c.in_ok-write_all.ensures (then_writes (rw c.day_bytes.ensures at c.in_ok-write_all-2.ensures) (then_writes c.in_ok-write_all-3.ensures c.write_statement.ensures))
