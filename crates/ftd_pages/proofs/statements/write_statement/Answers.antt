use Rattle.ftd_ports.proofs.WritingFacts.{then_writes, stops_in}
use Rattle.ftd_pages.specs.Statements.{statement_of}
use Rattle.ftd_pages.proofs.statements.write_statement.Goals as goal

pub returns-in_err-write_all : goal.returns-in_err-write_all
unfolding statement_of
returns-in_err-write_all g c = stops_in _ c.from_residual.ensures.0 c.in_err-write_all.ensures

pub returns-in_err-write_escaped : goal.returns-in_err-write_escaped
unfolding statement_of
returns-in_err-write_escaped g c = then_writes c.in_ok-write_all.ensures (stops_in _ c.from_residual-in_err-write_escaped.ensures.0 c.in_err-write_escaped.ensures.writes)

pub returns-in_err-write_all-2 : goal.returns-in_err-write_all-2
unfolding statement_of
returns-in_err-write_all-2 g c = then_writes c.in_ok-write_all.ensures (then_writes c.in_ok-write_escaped.ensures.writes (stops_in _ c.from_residual-in_err-write_all-2.ensures.0 c.in_err-write_all-2.ensures))

pub returns-in_err-write_escaped-2 : goal.returns-in_err-write_escaped-2
unfolding statement_of
returns-in_err-write_escaped-2 g c = then_writes c.in_ok-write_all.ensures (then_writes c.in_ok-write_escaped.ensures.writes (then_writes c.in_ok-write_all-2.ensures (stops_in _ c.from_residual-in_err-write_escaped-2.ensures.0 c.in_err-write_escaped-2.ensures.writes)))

pub returns : goal.returns
unfolding statement_of
returns g c = then_writes c.in_ok-write_all.ensures (then_writes c.in_ok-write_escaped.ensures.writes (then_writes c.in_ok-write_all-2.ensures (then_writes c.in_ok-write_escaped-2.ensures.writes c.write_all-3.ensures)))
