use Rattle.ftd_ports.proofs.WritingFacts.{then_writes, stops_in}
use Rattle.ftd_pages.specs.Explanations.{explanation_parts}
use Rattle.ftd_pages.proofs.explanations.write_parts.Goals as goal

pub returns-in_err-write_obligation : goal.returns-in_err-write_obligation
unfolding explanation_parts
returns-in_err-write_obligation g c = stops_in _ c.from_residual.ensures.0 c.in_err-write_obligation.ensures

pub returns-in_err-write_schedule_part : goal.returns-in_err-write_schedule_part
unfolding explanation_parts
returns-in_err-write_schedule_part g c = then_writes c.in_ok-write_obligation.ensures (stops_in _ c.from_residual-in_err-write_schedule_part.ensures.0 c.in_err-write_schedule_part.ensures)

pub returns-in_err-write_paydays : goal.returns-in_err-write_paydays
unfolding explanation_parts
returns-in_err-write_paydays g c = then_writes c.in_ok-write_obligation.ensures (then_writes c.in_ok-write_schedule_part.ensures (stops_in _ c.from_residual-in_err-write_paydays.ensures.0 (rw c.as_slice-paydays.ensures at c.in_err-write_paydays.ensures)))

pub returns-in_err-write_days : goal.returns-in_err-write_days
unfolding explanation_parts
returns-in_err-write_days g c = then_writes c.in_ok-write_obligation.ensures (then_writes c.in_ok-write_schedule_part.ensures (then_writes (rw c.as_slice-paydays.ensures at c.in_ok-write_paydays.ensures) (stops_in _ c.from_residual-in_err-write_days.ensures.0 (rw c.as_slice-days.ensures at c.in_err-write_days.ensures))))

pub returns-in_err-write_return : goal.returns-in_err-write_return
unfolding explanation_parts
returns-in_err-write_return g c = then_writes c.in_ok-write_obligation.ensures (then_writes c.in_ok-write_schedule_part.ensures (then_writes (rw c.as_slice-paydays.ensures at c.in_ok-write_paydays.ensures) (then_writes (rw c.as_slice-days.ensures at c.in_ok-write_days.ensures) (stops_in _ c.from_residual-in_err-write_return.ensures.0 c.in_err-write_return.ensures))))

pub returns : goal.returns
unfolding explanation_parts
returns g c = then_writes c.in_ok-write_obligation.ensures (then_writes c.in_ok-write_schedule_part.ensures (then_writes (rw c.as_slice-paydays.ensures at c.in_ok-write_paydays.ensures) (then_writes (rw c.as_slice-days.ensures at c.in_ok-write_days.ensures) (then_writes c.in_ok-write_return.ensures ((rw c.as_slice-payments.ensures at c.write_payments.ensures))))))
