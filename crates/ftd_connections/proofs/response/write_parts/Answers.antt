use Rattle.ftd_ports.proofs.WritingFacts.{then_writes, stops_in}
use Rattle.ftd_connections.specs.Responses.{response_text}
use Rattle.ftd_connections.proofs.response.write_parts.Goals as goal

pub returns-in_err-write_head : goal.returns-in_err-write_head
unfolding response_text
returns-in_err-write_head g c = stops_in _ c.from_residual.ensures.0 c.in_err-write_head.ensures

pub returns : goal.returns
unfolding response_text
returns g c =
    then_writes c.in_ok-write_head.ensures (rw c.as_slice.ensures.value at c.write_all.ensures)
