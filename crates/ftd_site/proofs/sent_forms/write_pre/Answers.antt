use Rattle.ftd_ports.proofs.WritingFacts.{then_writes, stops_in}
use Rattle.ftd_site.specs.SentForms.{pre_text}
use Rattle.ftd_site.proofs.sent_forms.write_pre.Goals as goal

pub returns-in_err-write_all : goal.returns-in_err-write_all
unfolding pre_text
returns-in_err-write_all g c = stops_in _ c.from_residual.ensures.0 c.in_err-write_all.ensures

pub returns-in_err-write_escaped_bytes : goal.returns-in_err-write_escaped_bytes
unfolding pre_text
returns-in_err-write_escaped_bytes g c =
    then_writes c.in_ok-write_all.ensures (stops_in _
    c.from_residual-in_err-write_escaped_bytes.ensures.0
    c.in_err-write_escaped_bytes.ensures)

pub returns : goal.returns
unfolding pre_text
returns g c =
    then_writes c.in_ok-write_all.ensures (then_writes c.in_ok-write_escaped_bytes.ensures
    c.write_all-2.ensures)
