use Rattle.ftd_ports.proofs.WritingFacts.{then_writes}
use Rattle.ftd_site.specs.SentForms.{holidays_text}
use Rattle.ftd_site.proofs.sent_forms.write_holidays.Goals as goal

pub returns : goal.returns
unfolding holidays_text
returns g c =
    then_writes c.in_ok-write_all.ensures (then_writes c.in_ok-write_holidays_way.ensures
    c.write_all-2.ensures)
