use Rattle.ftd_ports.proofs.WritingFacts.{then_writes}
use Rattle.ftd_site.specs.YearWays.{year_ways}
use Rattle.ftd_site.proofs.year_ways.YearLinks.write_year.Goals as goal

pub returns : goal.returns
unfolding year_ways
returns g c =
    then_writes c.in_ok-write_all.ensures (then_writes c.in_ok-write_plain.ensures
    (then_writes c.in_ok-write_all-2.ensures (then_writes c.in_ok-write_ways.ensures
    c.write_all-3.ensures)))
