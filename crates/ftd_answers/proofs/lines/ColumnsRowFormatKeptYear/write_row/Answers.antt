use Rattle.ftd_ports.proofs.WritingFacts.{then_writes}
use Rattle.ftd_answers.specs.Listings.{year_line}
use Rattle.ftd_answers.proofs.lines.ColumnsRowFormatKeptYear.write_row.Goals as goal

pub returns : goal.returns
unfolding year_line
returns g c =
    then_writes c.in_ok-write_year.ensures (then_writes c.in_ok-write_turn.ensures
    c.write_first.ensures)
