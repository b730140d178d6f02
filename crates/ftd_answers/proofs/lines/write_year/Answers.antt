use Rattle.std.proofs.Common.{subst}
use Rattle.ftd_ports.specs.Writing.{Writes}
use Rattle.ftd_answers.specs.Listings.{year_text}
use Rattle.ftd_answers.proofs.LineParts.{year_parts}
use Rattle.ftd_answers.proofs.lines.write_year.Goals as goal

pub returns : goal.returns
unfolding year_text
returns g c = subst (Writes _ _ _ _) (cc) (rw (← year_parts) at c.write_pieces.ensures)
