use Rattle.ftd_program.specs.OpenYears.{none_text}
use Rattle.ftd_program.proofs.open_years.write_none.Goals as goal

pub returns : goal.returns
unfolding none_text
returns g c = rw (c.as_bytes-year.ensures.value, c.format.ensures.text) at c.write_pieces.ensures
