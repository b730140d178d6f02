use Rattle.ftd_pages.specs.Pages.{ways_start}
use Rattle.ftd_pages.proofs.frames.write_ways_start.Goals as goal

pub returns : goal.returns
unfolding ways_start
returns g c = rw (c.day_bytes-now.ensures, c.day_bytes-last.ensures) at c.write_pieces.ensures
