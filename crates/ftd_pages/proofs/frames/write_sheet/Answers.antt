use Rattle.ftd_pages.specs.Pages.{sheet_within}
use Rattle.ftd_pages.proofs.frames.write_sheet.Goals as goal

pub returns : goal.returns
unfolding sheet_within
returns g c = rw c.as_bytes.ensures.value at c.write_pieces.ensures
