use Rattle.ftd_pages.specs.Rows.{heading}
use Rattle.ftd_pages.proofs.rows.write_heading.Goals as goal

pub returns : goal.returns
unfolding heading
returns g c =
    rw (c.as_bytes-name.ensures.value, c.as_bytes-word.ensures.value) at c.write_pieces.ensures
