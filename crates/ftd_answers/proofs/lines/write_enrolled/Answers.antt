use Rattle.ftd_answers.specs.Listings.{enrolled_text}
use Rattle.ftd_answers.proofs.LineParts.{enrolled_parts}
use Rattle.ftd_answers.proofs.lines.write_enrolled.Goals as goal

pub returns : goal.returns
unfolding enrolled_text
returns g c =
    let whole = enrolled_parts c.form_bytes-form.result c.day_bytes-start.result
    c.carried_end.result.now in
    let line = rw (c.form_bytes-form.ensures, c.day_bytes-start.ensures, c.carried_end.ensures) at
    whole in
    let told = rw (c.form_bytes-form.ensures, c.day_bytes-start.ensures, c.carried_end.ensures)
    at c.write_pieces.ensures in
    rw line told
