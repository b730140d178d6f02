use Rattle.ftd_answers.specs.Listings.{name_text}
use Rattle.ftd_answers.proofs.LineParts.{name_parts}
use Rattle.ftd_answers.proofs.lines.write_name.Goals as goal

pub returns : goal.returns
unfolding name_text
returns g c =
    let whole = name_parts c.args.name.now c.spaces_after-spaces.result.now in
    let line = rw c.spaces_after-spaces.ensures at whole in
    let told = rw c.as_bytes.ensures.value at c.write_pieces.ensures in
    rw line told
