use Rattle.ftd_ports.proofs.WritingFacts.{begins, goes_on, stops_after, ends_in}
use Rattle.ftd_answers.proofs.RowFormatFacts.{member_parts}
use Rattle.ftd_answers.proofs.fields.write_member.Goals as goal

pub returns-in_err-write_pieces : goal.returns-in_err-write_pieces
returns-in_err-write_pieces g c =
    stops_after _ c.from_residual.ensures.0 begins (member_parts _ _)
    (rw c.as_bytes.ensures.value at c.in_err-write_pieces.ensures)

pub returns : goal.returns
returns g c =
    ends_in (goes_on _ _ begins (member_parts _ _)
    (rw c.as_bytes.ensures.value at c.in_ok-write_pieces.ensures.ok)) c.write_json.ensures
