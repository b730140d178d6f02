use Rattle.ftd_answers.proofs.explanations.write_reason.Goals as goal

pub returns : goal.returns
returns g c =
    rw (c.day_bytes.ensures, c.kind_bytes.ensures, c.reason_bytes.ensures) at c.write_pieces.ensures
