use Rattle.std.proofs.Common.{◌∙◌, subst}
use Rattle.ftd_ports.specs.Writing.{Writes}
use Rattle.ftd_replies.proofs.Rests.{some_rows}
use Rattle.ftd_replies.proofs.notes.write_unapplied_hint.Goals as goal

pub returns-in-len1-up : goal.returns-in-len1-up
returns-in-len1-up g c =
    subst (Writes _ _ _ _) (some_rows c.args.db.now c.args.rows.now _ _ c.in-len1-up.len_at_least
    c.file_bytes.ensures (c.as_bytes-count.ensures.value ∙ c.format.ensures.text))
    c.write_pieces.ensures
