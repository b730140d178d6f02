use Rattle.ftd_connections.proofs.ListeningFacts.{told_line, told_of}
use Rattle.ftd_connections.proofs.lines.tell_more.Goals as goal

pub returns-in-Ok : goal.returns-in-Ok
returns-in-Ok g c =
    rw c.in-Ok.is
    (told_line _ _ _ (g.W.Target.failed c.args.err.now) _ _
    (told_of _ _ _ _ _ c.write_pieces.ensures.ok c.write_pieces.ensures.err
    c.write_pieces.ensures.fault))
