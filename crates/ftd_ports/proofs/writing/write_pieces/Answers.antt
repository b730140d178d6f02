use Rattle.ftd_ports.proofs.WritingFacts.{goes_on, stops_after, pieces_at}
use Rattle.ftd_ports.proofs.writing.write_pieces.Goals as goal

pub returns-in_err-write_all : goal.returns-in_err-write_all
returns-in_err-write_all g c =
    stops_after _ c.from_residual.ensures.0 c.loop-piece.invariant
    (pieces_at c.args.pieces.now c.loop-piece.piece-index _ c.loop-piece-test.true)
    c.in_err-write_all.ensures

pub loop-piece-preserved : goal.loop-piece-preserved
loop-piece-preserved g c =
    goes_on _ _ c.loop-piece.invariant
    (pieces_at c.args.pieces.now c.loop-piece.piece-index _ c.loop-piece-test.true)
    c.in_ok-write_all.ensures.ok
