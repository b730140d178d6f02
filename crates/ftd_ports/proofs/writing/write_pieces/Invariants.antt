use Rattle.std.proofs.Common.{ℕ, List, drop}
use Rattle.std.specs.List.{flat_map}
use denote.Bor.{Bor}
use Rattle.ftd_ports.proofs.WritingFacts.{HasWritten}
use Rattle.ftd_ports.proofs.writing.write_pieces.Given as goal

abbrev pub invariant-loop-piece : goal.invariant-loop-piece
invariant-loop-piece g l =
    HasWritten (g.W.Target.taken l.initial.target) (g.W.Target.taken l.target)
    (flat_map (λ (p : Bor (List ℕ)). p.now) l.pieces)
    (flat_map (λ (p : Bor (List ℕ)). p.now) (drop l.piece-index l.pieces))
