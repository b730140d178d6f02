use Rattle.std.proofs.Common.{length}
use Rattle.ftd_ports.proofs.WritingFacts.{HasWritten}
use Rattle.ftd_ports.proofs.writing.write_all.Given as goal

abbrev pub invariant-loop-rest : goal.invariant-loop-rest
invariant-loop-rest g l = HasWritten (g.W.Target.taken l.initial.target) (g.W.Target.taken l.target)
    l.bytes l.rest

abbrev pub decreases-loop-rest : goal.decreases-loop-rest
decreases-loop-rest g l = length l.rest
