use Rattle.ftd_connections.specs.Served.{StillAnswers, TakesOne}
use Rattle.ftd_connections.proofs.ListeningFacts.{Going}
use Rattle.ftd_connections.proofs.serving.serve_on.Given as goal

abbrev pub invariant-loop-number : goal.invariant-loop-number
invariant-loop-number g l =
    Going (TakesOne g.A.Stream.Read.remaining g.A.Stream.Write.contents
    g.A.Stream.Waits.may_be_silent g.M.Machine.goes g.A.Arrivals) (StillAnswers g.M.Machine.stays)
    (l.initial.room, l.initial.machine) (l.room, l.machine) l.told
    (g.Err.Target.taken l.initial.err) (g.Err.Target.taken l.err) (g.Err.Target.failed l.err)
    l.fn.taken l.number
