use Rattle.std.proofs.Common.{arith}
use Rattle.ftd_connections.specs.Served.{StillAnswers, TakesOne}
use Rattle.ftd_connections.proofs.ListeningFacts.{goes_more, takes_all, takes_more, takes_none}
use Rattle.ftd_connections.proofs.serving.serve_on.Goals as goal

pub loop-number-init : goal.loop-number-init
loop-number-init g c = takes_none (TakesOne g.A.Stream.Read.remaining g.A.Stream.Write.contents
    g.A.Stream.Waits.may_be_silent g.M.Machine.goes g.A.Arrivals) (StillAnswers g.M.Machine.stays)
    (c.args.room.now, c.args.machine.now)
    (g.Err.Target.taken c.args.err.now) (g.Err.Target.failed c.args.err.now) c.args.taken

pub returns-then-not-turn-clause-takes : goal.returns-then-not-turn-clause-takes
returns-then-not-turn-clause-takes g c = (
  c.tell_outcome-told.result,
  takes_more (TakesOne g.A.Stream.Read.remaining g.A.Stream.Write.contents
      g.A.Stream.Waits.may_be_silent g.M.Machine.goes g.A.Arrivals)
      (StillAnswers g.M.Machine.stays) _ _ _ _ _ _ _ _ _ _ _ _ c.take_turn-turn.result
      c.loop-number.invariant
      c.take_turn-turn.ensures c.tell_outcome-told.ensures,
)

pub loop-number-preserved : goal.loop-number-preserved
loop-number-preserved g c =
    goes_more (TakesOne g.A.Stream.Read.remaining g.A.Stream.Write.contents
    g.A.Stream.Waits.may_be_silent g.M.Machine.goes g.A.Arrivals)
    (StillAnswers g.M.Machine.stays) _ _ _ _ _ _ _ _ _ _ _ _ c.take_turn-turn.result
    c.loop-number.invariant
    c.take_turn-turn.ensures c.tell_outcome-told.ensures c.if-not-turn.false

pub returns-clause-takes : goal.returns-clause-takes
returns-clause-takes g c =
    let most = c.loop-number.auto.number-end in
    let least = c.loop-number-test.false in
    let asked = c.requires in
    takes_all (TakesOne g.A.Stream.Read.remaining g.A.Stream.Write.contents
    g.A.Stream.Waits.may_be_silent g.M.Machine.goes g.A.Arrivals) (StillAnswers g.M.Machine.stays)
    (c.args.room.now, c.args.machine.now) (c.loop-number.room, c.loop-number.machine)
    c.loop-number.told _ _ _ _ c.loop-number.number c.args.limits.connections
    c.loop-number.invariant (omega arith)
