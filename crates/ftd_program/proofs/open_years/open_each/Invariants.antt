use Rattle.ftd_program.proofs.OpenYears.{AreAsked}
use Rattle.ftd_program.proofs.open_years.open_each.Given as goal

abbrev pub invariant-loop-request : goal.invariant-loop-request
invariant-loop-request g l = record {
  asked : AreAsked g.S.Store g.O.Target.taken g.O.Target.failed g.E.Target.taken g.E.Target.failed
      l.initial.out l.initial.err l.fn.desk l.db l.requests l.out l.err l.desk l.counts
      l.request-index;
}
