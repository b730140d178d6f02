use Rattle.ftd_desk.specs.Desks.{held}
use Rattle.ftd_program.proofs.Mended.{knows_after, still_handles}
use Rattle.ftd_program.proofs.open_years.put_refused.Goals as goal

pub returns : goal.returns
returns g c = λ before handles. record {
  handles = still_handles (held g.S.Store before) _ _ c.args.request.now c.args.refusal.now handles
      c.known_for.ensures.stands;
  known = c.known_for.result;
  knows = knows_after (held g.S.Store before) _ _ c.args.request.now c.args.refusal.now handles
      c.known_for.ensures.stands c.known_for.result c.known_for.ensures.knows
      c.known_for.ensures.fault;
  puts = rw c.or_nothing-known.ensures at c.put_known.ensures;
}
