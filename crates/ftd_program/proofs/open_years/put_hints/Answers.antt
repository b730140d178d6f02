use Rattle.std.proofs.Common.{Ok, refl}
use Rattle.ftd_desk.specs.Desks.{held}
use Rattle.ftd_replies.specs.declared.hints.HintFacts.TheVariants.{Nothing}
use Rattle.ftd_program.proofs.Mended.{answered_after}
use Rattle.ftd_program.proofs.open_years.put_hints.Goals as goal

pub returns-in-Ok : goal.returns-in-Ok
returns-in-Ok g c = λ before handles. record {
  handles = handles;
  known = Ok Nothing;
  knows = rw c.in-Ok.is
      (answered_after (held g.S.Store before) _ c.args.request.now c.in-Ok.field-0
      (rw c.in-Ok.is at handles));
  puts = rw c.in-Ok.is refl;
}

pub returns-in-Err : goal.returns-in-Err
returns-in-Err g c = rw c.in-Err.is c.put_refused.ensures
