use Rattle.std.proofs.Common.{Ok}
use Rattle.ftd_desk.specs.Desks.{held}
use Rattle.ftd_replies.specs.declared.hints.HintFacts.TheVariants.{Nothing}
use Rattle.ftd_program.proofs.Mended.{answered_after, knows_after, still_handles}
use Rattle.ftd_program.proofs.performing.print_answer.Goals as goal

pub returns-in-Ok : goal.returns-in-Ok
returns-in-Ok g c = λ before handles. record {
  handles = handles;
  known = Ok Nothing;
  knows = rw c.in-Ok.is
      (answered_after (held g.S.Store before) _ c.args.request.now c.in-Ok.reply
      (rw c.in-Ok.is at handles));
  prints = rw c.in-Ok.is c.print_reply.ensures;
}

pub returns-in-Err : goal.returns-in-Err
returns-in-Err g c = λ before handles.
    let refused = rw c.in-Err.is at handles in
    record {
      handles = rw c.in-Err.is
          (still_handles (held g.S.Store before) _ _ c.args.request.now c.in-Err.refusal refused
          c.known_for.ensures.stands);
      known = c.known_for.result;
      knows = rw c.in-Err.is
          (knows_after (held g.S.Store before) _ _ c.args.request.now c.in-Err.refusal refused
          c.known_for.ensures.stands c.known_for.result c.known_for.ensures.knows
          c.known_for.ensures.fault);
      prints = rw c.in-Err.is (rw c.or_nothing-known.ensures at c.print_refusal.ensures);
    }
