use Rattle.std.proofs.Common.{Ok, Err, inl, refl, rules}
use Rattle.ftd_machine.specs.declared.replies.Refusal.TheVariants.{Memory}
use Rattle.ftd_desk.proofs.Tried.{as_it_was}
use Rattle.ftd_desk.specs.Desks.{held}
use Rattle.ftd_program.proofs.Puts.{nothing_put, prefix_put}
use Rattle.ftd_program.proofs.record_notes.put_refusals.Goals as goal

pub returns-then-not-refusals : goal.returns-then-not-refusals
returns-then-not-refusals g c = record {
  told = Err Memory;
  knows = λ clean s keeps. tt;
  fault = inl refl;
  put = nothing_put (g.E.Target.taken c.args.err.now) _;
  none = λ empty. refl;
  stands = as_it_was (held g.S.Store c.args.desk.now);
}

pub returns-in-Ok : goal.returns-in-Ok
returns-in-Ok g c = record {
  told = Ok c.in-Ok.lines.items;
  knows = λ clean s keeps. rw c.deref.ensures.value
      at (c.in-Ok.ensures.knows clean s keeps);
  fault = tt;
  put = rw c.deref-in-Ok.ensures.value
      at (prefix_put c.write_rows.result _ _ _ _ c.write_rows.ensures);
  none = λ empty. absurd (search rules);
  stands = c.record_lines.ensures.stands;
}

pub returns-in_default : goal.returns-in_default
returns-in_default g c = record {
  told = Err Memory;
  knows = λ clean s keeps. tt;
  fault = inl refl;
  put = nothing_put (g.E.Target.taken c.args.err.now) _;
  none = λ empty. refl;
  stands = c.record_lines.ensures.stands;
}
