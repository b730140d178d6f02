use Rattle.std.proofs.Common.{inl, inr, rules}
use Rattle.ftd_desk.proofs.Tried.{as_it_was}
use Rattle.ftd_desk.specs.Desks.{held}
use Rattle.ftd_program.proofs.performing.print_summary.Goals as goal

pub returns-in-Ok : goal.returns-in-Ok
returns-in-Ok g c = inl record {
  status_is = c.status_in.ensures;
  whole = c.in-Ok.ensures.ok;
  noted = c.put_added.new.err;
  notes = c.put_added.ensures.notes;
  no_note = c.put_added.ensures.none;
  told = c.put_refusals.new.err;
  refusals = c.put_refusals.ensures;
  hints = c.put_malformed.ensures;
}

pub returns-in-Err : goal.returns-in-Err
returns-in-Err g c = inr (as_it_was (held g.S.Store c.args.desk.now), search rules)
