use Rattle.std.proofs.Common.{ap, sym, ◌∙◌}
use Rattle.std.specs.Prelude.{option_copied}
use Rattle.sqlite.specs.Held.{state}
use Rattle.ftd_sql.proofs.Controls.{on_err}
use Rattle.ftd_store.proofs.Beginning.{stopped_rests}
use Rattle.ftd_store.proofs.Walks.{all_given, first_given}
use Rattle.ftd_store.proofs.obligation_rows.next_obligation.Goals as goal

pub returns-in_ok-from_row-in-Some-clause-next : goal.returns-in_ok-from_row-in-Some-clause-next
returns-in_ok-from_row-in-Some-clause-next g c clean account quarter listed has =
    first_given g.S.Store account _ _ c.args.rows.now.conn.now c.advance.new.self.conn.now listed
    has _ _ (c.in_ok-advance.ensures.ok clean) (c.in_ok-advance.ensures.same clean)
    (sym (ap option_copied c.in-Some.is) ∙ c.get.ensures) c.in_ok-from_row-in-Some.field-0
    c.in_ok-from_row-in-Some.ensures.value

pub returns-in-None-clause-next : goal.returns-in-None-clause-next
returns-in-None-clause-next g c clean account quarter listed has =
    all_given g.S.Store account _ _ c.args.rows.now.conn.now c.advance.new.self.conn.now listed has
    _ (c.in_ok-advance.ensures.ok clean) (c.in_ok-advance.ensures.same clean)
    (sym (ap option_copied c.in-None.is) ∙ c.get.ensures)

pub returns-in_err-advance-clause-kept : goal.returns-in_err-advance-clause-kept
returns-in_err-advance-clause-kept g c clean settled =
    on_err _ (stopped_rests (state g.S.Store c.args.rows.now.conn.now)
    (state g.S.Store c.advance.new.self.conn.now) _ settled (c.in_err-advance.ensures.kept clean))
