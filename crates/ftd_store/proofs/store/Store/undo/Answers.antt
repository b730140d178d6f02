use Rattle.sqlite.specs.Held.{state}
use Rattle.ftd_sql.proofs.Controls.{rolls_back, weaker, rollback_commits_nothing, busy_if}
use Rattle.ftd_store.proofs.store.Store.undo.Goals as goal

pub returns-clause-undone : goal.returns-clause-undone
returns-clause-undone g c clean =
    (rolls_back (state g.S.Store c.args.self.now.conn) (state g.S.Store c.execute.new.self)
    c.execute.result (busy_if _ c.is_autocommit.result c.is_autocommit.ensures.value
    c.if-is_autocommit.false) (c.execute.ensures.runs clean)).undone

pub returns-clause-crash : goal.returns-clause-crash
returns-clause-crash g c =
    weaker (state g.S.Store c.args.self.now.conn) (state g.S.Store c.execute.new.self) _
    (λ db. rollback_commits_nothing (state g.S.Store c.args.self.now.conn) db
    (busy_if _ c.is_autocommit.result c.is_autocommit.ensures.value c.if-is_autocommit.false))
    c.execute.ensures.survives

pub returns-clause-opens : goal.returns-clause-opens
returns-clause-opens g c clean =
    (rolls_back (state g.S.Store c.args.self.now.conn) (state g.S.Store c.execute.new.self)
    c.execute.result (busy_if _ c.is_autocommit.result c.is_autocommit.ensures.value
    c.if-is_autocommit.false) (c.execute.ensures.runs clean)).was_open
