use Rattle.std.proofs.Common.{Ok}
use Rattle.sqlite.specs.Held.{state}
use Rattle.ftd_sql.proofs.Controls.{on_err, begins, failed_leaves, weaker, begin_commits_nothing}
use Rattle.ftd_sql.proofs.Controls.{begin_text}
use Rattle.ftd_store.proofs.Beginning.{begins_settled, failed_rests}
use Rattle.ftd_store.proofs.store.Store.start.Goals as goal

pub returns-clause-begun : goal.returns-clause-begun
returns-clause-begun g c clean =
    let old = state g.S.Store c.args.self.now.conn in
    let new = state g.S.Store c.execute.new.self in
    begins_settled old new (begins old new (Ok c.in_ok-execute.field-0)
    (c.in_ok-execute.ensures.runs clean))
    (c.is_autocommit.ensures.settled c.if-not-is_autocommit.false)

pub returns-clause-crash : goal.returns-clause-crash
returns-clause-crash g c =
    weaker _ _ _ (begin_commits_nothing (state g.S.Store c.args.self.now.conn))
    c.execute.ensures.survives

pub returns-in_err-execute-clause-err : goal.returns-in_err-execute-clause-err
returns-in_err-execute-clause-err g c clean =
    let old = state g.S.Store c.args.self.now.conn in
    let new = state g.S.Store c.execute.new.self in
    on_err _ (failed_rests old new (c.is_autocommit.ensures.settled c.if-not-is_autocommit.false)
    (failed_leaves begin_text _ old new _ (c.in_err-execute.ensures.runs clean)))

pub returns-in_err-execute-clause-crash : goal.returns-in_err-execute-clause-crash
returns-in_err-execute-clause-crash g c =
    weaker _ _ _ (begin_commits_nothing (state g.S.Store c.args.self.now.conn))
    c.execute.ensures.survives
