use Rattle.std.proofs.Common.{ap, ◌∙◌}
use Rattle.sqlite.specs.Effect.{Database}
use Rattle.sqlite.specs.Held.{state}
use Rattle.sqlite.proofs.StateLemmas.{survives_weaker}
use Rattle.ftd_sql.proofs.Controls.{on_err, commits, commit_text, commit_commits, failed_leaves}
use Rattle.ftd_sql.proofs.Controls.{keeps_left}
use Rattle.ftd_store.proofs.store.Store.finish.Goals as goal

pub returns-clause-ok : goal.returns-clause-ok
returns-clause-ok g c clean = commits (state g.S.Store c.args.self.now.conn)
    (state g.S.Store c.execute.new.self) c.in_ok-execute.field-0
    (c.in_ok-execute.ensures.runs clean)

pub returns-clause-crash : goal.returns-clause-crash
returns-clause-crash g c =
    let old = state g.S.Store c.args.self.now.conn in
    survives_weaker old (state g.S.Store c.execute.new.self) _ _
    (λ clean db made. commit_commits old db made) c.execute.ensures.survives

pub returns-in_err-execute-clause-kept : goal.returns-in_err-execute-clause-kept
returns-in_err-execute-clause-kept g c clean =
    let old = state g.S.Store c.args.self.now.conn in
    let new = state g.S.Store c.execute.new.self in
    on_err _ (keeps_left old new
    (failed_leaves commit_text _ old new _ (c.in_err-execute.ensures.runs clean)))

pub returns-in_err-execute-clause-crash : goal.returns-in_err-execute-clause-crash
returns-in_err-execute-clause-crash g c =
    let old = state g.S.Store c.args.self.now.conn in
    survives_weaker old (state g.S.Store c.execute.new.self) _ _
    (λ clean db made. commit_commits old db made) c.execute.ensures.survives

pub returns-clause-lasts : goal.returns-clause-lasts
returns-clause-lasts g c clean left may =
    let made = commits (state g.S.Store c.args.self.now.conn) (state g.S.Store c.execute.new.self)
    c.in_ok-execute.field-0 (c.in_ok-execute.ensures.runs clean) in
    g.met.S.Store.settled c.execute.new.self.store left made.is_open may
    ∙ ap (λ (db : Database). db.trees) made.committed_is
