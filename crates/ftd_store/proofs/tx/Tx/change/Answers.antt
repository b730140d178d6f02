use Rattle.std.proofs.Common.{refl, sym, subst}
use Rattle.sqlite.specs.State.{HasCleanDisk, Shows}
use Rattle.sqlite.specs.Held.{state}
use Rattle.ftd_sql.proofs.Controls.{failed_leaves, keeps_left, keeps_shown, weaker, busy_if}
use Rattle.ftd_sql.proofs.Commits.{commits_nothing}
use Rattle.ftd_sql.proofs.Inside.{rows_stay_inside}
use Rattle.ftd_store.proofs.Going.{fails}
use Rattle.ftd_store.proofs.tx.Tx.change.Goals as goal

pub returns-in-Ok-clause-frame : goal.returns-in-Ok-clause-frame
returns-in-Ok-clause-frame g c =
    let old = state g.S.Store c.args.self.now.store.now.conn in
    let new = state g.S.Store c.execute.new.self in
    let busy = busy_if _ _ c.is_autocommit.ensures.value c.if-is_autocommit.false in
    let stays = λ (clean : HasCleanDisk new). rows_stay_inside old new c.args.sql.now _
    c.in-Ok.count c.requires.of_rows busy (c.in-Ok.ensures.runs clean) in
    record {
      same = refl;
      told = (c.if-self.false, c.if-self.false);
      stopped = λ failed. absurd (let sound = c.if-self.false in cc);
      stays = λ clean. subst (Shows old new new.now old.committed) (sym busy) (stays clean);
      kept = λ clean. keeps_shown old new (stays clean);
      crash = weaker old new _ (λ db. commits_nothing old c.args.sql.now _ db c.requires.of_rows
          busy) c.execute.ensures.survives;
    }

pub returns-in-Err-clause-frame : goal.returns-in-Err-clause-frame
returns-in-Err-clause-frame g c =
    let old = state g.S.Store c.args.self.now.store.now.conn in
    let new = state g.S.Store c.execute.new.self in
    let busy = busy_if _ _ c.is_autocommit.ensures.value c.if-is_autocommit.false in
    fails g.S.Store c.args.self.now c.stop-in-Err.new.self _ c.stop-in-Err.result _
    c.stop-in-Err.ensures.err c.stop-in-Err.ensures.touched.0 c.stop-in-Err.ensures.touched.1 refl
    c.if-self.false
    (λ clean. keeps_left old new (failed_leaves c.args.sql.now _ old new c.in-Err.error
    (c.in-Err.ensures.runs clean)))
    (weaker old new _ (λ db. commits_nothing old c.args.sql.now _ db c.requires.of_rows busy)
    c.execute.ensures.survives)
