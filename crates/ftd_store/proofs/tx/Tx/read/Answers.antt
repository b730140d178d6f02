use Rattle.std.proofs.Common.{refl, inl}
use Rattle.sqlite.specs.Held.{state}
use Rattle.sqlite.specs.State.{HasCleanDisk}
use Rattle.ftd_sql.proofs.Commits.{reading_commits_nothing}
use Rattle.ftd_sql.proofs.Controls.{keeps_left, weaker}
use Rattle.ftd_sql.proofs.Inside.{reading_stays}
use Rattle.ftd_sql.proofs.Leaves.{query_leaves}
use Rattle.ftd_store.proofs.ReadTexts.{is_reading}
use Rattle.ftd_store.proofs.Telling.{fails_to_query}
use Rattle.ftd_store.proofs.tx.Tx.read.Goals as goal

pub returns-in-Ok : goal.returns-in-Ok
returns-in-Ok g c =
    let old = state g.S.Store c.args.self.now.store.now.conn in
    let new = state g.S.Store c.query_all.new.self in
    let shown = λ (clean : HasCleanDisk new). rw c.text.ensures at (c.in-Ok.ensures.ok clean) in
    let same = λ (clean : HasCleanDisk new). reading_stays old new _ _ _
    (is_reading c.args.reading) (shown clean) in
    record {
      call = record {
        frame = record {
          same = refl;
          told = (c.if-self.false, c.if-self.false);
          stopped = λ failed. absurd (let sound = c.if-self.false in cc);
          stays = λ clean. record {
            was_open = (same clean).0.was_open;
            is_open = (same clean).0.is_open;
            now_is = refl;
            committed_is = (same clean).0.committed_is;
            mode = (same clean).0.mode;
          };
          kept = λ clean. keeps_left old new (inl (same clean));
          crash = weaker old new _
              (λ db. reading_commits_nothing old _ _ db (is_reading c.args.reading))
              (rw c.text.ensures at c.query_all.ensures.survives);
        };
        same = same;
        showed = λ clean. (c.in-Ok.rows.items, shown clean, refl);
      };
    }

pub returns-in-Err : goal.returns-in-Err
returns-in-Err g c =
    let old = state g.S.Store c.args.self.now.store.now.conn in
    let new = state g.S.Store c.query_all.new.self in
    record {
      call = fails_to_query g.S.Store c.args.self.now c.stop.new.self _ c.stop.result _ _ _ _
          c.stop.ensures.err c.stop.ensures.touched.0 c.stop.ensures.touched.1 refl c.if-self.false
          (λ clean. keeps_left old new (query_leaves c.text.result.now _ old new c.in-Err.error
          (c.in-Err.ensures.err clean)))
          (weaker old new _ (λ db. reading_commits_nothing old _ _ db (is_reading c.args.reading))
          (rw c.text.ensures at c.query_all.ensures.survives));
    }
