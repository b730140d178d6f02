use Rattle.std.proofs.Common.{inl, inr}
use Rattle.sqlite.specs.State.{HasCleanDisk, IsUnchanged}
use Rattle.ftd_sql.specs.States.{within}
use Rattle.ftd_sql.proofs.Controls.{keeps_left}
use Rattle.ftd_sql.proofs.Inside.{reading_stays}
use Rattle.ftd_sql.proofs.Leaves.{query_leaves}
use Rattle.ftd_setup.proofs.steps.read.Goals as goal

pub returns-in-Err : goal.returns-in-Err
returns-in-Err g c =
    let old = within g.S.Store c.args.tx.now in
    let new = within g.S.Store c.query_all.new.self in
    record {
      step = record {
        same = c.query_all.ensures.same_reference;
        mode = λ clean. tt;
        kept = λ clean. elim (c.in-Err.ensures.err clean) [
          | inl failed ↦ keeps_left old new
              (query_leaves c.args.sql.now _ old new c.in-Err.error failed)
          | inr late ↦ keeps_left old new (inl late.5)
        ];
        crash = c.query_all.ensures.survives;
        does = λ clean. tt;
      };
    }

pub returns-in-Ok : goal.returns-in-Ok
returns-in-Ok g c =
    let old = within g.S.Store c.args.tx.now in
    let new = within g.S.Store c.query_all.new.self in
    let same : HasCleanDisk new → IsUnchanged old new =
    λ clean. reading_stays old new c.args.sql.now _ _ c.requires.of_reading
    (c.in-Ok.ensures.ok clean) in
    record {
      step = record {
        same = c.query_all.ensures.same_reference;
        mode = λ clean. (same clean).0.mode;
        kept = λ clean. keeps_left old new (inl (same clean));
        crash = c.query_all.ensures.survives;
        does = λ clean. (c.in-Ok.ensures.ok clean, same clean);
      };
    }
