use Rattle.std.proofs.Common.{◌≡◌, ◌+◌, ◌-◌, arith, refl}
use Rattle.std.proofs.lemmas.Result.{IfOk-weaker}
use Rattle.ftd_days.specs.Calendar.{quarter_start}
use Rattle.sqlite.specs.Held.{state}
use Rattle.ftd_sql.specs.declared.TableName.TheVariants.{Obligations}
use Rattle.ftd_sql.proofs.Commits.{reading_commits_nothing}
use Rattle.ftd_sql.specs.declared.texts.TheConstants.{LIST_OBLIGATIONS}
use Rattle.ftd_sql.proofs.Asking.{lists_obligations}
use Rattle.ftd_sql.proofs.Controls.{weaker}
use Rattle.ftd_sql.proofs.Reading.{asking}
use Rattle.ftd_store.proofs.Beginning.{settled_stays}
use Rattle.ftd_store.proofs.Walks.{begun_reading, refused_rests}
use Rattle.ftd_store.proofs.obligation_rows.rows_of.Goals as goal

pub returns : goal.returns
returns g c =
    let reads = asking Obligations LIST_OBLIGATIONS.now _ _ _ lists_obligations in
    let last_is : c.last.result ≡ quarter_start (c.args.quarter + 1) - 1 =
    omega (arith, c.last.ensures) in
    let settled = c.is_autocommit.ensures.settled c.if-not-is_autocommit.false in (
      (
        refl,
        λ w. c.query.follows.holds w,
        refused_rests g.S.Store LIST_OBLIGATIONS.now _
            c.args.conn.now c.query.follows.lender-at-none c.query.result reads settled
            c.query.follows.holds-at-none,
      ),
      (
        c.query.ensures.same_reference,
        (
          IfOk-weaker c.query.result _ _ (λ rows begun clean. begun_reading g.S.Store
              LIST_OBLIGATIONS.now
              _ c.args.conn.now rows.conn.now reads
              (rw (
                c.params-to_sql.ensures,
                c.params-to_sql-2.ensures,
                c.params-to_sql-3.ensures,
                c.first.ensures,
                last_is,
              ) at (begun clean))) c.query.ensures.begun,
          (
            IfOk-weaker c.query.result _ _
                (λ rows begun clean. settled_stays (state g.S.Store c.args.conn.now)
                (state g.S.Store rows.conn.now)
                (begun_reading g.S.Store LIST_OBLIGATIONS.now _ c.args.conn.now rows.conn.now reads
                (begun clean)).1 settled) c.query.ensures.begun,
            IfOk-weaker c.query.result _ _
                (λ rows survives. weaker _ _ _
                (λ db. reading_commits_nothing _ LIST_OBLIGATIONS.now _ db reads) survives)
                c.query.ensures.survives,
          ),
        ),
      ),
    )
