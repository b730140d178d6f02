use Rattle.std.proofs.Common.{Ok, rules}
use Rattle.ftd_store.specs.DaySums.{IsLiveRun}
use Rattle.ftd_sql.specs.declared.TableName.TheVariants.{Runs}
use Rattle.ftd_sql.proofs.Meanings.{runs_in_order}
use Rattle.ftd_store.specs.Cells.{day_number}
use Rattle.ftd_store.proofs.Same.{live_run_is}
use Rattle.ftd_store.proofs.Telling.{lists, reads_on}
use Rattle.ftd_store.proofs.Sums.{sums_listed}
use Rattle.ftd_store.proofs.tx.Tx.day_sums.Goals as goal

pub returns-in-Ok : goal.returns-in-Ok
returns-in-Ok g c =
    let who = c.args.account.now in
    let from = day_number c.args.from in
    let to = day_number c.args.to in
    record {
      call = reads_on c.in-Ok.sums _ (lists {result = Ok c.in_ok-runs.runs} (λ xs. xs.items) Runs _
          (IsLiveRun who) (runs_in_order who from to) (live_run_is who from to) (search rules))
          (λ t is. sums_listed who _ c.in_ok-runs.runs.items c.in-Ok.sums.items is
          (rw c.deref.ensures.value at c.in-Ok.ensures.same) c.in-Ok.ensures.positive
          (rw c.deref.ensures.value at c.in-Ok.ensures.rise));
    }
