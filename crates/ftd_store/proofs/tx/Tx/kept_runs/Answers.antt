use Rattle.std.proofs.Common.{rules}
use Rattle.ftd_store.specs.Kept.{IsNumberedRun}
use Rattle.ftd_sql.specs.declared.TableName.TheVariants.{Runs}
use Rattle.ftd_sql.proofs.Meanings.{kept_runs_in_order}
use Rattle.ftd_store.specs.Cells.{day_number}
use Rattle.ftd_store.proofs.SameKept.{numbered_run_is}
use Rattle.ftd_store.proofs.Telling.{lists}
use Rattle.ftd_store.proofs.tx.Tx.kept_runs.Goals as goal

pub returns : goal.returns
returns g c = record {
  call = lists (λ xs. xs.items) Runs _ (IsNumberedRun c.args.account.now)
      (kept_runs_in_order c.args.account.now (day_number c.args.from) (day_number c.args.to))
      (numbered_run_is _ _ _) (search rules);
}
