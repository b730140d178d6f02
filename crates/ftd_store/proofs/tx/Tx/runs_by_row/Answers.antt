use Rattle.std.proofs.Common.{rules}
use Rattle.ftd_sql.specs.declared.TableName.TheVariants.{Runs}
use Rattle.ftd_sql.specs.Tests.{is_run_of}
use Rattle.ftd_sql.proofs.RowOrder.{runs_in_row_order}
use Rattle.ftd_store.specs.KeptRows.{IsNumberedRunCells}
use Rattle.ftd_store.specs.Added.{numbered_run_row}
use Rattle.ftd_store.proofs.SameAdded.{added_run_is}
use Rattle.ftd_store.proofs.TellingAdded.{reads_rows}
use Rattle.ftd_store.proofs.tx.Tx.runs_by_row.Goals as goal

pub returns : goal.returns
returns g c = record {
  call = reads_rows {n = Runs} (is_run_of c.args.account.now) IsNumberedRunCells
      (numbered_run_row c.args.account.now)
      (runs_in_row_order c.args.account.now) (added_run_is c.args.account.now)
      (search rules);
}
