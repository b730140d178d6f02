use Rattle.std.proofs.Common.{rules}
use Rattle.ftd_sql.specs.declared.TableName.TheVariants.{Obligations}
use Rattle.ftd_sql.specs.Tests.{is_obligation_of_account}
use Rattle.ftd_sql.proofs.RowOrder.{obligations_in_row_order}
use Rattle.ftd_store.specs.Cells.{IsObligationCells}
use Rattle.ftd_store.specs.Rows.{obligation_row}
use Rattle.ftd_store.proofs.SameAdded.{added_obligation_is}
use Rattle.ftd_store.proofs.TellingAdded.{reads_rows}
use Rattle.ftd_store.proofs.tx.Tx.obligations_by_row.Goals as goal

pub returns : goal.returns
returns g c = record {
  call = reads_rows {n = Obligations} (is_obligation_of_account c.args.account.now)
      IsObligationCells
      (obligation_row c.args.account.now)
      (obligations_in_row_order c.args.account.now) (added_obligation_is c.args.account.now)
      (search rules);
}
