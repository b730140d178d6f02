use Rattle.ftd_sql.specs.declared.TableName.TheVariants.{Accounts}
use Rattle.ftd_sql.proofs.RowOrder.{accounts_in_row_order}
use Rattle.ftd_store.specs.KeptRows.{IsNamedAccountCells}
use Rattle.ftd_store.specs.Added.{named_account_row}
use Rattle.ftd_store.proofs.SameKept.{named_account_is}
use Rattle.ftd_store.proofs.TellingAdded.{reads_all_rows}
use Rattle.ftd_store.proofs.tx.Tx.accounts_by_row.Goals as goal

pub returns : goal.returns
returns g c = record {
  call = reads_all_rows Accounts IsNamedAccountCells named_account_row accounts_in_row_order
      named_account_is c.read_values.ensures.call;
}
