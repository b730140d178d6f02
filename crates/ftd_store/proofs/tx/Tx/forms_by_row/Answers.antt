use Rattle.std.proofs.Common.{rules}
use Rattle.ftd_sql.specs.declared.TableName.TheVariants.{Forms}
use Rattle.ftd_sql.specs.Tests.{is_form_of}
use Rattle.ftd_sql.proofs.RowOrder.{forms_in_row_order}
use Rattle.ftd_store.specs.Cells.{IsFormCells}
use Rattle.ftd_store.specs.Rows.{form_row}
use Rattle.ftd_store.proofs.Same.{form_is}
use Rattle.ftd_store.proofs.TellingAdded.{reads_rows}
use Rattle.ftd_store.proofs.tx.Tx.forms_by_row.Goals as goal

pub returns : goal.returns
returns g c = record {
  call = reads_rows {n = Forms} (is_form_of c.args.account.now) IsFormCells
      (form_row c.args.account.now)
      (forms_in_row_order c.args.account.now) (form_is c.args.account.now)
      (search rules);
}
