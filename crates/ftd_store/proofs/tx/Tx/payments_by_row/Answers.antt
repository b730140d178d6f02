use Rattle.std.proofs.Common.{rules}
use Rattle.ftd_sql.specs.declared.TableName.TheVariants.{Payments}
use Rattle.ftd_sql.specs.Tests.{is_payment_of}
use Rattle.ftd_sql.proofs.RowOrder.{payments_in_row_order}
use Rattle.ftd_store.specs.KeptRows.{IsNumberedPaymentCells}
use Rattle.ftd_store.specs.Added.{numbered_payment_row}
use Rattle.ftd_store.proofs.SameAdded.{added_payment_is}
use Rattle.ftd_store.proofs.TellingAdded.{reads_rows}
use Rattle.ftd_store.proofs.tx.Tx.payments_by_row.Goals as goal

pub returns : goal.returns
returns g c = record {
  call = reads_rows {n = Payments} (is_payment_of c.args.account.now) IsNumberedPaymentCells
      (numbered_payment_row c.args.account.now)
      (payments_in_row_order c.args.account.now) (added_payment_is c.args.account.now)
      (search rules);
}
