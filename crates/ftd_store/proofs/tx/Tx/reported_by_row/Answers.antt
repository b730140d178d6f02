use Rattle.std.proofs.Common.{rules}
use Rattle.ftd_sql.specs.declared.TableName.TheVariants.{ReportedQuarters}
use Rattle.ftd_sql.specs.Tests.{is_reported_of}
use Rattle.ftd_sql.proofs.RowOrder.{reported_in_row_order}
use Rattle.ftd_store.specs.KeptRows.{IsQuarterTotalCells}
use Rattle.ftd_store.specs.Added.{quarter_total_row}
use Rattle.ftd_store.proofs.SameKept.{quarter_total_is}
use Rattle.ftd_store.proofs.TellingAdded.{reads_rows}
use Rattle.ftd_store.proofs.tx.Tx.reported_by_row.Goals as goal

pub returns : goal.returns
returns g c = record {
  call = reads_rows {n = ReportedQuarters} (is_reported_of c.args.account.now) IsQuarterTotalCells
      (quarter_total_row c.args.account.now)
      (reported_in_row_order c.args.account.now) (quarter_total_is c.args.account.now)
      (search rules);
}
