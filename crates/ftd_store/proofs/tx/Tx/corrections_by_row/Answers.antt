use Rattle.std.proofs.Common.{rules}
use Rattle.ftd_sql.specs.declared.TableName.TheVariants.{CorrectedQuarters}
use Rattle.ftd_sql.specs.Tests.{is_correction_of}
use Rattle.ftd_sql.proofs.RowOrder.{corrections_in_row_order}
use Rattle.ftd_store.specs.AddedRows.{IsQuarterCorrectionCells}
use Rattle.ftd_store.specs.Added.{quarter_correction_row}
use Rattle.ftd_store.proofs.SameAdded.{added_correction_is}
use Rattle.ftd_store.proofs.TellingAdded.{reads_rows}
use Rattle.ftd_store.proofs.tx.Tx.corrections_by_row.Goals as goal

pub returns : goal.returns
returns g c = record {
  call = reads_rows {n = CorrectedQuarters} (is_correction_of c.args.account.now)
      IsQuarterCorrectionCells
      (quarter_correction_row c.args.account.now)
      (corrections_in_row_order c.args.account.now) (added_correction_is c.args.account.now)
      (search rules);
}
