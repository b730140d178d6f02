use Rattle.std.proofs.Common.{rules}
use Rattle.ftd_sql.specs.declared.TableName.TheVariants.{CorrectedAccounts}
use Rattle.ftd_sql.specs.Tests.{is_account_correction_of}
use Rattle.ftd_sql.proofs.RowOrder.{account_corrections_in_row_order}
use Rattle.ftd_store.specs.CorrectionRows.{IsAccountCorrectionCells}
use Rattle.ftd_store.specs.Rows.{account_correction_row}
use Rattle.ftd_store.proofs.SameCorrections.{account_correction_is}
use Rattle.ftd_store.proofs.TellingAdded.{reads_rows}
use Rattle.ftd_store.proofs.tx.Tx.account_corrections_by_row.Goals as goal

pub returns : goal.returns
returns g c = record {
  call = reads_rows {n = CorrectedAccounts} (is_account_correction_of c.args.account.now)
      IsAccountCorrectionCells
      (account_correction_row c.args.account.now)
      (account_corrections_in_row_order c.args.account.now)
      (account_correction_is c.args.account.now)
      (search rules);
}
