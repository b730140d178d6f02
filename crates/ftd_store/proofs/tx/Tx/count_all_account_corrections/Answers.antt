use Rattle.ftd_sql.specs.declared.TableName.TheVariants.{CorrectedAccounts}
use Rattle.ftd_sql.proofs.RowOrder.{all_account_corrections_counted}
use Rattle.ftd_store.proofs.TellingAdded.{counts_all}
use Rattle.ftd_store.proofs.tx.Tx.count_all_account_corrections.Goals as goal

pub returns : goal.returns
returns g c = record {
  call = counts_all CorrectedAccounts all_account_corrections_counted
      c.count.ensures.call;
}
