use Rattle.ftd_sql.specs.declared.TableName.TheVariants.{ReportedQuarters}
use Rattle.ftd_sql.proofs.RowOrder.{all_reported_counted}
use Rattle.ftd_store.proofs.TellingAdded.{counts_all}
use Rattle.ftd_store.proofs.tx.Tx.count_all_reported.Goals as goal

pub returns : goal.returns
returns g c = record {
  call = counts_all ReportedQuarters all_reported_counted c.count.ensures.call;
}
