use Rattle.ftd_sql.specs.declared.TableName.TheVariants.{ReportedYears}
use Rattle.ftd_sql.proofs.RowOrder.{all_reported_years_counted}
use Rattle.ftd_store.proofs.TellingAdded.{counts_all}
use Rattle.ftd_store.proofs.tx.Tx.count_all_reported_years.Goals as goal

pub returns : goal.returns
returns g c = record {
  call = counts_all ReportedYears all_reported_years_counted
      c.count.ensures.call;
}
