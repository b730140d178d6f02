use Rattle.ftd_sql.specs.declared.TableName.TheVariants.{CorrectedYears}
use Rattle.ftd_sql.proofs.RowOrder.{all_year_corrections_counted}
use Rattle.ftd_store.proofs.TellingAdded.{counts_all}
use Rattle.ftd_store.proofs.tx.Tx.count_all_year_corrections.Goals as goal

pub returns : goal.returns
returns g c = record {
  call = counts_all CorrectedYears all_year_corrections_counted
      c.count.ensures.call;
}
