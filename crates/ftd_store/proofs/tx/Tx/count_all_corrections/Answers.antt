use Rattle.ftd_sql.specs.declared.TableName.TheVariants.{CorrectedQuarters}
use Rattle.ftd_sql.proofs.RowOrder.{all_corrections_counted}
use Rattle.ftd_store.proofs.TellingAdded.{counts_all}
use Rattle.ftd_store.proofs.tx.Tx.count_all_corrections.Goals as goal

pub returns : goal.returns
returns g c = record {
  call = counts_all CorrectedQuarters all_corrections_counted
      c.count.ensures.call;
}
