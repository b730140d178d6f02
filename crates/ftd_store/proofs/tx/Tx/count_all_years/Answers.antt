use Rattle.ftd_sql.specs.declared.TableName.TheVariants.{Years}
use Rattle.ftd_sql.proofs.RowOrder.{all_years_counted}
use Rattle.ftd_store.proofs.TellingAdded.{counts_all}
use Rattle.ftd_store.proofs.tx.Tx.count_all_years.Goals as goal

pub returns : goal.returns
returns g c = record { call = counts_all Years all_years_counted c.count.ensures.call }
