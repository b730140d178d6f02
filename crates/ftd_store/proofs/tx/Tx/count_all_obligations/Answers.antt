use Rattle.ftd_sql.specs.declared.TableName.TheVariants.{Obligations}
use Rattle.ftd_sql.proofs.RowOrder.{all_obligations_counted}
use Rattle.ftd_store.proofs.TellingAdded.{counts_all}
use Rattle.ftd_store.proofs.tx.Tx.count_all_obligations.Goals as goal

pub returns : goal.returns
returns g c = record { call = counts_all Obligations all_obligations_counted c.count.ensures.call }
