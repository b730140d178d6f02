use Rattle.ftd_sql.specs.declared.TableName.TheVariants.{Payments}
use Rattle.ftd_sql.proofs.RowOrder.{all_payments_counted}
use Rattle.ftd_store.proofs.TellingAdded.{counts_all}
use Rattle.ftd_store.proofs.tx.Tx.count_all_payments.Goals as goal

pub returns : goal.returns
returns g c = record { call = counts_all Payments all_payments_counted c.count.ensures.call }
