use Rattle.ftd_sql.specs.declared.TableName.TheVariants.{Forms}
use Rattle.ftd_sql.proofs.RowOrder.{all_forms_counted}
use Rattle.ftd_store.proofs.TellingAdded.{counts_all}
use Rattle.ftd_store.proofs.tx.Tx.count_all_forms.Goals as goal

pub returns : goal.returns
returns g c = record { call = counts_all Forms all_forms_counted c.count.ensures.call }
