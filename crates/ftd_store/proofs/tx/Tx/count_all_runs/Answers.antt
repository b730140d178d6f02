use Rattle.ftd_sql.specs.declared.TableName.TheVariants.{Runs}
use Rattle.ftd_sql.proofs.RowOrder.{all_runs_counted}
use Rattle.ftd_store.proofs.TellingAdded.{counts_all}
use Rattle.ftd_store.proofs.tx.Tx.count_all_runs.Goals as goal

pub returns : goal.returns
returns g c = record { call = counts_all Runs all_runs_counted c.count.ensures.call }
