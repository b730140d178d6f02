use Rattle.std.proofs.Common.{rules}
use Rattle.ftd_sql.proofs.Meanings.{payments_counted}
use Rattle.ftd_store.proofs.Telling.{counts}
use Rattle.ftd_store.proofs.tx.Tx.count_payments.Goals as goal

pub returns : goal.returns
returns g c = record { call = counts _ (payments_counted c.args.account.now) (search rules) }
