use Rattle.std.proofs.Common.{rules}
use Rattle.ftd_store.specs.Finds.{IsLivePayment}
use Rattle.ftd_sql.specs.declared.TableName.TheVariants.{Payments}
use Rattle.ftd_sql.proofs.Meanings.{payments_in_order}
use Rattle.ftd_store.specs.Cells.{day_number}
use Rattle.ftd_store.proofs.Same.{live_payment_is}
use Rattle.ftd_store.proofs.Telling.{lists}
use Rattle.ftd_store.proofs.tx.Tx.payments_for.Goals as goal

pub returns : goal.returns
returns g c = record {
  call = lists (λ xs. xs.items) Payments _ (IsLivePayment c.args.account.now)
      (payments_in_order c.args.account.now (day_number c.args.from) (day_number c.args.to))
      (live_payment_is _ _ _) (search rules);
}
