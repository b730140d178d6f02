use Rattle.std.proofs.Common.{rules}
use Rattle.ftd_store.specs.Kept.{IsNumberedPayment}
use Rattle.ftd_sql.specs.declared.TableName.TheVariants.{Payments}
use Rattle.ftd_sql.proofs.Meanings.{kept_payments_in_order}
use Rattle.ftd_store.specs.Cells.{day_number}
use Rattle.ftd_store.proofs.SameKept.{numbered_payment_is}
use Rattle.ftd_store.proofs.Telling.{lists}
use Rattle.ftd_store.proofs.tx.Tx.kept_payments.Goals as goal

pub returns : goal.returns
returns g c = record {
  call = lists (λ xs. xs.items) Payments _ (IsNumberedPayment c.args.account.now)
      (kept_payments_in_order c.args.account.now (day_number c.args.from) (day_number c.args.to))
      (numbered_payment_is _ _ _) (search rules);
}
