use Rattle.std.proofs.Common.{rules}
use Rattle.ftd_sql.specs.declared.TableName.TheVariants.{Payments}
use Rattle.ftd_sql.proofs.Changing.{voids_payment}
use Rattle.ftd_sql.proofs.Writing.{changing}
use Rattle.ftd_sql.proofs.Meanings.{payment_voided}
use Rattle.ftd_store.proofs.Telling.{changes_one}
use Rattle.ftd_store.proofs.tx.Tx.void_payment.Goals as goal

pub change_one-requires : goal.change_one-requires
change_one-requires g c = record { of_rows = changing _ _ _ _ _ _ voids_payment }

pub returns : goal.returns
returns g c = record {
  call = changes_one Payments _ _ _ _ (payment_voided _ _) c.change_one.ensures.frame
      (search rules);
}
