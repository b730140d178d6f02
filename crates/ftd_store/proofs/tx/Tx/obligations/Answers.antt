use Rattle.std.proofs.Common.{rules}
use Rattle.ftd_store.specs.Finds.{IsObligation}
use Rattle.ftd_sql.specs.declared.TableName.TheVariants.{Obligations}
use Rattle.ftd_sql.proofs.Meanings.{obligations_in_order}
use Rattle.ftd_store.specs.Cells.{day_number}
use Rattle.ftd_store.proofs.Same.{obligation_is}
use Rattle.ftd_store.proofs.Telling.{lists}
use Rattle.ftd_store.proofs.tx.Tx.obligations.Goals as goal

pub returns : goal.returns
returns g c = record {
  call = lists (λ xs. xs.items) Obligations _ (IsObligation c.args.account.now)
      (obligations_in_order c.args.account.now (day_number c.args.from) (day_number c.args.to))
      (obligation_is _ _ _) (search rules);
}
