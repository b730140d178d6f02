use Rattle.std.proofs.Common.{rules}
use Rattle.ftd_store.specs.Finds.{IsAccountObligation}
use Rattle.ftd_sql.specs.declared.TableName.TheVariants.{Obligations}
use Rattle.ftd_sql.proofs.Meanings.{due_over_in_order}
use Rattle.ftd_store.specs.Cells.{day_number}
use Rattle.ftd_store.proofs.Same.{account_obligation_is}
use Rattle.ftd_store.proofs.Telling.{lists}
use Rattle.ftd_store.proofs.tx.Tx.due_over.Goals as goal

pub returns : goal.returns
returns g c = record {
  call = lists (λ xs. xs.items) Obligations _ (IsAccountObligation)
      (due_over_in_order (day_number c.args.day)) (λ x o passes. account_obligation_is x o)
      (search rules);
}
