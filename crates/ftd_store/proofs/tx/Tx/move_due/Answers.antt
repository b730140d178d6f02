use Rattle.std.proofs.Common.{rules}
use Rattle.ftd_sql.specs.declared.TableName.TheVariants.{Obligations}
use Rattle.ftd_sql.proofs.Changing.{sets_due}
use Rattle.ftd_sql.proofs.Writing.{changing}
use Rattle.ftd_sql.proofs.Meanings.{due_set}
use Rattle.ftd_store.proofs.Telling.{changes_one}
use Rattle.ftd_store.proofs.tx.Tx.move_due.Goals as goal

pub change_one-requires : goal.change_one-requires
change_one-requires g c = record { of_rows = changing _ _ _ _ _ _ sets_due }

pub returns : goal.returns
returns g c = record {
  call = changes_one Obligations _ _ _ _ (due_set _ _ _) c.change_one.ensures.frame (search rules);
}
