use Rattle.std.proofs.Common.{rules}
use Rattle.ftd_sql.specs.declared.TableName.TheVariants.{Obligations}
use Rattle.ftd_sql.proofs.Changing.{sets_obligation}
use Rattle.ftd_sql.proofs.Writing.{changing}
use Rattle.ftd_sql.proofs.Meanings.{obligation_set}
use Rattle.ftd_store.proofs.Telling.{changes_one}
use Rattle.ftd_store.proofs.tx.Tx.set_obligation.Goals as goal

pub change_one-requires : goal.change_one-requires
change_one-requires g c = record { of_rows = changing _ _ _ _ _ _ sets_obligation }

pub returns : goal.returns
returns g c = record {
  call = changes_one Obligations _ _ _ _ (obligation_set _) c.change_one.ensures.frame
      (search rules);
}
