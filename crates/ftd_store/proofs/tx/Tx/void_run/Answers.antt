use Rattle.std.proofs.Common.{rules}
use Rattle.ftd_sql.specs.declared.TableName.TheVariants.{Runs}
use Rattle.ftd_sql.proofs.Changing.{voids_run}
use Rattle.ftd_sql.proofs.Writing.{changing}
use Rattle.ftd_sql.proofs.Meanings.{run_voided}
use Rattle.ftd_store.proofs.Telling.{changes_one}
use Rattle.ftd_store.proofs.tx.Tx.void_run.Goals as goal

pub change_one-requires : goal.change_one-requires
change_one-requires g c = record { of_rows = changing _ _ _ _ _ _ voids_run }

pub returns : goal.returns
returns g c = record {
  call = changes_one Runs _ _ _ _ (run_voided _ _) c.change_one.ensures.frame (search rules);
}
