use Rattle.ftd_entries.proofs.Ends.{migrated_kept}
use Rattle.ftd_entries.proofs.laws.migrated_tables_stand_for_the_same.Goals as goal

pub returns : goal.returns
returns c = migrated_kept
