use Rattle.std.proofs.Common.{arith}
use Rattle.ftd_setup.proofs.Made.{IsExtended, extended, migrated_second}
use Rattle.ftd_setup.proofs.Stepping.{steps_then, steps_both}
use Rattle.ftd_setup.proofs.migrating.migrate_second.Goals as goal

pub returns : goal.returns
returns g c = record {
  step = steps_then (steps_both (tt {0}) (λ _ old new. IsExtended 2 old.now new.now)
      (rw c.as_slice.ensures at c.in_ok-make_tables.ensures.step)
      c.in_ok-make_indexes.ensures.step (extended 2 _ _ _ (omega arith)))
      c.set_version.ensures.step (λ _ before sets. migrated_second _ _ _ before sets);
}
