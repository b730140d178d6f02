use Rattle.std.proofs.Common.{arith}
use Rattle.ftd_setup.proofs.Made.{IsExtended, HasForms, extended, formed, migrated_first}
use Rattle.ftd_setup.proofs.Stepping.{steps_then, steps_both}
use Rattle.ftd_setup.proofs.migrating.migrate_first.Goals as goal

pub returns : goal.returns
returns g c = record {
  step = steps_then (steps_both (tt {0}) (λ _ old new. HasForms old.now new.now)
      (steps_both (tt {0}) (λ _ old new. IsExtended 1 old.now new.now)
      (rw c.as_slice.ensures at c.in_ok-make_tables.ensures.step)
      c.in_ok-make_indexes.ensures.step (extended 1 _ _ _ (omega arith)))
      c.in_ok-give_forms.ensures.step (formed _ _ _)) c.set_version.ensures.step
      (λ _ before sets. migrated_first _ _ _ before sets);
}
