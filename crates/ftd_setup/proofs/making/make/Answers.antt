use Rattle.ftd_setup.proofs.Made.{IsUntagged, untagged, made}
use Rattle.ftd_setup.proofs.Stepping.{steps_both}
use Rattle.ftd_setup.proofs.making.make.Goals as goal

pub returns : goal.returns
returns g c = record {
  step = steps_both (tt {0}) _ (steps_both (tt {0}) (λ _ old new. IsUntagged old.now new.now)
      (rw c.as_slice.ensures at c.in_ok-make_tables.ensures.step)
      c.in_ok-make_indexes.ensures.step (untagged _ _ _)) c.in_ok-run.ensures.step
      (λ before ran. made _ _ _ _ before
      (rw (c.params-to_sql.ensures, c.params-to_sql-2.ensures) at ran));
}
