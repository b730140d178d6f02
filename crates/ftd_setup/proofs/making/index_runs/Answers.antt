use Rattle.ftd_sql.proofs.IndexTexts.{indexes_runs}
use Rattle.ftd_setup.proofs.Stepping.{steps_indexed, steps_kept}
use Rattle.ftd_setup.proofs.making.index_runs.Goals as goal

pub returns-in_ok-run : goal.returns-in_ok-run
returns-in_ok-run g c = record { step = steps_indexed indexes_runs c.in_ok-run.ensures.step }

pub returns-else-is_free : goal.returns-else-is_free
returns-else-is_free g c = record { step = steps_kept }
