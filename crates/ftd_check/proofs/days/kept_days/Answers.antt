use Rattle.std.proofs.Common.{None}
use Rattle.ftd_store.proofs.Telling.{reads_on}
use Rattle.ftd_check.specs.Days.{ReadsDays}
use Rattle.ftd_check.proofs.DaysKept.{kept_told}
use Rattle.ftd_check.proofs.days.kept_days.Goals as goal

pub returns-in_default : goal.returns-in_default
returns-in_default g c = record {
  call = reads_on None ReadsDays c.in_ok-rows.ensures.call (λ t told. (rw c.in_default.is at told));
}

pub returns-in-Ok : goal.returns-in-Ok
returns-in-Ok g c = record {
  call = reads_on c.in-Ok.kept ReadsDays c.in_ok-rows.ensures.call
      (λ t told. kept_told c.in-Some.rows c.in-Ok.kept t (rw c.in-Some.is at told) c.in-Ok.ensures);
}
