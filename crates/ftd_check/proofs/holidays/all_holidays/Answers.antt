use Rattle.std.proofs.Common.{◌+◌, ap, arith}
use Rattle.ftd_days.specs.Holidays.{holidays_of}
use Rattle.ftd_days.specs.declared.limits.TheConstants.{FIRST_YEAR}
use Rattle.ftd_store.proofs.Telling.{reads_on, then_reads}
use Rattle.ftd_check.specs.Holidays.{KnowsAll}
use Rattle.ftd_check.proofs.HolidaysKept.{KnowsBefore, first_known, one_more_known, all_known}
use Rattle.ftd_check.proofs.holidays.all_holidays.Goals as goal

pub loop-year-init : goal.loop-year-init
loop-year-init g c =
    let new = holidays_of c.add_holidays.new.holidays in
    record {
      call = reads_on tt (λ done. KnowsBefore (FIRST_YEAR + 1) new)
          c.in_ok-add_holidays.ensures.call
          (λ t adds. first_known (holidays_of c.new-holidays.result) new _ t
          (ap holidays_of c.new-holidays.ensures) adds);
    }

pub loop-year-preserved : goal.loop-year-preserved
loop-year-preserved g c =
    let year = c.loop-year.year in
    let new = holidays_of c.add_holidays-in-loop-year.new.holidays in
    record {
      call = then_reads tt (λ done. KnowsBefore (year + 1) new) c.loop-year.invariant.call
          c.in_ok-add_holidays-2.ensures.call
          (λ t before adds. one_more_known year (holidays_of c.loop-year.holidays) new _ t before
          adds);
    }

pub returns : goal.returns
returns g c =
    let year = c.loop-year.year in
    let through = c.loop-year-test.false in
    record {
      call = reads_on _ (λ hs. KnowsAll (holidays_of hs)) c.loop-year.invariant.call
          (λ t before. all_known year (holidays_of c.loop-year.holidays) t (omega arith) before);
    }
