use Rattle.std.proofs.Common.{Ok}
use Rattle.ftd_days.specs.Holidays.{holidays_of}
use Rattle.ftd_store.specs.Frame.{Reads}
use Rattle.ftd_check.proofs.HolidaysKept.{KnowsBefore}
use Rattle.ftd_check.proofs.holidays.all_holidays.Given as goal

abbrev pub invariant-loop-year : goal.invariant-loop-year
invariant-loop-year g l = record {
  call : Reads g.S.Store l.fn.tx l.tx (Ok (tt {0}))
      (λ done. KnowsBefore l.year (holidays_of l.holidays));
}
