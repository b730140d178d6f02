use Rattle.std.proofs.Common.{◌≡◌, ◌<◌, ◌+◌}
use Rattle.ftd_days.specs.Calendar.{year_start}
use Rattle.ftd_days.specs.Holidays.{holidays_of}
use Rattle.ftd_repairs.proofs.Begun.{IsBegun}
use Rattle.ftd_repairs.proofs.YearsAnew.{Through}
use Rattle.ftd_repairs.proofs.reopening.reopened.Given as goal

abbrev pub invariant-loop-line : goal.invariant-loop-line
invariant-loop-line g l = record {
  to : l.known.to + 1 ≡ year_start (l.fn.year + l.line-index);
  small : l.known.total < 6_000_000_000_000_000;
  begun : IsBegun g.S.Store l.fn.tx l.tx (Through l.fn.account l.fn.form l.fn.year l.fn.lines
      (holidays_of l.fn.holidays) (l.fn.year + l.line-index) l.known);
}
