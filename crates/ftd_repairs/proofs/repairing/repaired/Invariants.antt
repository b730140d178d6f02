use Rattle.std.proofs.Common.{◌≡◌, ◌≤◌, ◌<◌}
use Rattle.ftd_days.specs.Holidays.{holidays_of}
use Rattle.ftd_buckets.specs.Standing.{amount_held}
use Rattle.ftd_repairs.proofs.Begun.{IsBegun}
use Rattle.ftd_repairs.proofs.Fed.{Serves}
use Rattle.ftd_repairs.proofs.repairing.repaired.Given as goal

abbrev pub invariant-loop : goal.invariant-loop
invariant-loop g l = record {
  form : l.repair.form ≡ l.fn.form;
  asked : l.repair.asked ≡ l.window;
  held : amount_held l.repair ≤ l.total;
  small : l.total < 6_000_000_000_000_000;
  begun : IsBegun g.S.Store l.fn.tx l.tx (Serves l.fn.account l.fn.form l.fn.day l.fn.lines
      (holidays_of l.fn.holidays) l.repair l.window);
}
