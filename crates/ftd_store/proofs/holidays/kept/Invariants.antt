use Rattle.std.proofs.Common.{◌≡◌, ◌++◌, drop, filter}
use Rattle.ftd_store.specs.Holidays.{is_kept}
use Rattle.ftd_store.proofs.holidays.kept.Given as goal

abbrev pub invariant-loop-day : goal.invariant-loop-day
invariant-loop-day l =
    l.kept.items ++ filter (is_kept l.changes) (drop l.day-index l.days)
    ≡ filter (is_kept l.changes) l.days
