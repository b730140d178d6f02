use Rattle.std.proofs.Common.{◌≡◌, ◌++◌, map, take}
use Rattle.ftd_kept.specs.Kept.{told_holiday}
use Rattle.ftd_kept.proofs.holiday_rows.add_days.Given as goal

abbrev pub invariant-loop-day : goal.invariant-loop-day
invariant-loop-day l =
    l.rows.items ≡ l.fn.rows.items
    ++ map (told_holiday l.changes l.added) (take l.day-index l.days)
