use Rattle.std.proofs.Common.{◌≡◌, ◌++◌, map, take}
use Rattle.ftd_machine.specs.Journal.{holiday_added}
use Rattle.ftd_journal.proofs.days.add_days.Given as goal

abbrev pub invariant-loop-day : goal.invariant-loop-day
invariant-loop-day l =
    l.requests.items ≡ l.fn.requests.items ++ map holiday_added (take l.day-index l.days)
