use Rattle.std.proofs.Common.{◌≡◌, [], take, drop}
use Rattle.std.specs.List.{list_all}
use Rattle.ftd_entries.specs.Standing.{with_earlier}
use Rattle.ftd_check.specs.Private.DayRows.{is_numbered}
use Rattle.ftd_check.proofs.changes.are_numbered.Given as goal

-- those that are left decide
abbrev pub invariant-loop-i : goal.invariant-loop-i
invariant-loop-i l =
    list_all is_numbered (with_earlier [] l.changes)
    ≡ list_all is_numbered (with_earlier (take l.i l.changes) (drop l.i l.changes))
