use Rattle.std.proofs.Common.{◌≤◌, ◌+◌}
use Rattle.ftd_waiting.specs.Rooms.{count_of}
use Rattle.ftd_waiting.proofs.room.WaitingRoom.next.Given as goal

abbrev pub invariant-loop-turn : goal.invariant-loop-turn
invariant-loop-turn g l =
    count_of l.fn.self ≤ l.others + 1 → count_of l.self ≤ l.others + 1
