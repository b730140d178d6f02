use Rattle.std.proofs.Common.{◌≡◌, ◌≤◌, ◌+◌}
use Rattle.ftd_waiting.specs.Rooms.{count_of}
use Rattle.ftd_waiting.proofs.room.WaitingRoom.admit.Given as goal

abbrev pub invariant-loop-place : goal.invariant-loop-place
invariant-loop-place g l =
    (count_of l.self ≡ l._place)
    × (count_of l.fn.self ≤ l.others + 1 → count_of l.self ≤ l.others + 1)
