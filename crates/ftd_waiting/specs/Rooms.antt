-- How many connections wait.
use Rattle.std.specs.Prelude.{ℕ, vec_len}
use Rattle.ftd_waiting.specs.declared.room.WaitingRoom.{WaitingRoom}

-- how many connections were accepted and wait for their turn
abbrev pub count_of : WaitingRoom → ℕ
count_of room = vec_len room.waiting
