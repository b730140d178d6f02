-- The exit statuses of lines, one after the other.
use Rattle.std.specs.Prelude.{◌==◌, ◌&&◌, ◌||◌, ℕ, Bool, nat_lt, not, if◌then◌else◌}

abbrev pub greater : ℕ → ℕ → ℕ
greater status other = if nat_lt status other then other else status

-- a script ends where a line failed, and with --stop where one was not answered
abbrev pub is_last : Bool → ℕ → Bool
is_last has_stop status = (status == 3) || (has_stop && not (status == 0))
