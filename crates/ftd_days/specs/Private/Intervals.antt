-- Intervals by arithmetic on the weekday, which is counted from Wednesday on.
use Rattle.std.specs.Prelude.{ℕ, ◌+◌, ◌-◌, ◌%◌, nat_lt, if◌then◌else◌}

-- how many days a day is after the Wednesday or Saturday that begins its interval
abbrev pub days_into_interval : ℕ → ℕ
days_into_interval day =
    let since_wednesday = (day + 5) % 7 in
    if nat_lt since_wednesday 3 then since_wednesday else since_wednesday - 3

-- the first and the last day of the interval
abbrev pub interval_start : ℕ → ℕ
interval_start day = day - days_into_interval day

abbrev pub interval_close : ℕ → ℕ
interval_close day =
    let since_wednesday = (day + 5) % 7 in
    if nat_lt since_wednesday 3 then day + 2 - since_wednesday else day + 6 - since_wednesday
