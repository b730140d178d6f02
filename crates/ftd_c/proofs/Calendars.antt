-- The holidays of calendars are days.
use Rattle.std.proofs.Common.{ℕ, ◌+◌, ◌≤◌, List, get_or, arith}
use Rattle.std.specs.Prelude.{All}
use Rattle.ftd_days.specs.Calendar.{last_day}
use Rattle.ftd_days.specs.Holidays.{YearDays, MayAdd}
use Rattle.ftd_days.proofs.Months.{early_year}
use Rattle.ftd_c.specs.Calls.{AreCalendars}

are_days : (given : List YearDays) (year : ℕ) (days : List ℕ) → MayAdd given year days
    → All (λ n. n ≤ last_day) days
are_days given year days may k d within =
    let to = may.is_year.to in
    let same = may.is_year.in_year k d within in
    let early = early_year (get_or days k d) (omega arith) in
    omega arith

pub this_are_days : (year : ℕ) (this_year next_year : List ℕ)
    → AreCalendars year this_year next_year
    → All (λ n. n ≤ last_day) this_year
this_are_days year this_year next_year calendars = are_days _ year this_year calendars.first

pub next_are_days : (year : ℕ) (this_year next_year : List ℕ)
    → AreCalendars year this_year next_year
    → All (λ n. n ≤ last_day) next_year
next_are_days year this_year next_year calendars = are_days _ (year + 1) next_year calendars.second
