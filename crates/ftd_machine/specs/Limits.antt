-- The limits of what a request may say.
use Rattle.std.specs.Prelude.{ℕ, ◌==◌, ◌&&◌, nat_le, nat_lt, Bool, List, length, drop, zip}
use Rattle.std.specs.List.{list_all}
use Rattle.ftd_days.specs.Calendar.{year_of}
use Rattle.ftd_days.specs.declared.cents.Cents.{Cents}
use Rattle.ftd_days.specs.declared.limits.TheConstants.{FIRST_YEAR, LAST_OPEN_YEAR, LAST_YEAR}
use Rattle.ftd_days.specs.declared.limits.TheConstants.{MOST_HOLIDAYS}
use Rattle.ftd_rules.specs.declared.TheConstants.{MOST_CENTS}
use Rattle.ftd_machine.specs.declared.limits.TheConstants.{FIRST_REPORTED_YEAR, MOST_NUMBER}
use Rattle.ftd_rules.specs.declared.run.PayRun.{PayRun}

-- the year is one of these
abbrev pub is_between : ℕ → ℕ → ℕ → Bool
is_between from to year = nat_le from year && nat_le year to

-- a year that may be opened: pay runs are of such years
abbrev pub can_be_opened : ℕ → Bool
can_be_opened year = is_between FIRST_YEAR LAST_OPEN_YEAR year

-- a year whose holidays may be given
abbrev pub can_have_calendar : ℕ → Bool
can_have_calendar year = is_between FIRST_YEAR LAST_YEAR year

-- a year whose total, or that of its quarters, may be reported: a lookback period begins up to two
-- years before the year that it is for
abbrev pub can_be_reported : ℕ → Bool
can_be_reported year = is_between FIRST_REPORTED_YEAR LAST_OPEN_YEAR year

-- an amount that a request may name: at most 999,999,999.99
abbrev pub is_amount : Cents → Bool
is_amount cents = nat_le cents.0 MOST_CENTS

-- the three amounts of a run
abbrev pub are_amounts : PayRun → Bool
are_amounts run = is_amount run.fit && (is_amount run.ss && is_amount run.medicare)

-- the number of a run or of a payment
abbrev pub is_number : ℕ → Bool
is_number number = nat_le 1 number && nat_le number MOST_NUMBER

-- each day is before the next
abbrev pub are_rising : List ℕ → Bool
are_rising days = list_all (λ (day, next). nat_lt day next) (zip days (drop 1 days))

-- a calendar: at most 60 days of the year, rising
abbrev pub is_calendar : ℕ → List ℕ → Bool
is_calendar year days =
    nat_le (length days) MOST_HOLIDAYS
    && (list_all (λ day. year_of day == year) days && are_rising days)
