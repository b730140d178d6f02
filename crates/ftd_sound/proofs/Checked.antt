-- What the check of a calendar says of it.
use Rattle.std.proofs.Common.{◌≡◌, ℕ, Bool, true, false, List, None, Ok, Err, Result, refl}
use Rattle.std.specs.Prelude.{◌&&◌, is_ok}
use Rattle.ftd_machine.specs.Checks.{Answer, Passes}
use Rattle.ftd_machine.specs.Limits.{can_have_calendar, is_calendar}
use Rattle.ftd_machine.specs.Requests.{calendar_checks}

by_tests : (year : ℕ) (days : List ℕ) (a b : Bool) → can_have_calendar year ≡ a
    → is_calendar year days ≡ b → (result : Result (Unit {0}) Answer)
    → Passes (calendar_checks year days None) result → is_ok result ≡ (a && b)
by_tests year days true true x y (Ok u) passes = refl
by_tests year days true true x y (Err answer) passes = absurd (let no = rw (x, y) at passes in cc)
by_tests year days true false x y (Ok u) passes = absurd (let no = rw (x, y) at passes in cc)
by_tests year days true false x y (Err answer) passes = refl
by_tests year days false b x y (Ok u) passes = absurd (let no = rw x at passes in cc)
by_tests year days false b x y (Err answer) passes = refl

-- a calendar of a year that is not known passes exactly where its year and its days may be given
pub calendar_passes : (year : ℕ) (days : List ℕ) (result : Result (Unit {0}) Answer)
    → Passes (calendar_checks year days None) result
    → is_ok result ≡ (can_have_calendar year && is_calendar year days)
calendar_passes year days = by_tests year days (can_have_calendar year) (is_calendar year days)
    refl refl
