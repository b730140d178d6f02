-- The holidays of two years that were read.
use Rattle.std.proofs.Common.{ℕ, ◌+◌, ◌≤◌, List, inl, inr, arith}
use Rattle.std.proofs.lemmas.Bool.{cases_lt}
use Rattle.ftd_days.specs.Calendar.{year_start}
use Rattle.ftd_days.proofs.Months.{year_is}
use Rattle.ftd_sql.specs.Standing.{Tables}
use Rattle.ftd_store.specs.Holidays.{HasYears}
use Rattle.ftd_machine.specs.Sound.{IsSound}
use Rattle.ftd_machine.specs.State.{State, holidays}
use Rattle.ftd_entries.specs.Standing.{StandsFor}
use Rattle.ftd_entries.proofs.YearHolidays.{holiday_read}
use Rattle.ftd_entries.proofs.ReturnDates.{AgreeIn}

-- those that were read agree with all in the year and the next
pub years_agree : (read : List ℕ) (year : ℕ) → 2001 ≤ year → year ≤ 2098 → (t : Tables) (s : State)
    → StandsFor t s → IsSound s → HasYears year (year + 1) read t → AgreeIn year read (holidays s)
years_agree read year from_2001 to_2098 t s stands sound years day low high =
    elim (cases_lt day (year_start (year + 1))) [
      | inl this ↦ holiday_read t s stands sound read year day
          (years year (omega arith) (omega arith))
          (year_is year day (omega arith) (omega arith) low this)
      | inr next ↦ holiday_read t s stands sound read (year + 1) day
          (years (year + 1) (omega arith) (omega arith))
          (year_is (year + 1) day (omega arith) (omega arith) next high)
    ]
