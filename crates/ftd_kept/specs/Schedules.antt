-- The deposit schedule of a day, by the lines of an account's open years.
use Rattle.std.specs.Prelude.{◌≡◌, ℕ, List}
use Rattle.ftd_days.specs.Calendar.{year_of}
use Rattle.ftd_rules.specs.declared.YearLine.{YearLine}
use Rattle.ftd_rules.specs.Lists.{Has}
use Rattle.ftd_rules.specs.Years.{HasSchedule, HasStatusOn}
use Rattle.ftd_machine.specs.Told.{status_answer}
use Rattle.ftd_machine.specs.Asking.{IsReason}
use Rattle.ftd_machine.specs.Checks.{Answer}
use Rattle.ftd_kept.specs.declared.schedules.Schedule.{Schedule}

-- each line has the opening and the turn that some liability gives it
abbrev pub AreScheduled : List YearLine → Type 0
AreScheduled lines =
    (liability : ℕ → ℕ → ℕ)
    × ((line : YearLine) → Has lines line → HasSchedule lines liability line)

-- it is the schedule of the day by the line of its year, and why
pub record IsScheduleBy (lines : List YearLine) (day : ℕ) (schedule : Schedule) : Type 0 where
  pub line : YearLine
  pub open_year : Has lines line
  pub of_day : line.year ≡ year_of day
  pub has_status : HasStatusOn line day schedule.kind
  pub is_why : IsReason lines line schedule.kind schedule.reason

-- the answer is that
pub record IsStatusBy (lines : List YearLine) (day : ℕ) (answer : Answer) : Type 0 where
  pub schedule : Schedule
  pub is_schedule : IsScheduleBy lines day schedule
  pub told : answer ≡ status_answer day schedule.kind schedule.reason
