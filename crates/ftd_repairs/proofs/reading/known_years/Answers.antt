use Rattle.std.proofs.Common.{◌≡◌, ◌<◌, ◌≤◌, ◌+◌, ℕ, List, Vec, Global, arith}
use Rattle.ftd_days.specs.Calendar.{year_of}
use Rattle.ftd_days.specs.Holidays.{holidays_of}
use Rattle.ftd_rules.specs.declared.YearLine.{YearLine}
use Rattle.ftd_rules.specs.Lists.{Has}
use Rattle.ftd_rules.proofs.Schedules.{years_within}
use Rattle.ftd_sql.specs.Standing.{Tables}
use Rattle.ftd_store.specs.Finds.{ListsYears}
use Rattle.ftd_store.specs.Holidays.{HasYears}
use Rattle.ftd_store.proofs.Telling.{then_reads}
use Rattle.ftd_repairs.specs.Calendars.{HasHolidaysFrom, KnowsYears}
use Rattle.ftd_repairs.proofs.reading.known_years.Goals as goal

-- the years up to one after each line have those of the lines
of_lines : (name : List ℕ) (day first end : ℕ) (lines : Vec YearLine Global) (holidays : List ℕ)
    (t : Tables) → first ≡ year_of day → ((line : YearLine) → Has lines.items line
    → line.year ≤ 2098 → line.year < end)
    → ListsYears name lines t → HasYears first end holidays t
    → HasHolidaysFrom day lines.items holidays t
of_lines name day first end lines holidays t is before listed read line has late =
    let early = (years_within listed.whole.0 lines.items line listed.whole.2 has).1 in
    let less = before line has early in
    (read line.year (omega arith) (omega arith), read (line.year + 1) (omega arith) (omega arith))

pub returns : goal.returns
returns g c =
    let name = c.args.account.now in
    let day = c.args.day in
    let lines = c.in_ok-lines.lines in
    let first = c.year.result in
    let end = c.year_after.result in
    let holidays : List ℕ = holidays_of c.in_ok-holidays.holidays in
    let before : (line : YearLine) → Has lines.items line → line.year ≤ 2098 → line.year < end =
    rw c.deref.ensures.value at c.year_after.ensures in
    record {
      call = then_reads _ (KnowsYears name day) c.in_ok-lines.ensures.call
          c.in_ok-holidays.ensures.call (λ t listed read. record {
            listed = listed;
            read = of_lines name day first end lines holidays t c.year.ensures before listed read;
          });
    }
