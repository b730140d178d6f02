use Rattle.std.proofs.Common.{◌+◌, ◌-◌, ℕ, List, Ok, ap, arith}
use Rattle.ftd_days.specs.Holidays.{holidays_of}
use Rattle.ftd_sql.specs.Standing.{Tables}
use Rattle.ftd_store.specs.Frame.{Reads}
use Rattle.ftd_store.proofs.Telling.{then_reads}
use Rattle.ftd_posting.specs.Known.{KnowsHolidays}
use Rattle.ftd_posting.proofs.ReadYears.{AddsKeptYear, adds_kept, three_years}
use Rattle.ftd_posting.proofs.reading.holidays_about.Goals as goal

pub returns : goal.returns
returns g c =
    let day = c.args.day in
    let year = c.year-year.result in
    let is = c.year-year.ensures in
    let none : List ℕ = holidays_of c.new-holidays.result in
    let before : List ℕ = holidays_of c.add_holidays.new.holidays in
    let here : List ℕ = holidays_of c.add_holidays-2.new.holidays in
    let after : List ℕ = holidays_of c.add_holidays-3.new.holidays in
    let Two : Tables → Type 0 = λ t. AddsKeptYear (year - 1) none before t
    × AddsKeptYear year before here t in
    let two : Reads g.S.Store c.args.tx.now c.add_holidays-2.new.self (Ok (tt {0})) (λ done. Two) =
    then_reads tt (λ done. Two) c.in_ok-add_holidays.ensures.call
    c.in_ok-add_holidays-2.ensures.call (λ t a b. (
      adds_kept (year - 1) none before c.in_ok-add_holidays.field-0 t a,
      adds_kept year before here c.in_ok-add_holidays-2.field-0 t b,
    )) in
    record {
      call = then_reads _ (λ x t. KnowsHolidays day (holidays_of x) t) two
          c.in_ok-add_holidays-3.ensures.call
          (λ t k three. three_years day year none before here after t is (omega arith)
          (ap holidays_of c.new-holidays.ensures) k.0 k.1
          (adds_kept (year + 1) here after c.in_ok-add_holidays-3.field-0 t three));
    }
