use Rattle.std.proofs.Common.{◌≡◌, List, ℕ, [], refl, ap, ◌∙◌, append-nil, rules, arith}
use Rattle.ftd_sql.specs.declared.TableName.{TableName}
use Rattle.ftd_sql.specs.declared.TableName.TheVariants.{CalendarYears, Holidays}
use Rattle.ftd_sql.specs.Standing.{Tables, with_rows}
use Rattle.ftd_store.specs.Rows.{calendar_year_row, holiday_row}
use Rattle.ftd_store.specs.Changes.{adding, with_calendar}
use Rattle.ftd_store.proofs.Going.{call_fails_after, then_writes, writes_same}
use Rattle.ftd_store.proofs.Replaced.{one_more, all_taken}
use Rattle.ftd_store.proofs.tx.Tx.add_calendar.Goals as goal

-- the table with its own rows
own : (t : Tables) (n : TableName) → t n ≡ with_rows Holidays (t Holidays) t n
own t Holidays = refl
own t n = refl

pub loop-day-init : goal.loop-day-init
loop-day-init g c =
    let row = calendar_year_row c.args.year in
    writes_same (with_calendar c.args.year []) c.in_ok-add_calendar_year.ensures.call
    (λ t n. own (adding CalendarYears row t) n
    ∙ ap (λ rows. with_rows Holidays rows (adding CalendarYears row t) n)
    (rw (append-nil (t Holidays)) refl))

pub returns-in_err-add_holiday : goal.returns-in_err-add_holiday
returns-in_err-add_holiday g c = record {
  call = call_fails_after (search rules) c.loop-day.invariant c.in_err-add_holiday.ensures.call;
}

pub loop-day-preserved : goal.loop-day-preserved
loop-day-preserved g c =
    let year = c.args.year in
    then_writes _ _ c.loop-day.invariant c.in_ok-add_holiday.ensures.call
    (one_more Holidays (λ rows t. refl) (holiday_row year) (λ t. t Holidays)
    (adding CalendarYears (calendar_year_row year)) c.args.days.now c.loop-day.day-index
    c.day-item.result c.loop-day-test.true c.day-item.is)

pub returns : goal.returns
returns g c =
    let xs : List ℕ = c.args.days.now in
    let all = all_taken xs c.loop-day.day-index (omega (arith, c.loop-day-test.false)) in
    record {
      call = writes_same _ c.loop-day.invariant
          (λ t n. ap (λ days. with_calendar c.args.year days t n) all);
    }
