use Rattle.std.proofs.Common.{ℕ, List, refl, subst}
use Rattle.ftd_days.specs.Holidays.{holidays_of}
use Rattle.ftd_store.proofs.Turning.{read_then_turn}
use Rattle.ftd_repairs.specs.Calendars.{HasHolidaysFrom}
use Rattle.ftd_repairs.proofs.Reposting.{has_lines}
use Rattle.ftd_repairs.proofs.retotaling.correct_lookback.Goals as goal

pub returns : goal.returns
returns g c =
    let known = c.in_ok-lines.field-0 in
    let holidays : List ℕ = holidays_of known.holidays in
    record {
      call = read_then_turn _ c.in_ok-lines.ensures.call
          (rw c.deref_mut.ensures.value at c.in_ok-difference.ensures.call)
          (λ e t u told retotals. record {
            lines = known.lines;
            listed = told.listed;
            holidays = holidays;
            read = subst (λ first. HasHolidaysFrom first known.lines.items holidays t)
                c.first_day.ensures told.read;
            retotals = retotals (has_lines c.args.account.now c.first_day.result known t t told
                refl);
          });
    }
