use Rattle.std.proofs.Common.{◌≡◌, rules, true}
use Rattle.ftd_store.proofs.Telling.{then_reads}
use Rattle.ftd_machine.specs.Limits.{are_rising}
use Rattle.ftd_kept.specs.Kept.{KnowsHolidays, told_days}
use Rattle.ftd_kept.proofs.HolidaysKnown.{knows_holidays}
use Rattle.ftd_kept.proofs.holiday_rows.all_holidays.Goals as goal

pub returns-in-Ok : goal.returns-in-Ok
returns-in-Ok g c =
    let year = c.args.year in
    let given = c.args.given.now in
    let added = c.in_ok-added.added in
    let changes = c.in_ok-changes.changes in
    let rows = c.in-Ok.rows in
    let rise : are_rising added.items ≡ true = search rules in
    let told : rows.items ≡ told_days changes.items given added.items = search rules in
    record {
      call = then_reads rows (λ xs. KnowsHolidays year given xs.items) c.in_ok-added.ensures.call
          c.in_ok-changes.ensures.call
          (λ t lists all. knows_holidays year given added changes rows.items t rise told lists all);
    }
