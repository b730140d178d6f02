use Rattle.std.proofs.Common.{None, Some, rules}
use Rattle.ftd_store.proofs.Telling.{reads_on, then_reads}
use Rattle.ftd_entries.proofs.Reading.{fails_after_three, three_told, four_told}
use Rattle.ftd_check.specs.Private.ReadDayRows.{ReadsDayRows}
use Rattle.ftd_check.proofs.DaysKept.{no_added, no_changes, no_holidays, no_years}
use Rattle.ftd_check.proofs.day_rows.day_rows.Goals as goal

pub returns-in_default : goal.returns-in_default
returns-in_default g c = record {
  call = reads_on None ReadsDayRows c.in_ok-years.ensures.call
      (λ t years. no_years t c.in_ok-years.field-0 c.in_default.is years);
}

pub returns-in_default-2 : goal.returns-in_default-2
returns-in_default-2 g c = record {
  call = then_reads None ReadsDayRows c.in_ok-years.ensures.call c.in_ok-holidays.ensures.call
      (λ t years holidays. no_holidays t c.in_ok-holidays.field-0 c.in_default-2.is holidays);
}

pub returns-in_default-3 : goal.returns-in_default-3
returns-in_default-3 g c = record {
  call = three_told c.in_ok-years.ensures.call c.in_ok-holidays.ensures.call
      c.in_ok-added.ensures.call None ReadsDayRows
      (λ t years holidays added. no_added t c.in_ok-added.field-0 c.in_default-3.is added);
}

pub returns-in_default-4 : goal.returns-in_default-4
returns-in_default-4 g c = record {
  call = four_told c.in_ok-years.ensures.call c.in_ok-holidays.ensures.call
      c.in_ok-added.ensures.call None ReadsDayRows c.in_ok-changes.ensures.call
      (λ t years holidays added changes.
      no_changes t c.in_ok-changes.field-0 c.in_default-4.is changes);
}

pub returns-in_err-changes : goal.returns-in_err-changes
returns-in_err-changes g c = record {
  call = fails_after_three c.in_ok-years.ensures.call c.in_ok-holidays.ensures.call
      c.in_ok-added.ensures.call (search rules) c.in_err-changes.ensures.call.frame;
}

pub returns : goal.returns
returns g c = record {
  call = four_told c.in_ok-years.ensures.call c.in_ok-holidays.ensures.call
      c.in_ok-added.ensures.call (Some _) ReadsDayRows c.in_ok-changes.ensures.call
      (λ t years holidays added changes. record {
        years = rw c.in-Some.is at years;
        holidays = rw c.in-Some-2.is at holidays;
        added = rw c.in-Some-3.is at added;
        changes = rw c.in-Some-4.is at changes;
      });
}
