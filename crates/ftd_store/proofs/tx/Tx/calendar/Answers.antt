use Rattle.std.proofs.Common.{pos, None, Some, Ok, rules}
use Rattle.ftd_store.specs.Finds.{IsHoliday}
use Rattle.ftd_sql.specs.declared.TableName.TheVariants.{Holidays}
use Rattle.ftd_sql.proofs.Meanings.{holidays_in_order}
use Rattle.ftd_store.proofs.Same.{holiday_is}
use Rattle.ftd_store.proofs.Telling.{lists, reads_on, then_reads}
use Rattle.ftd_store.proofs.tx.Tx.calendar.Goals as goal

pub returns-then-not-branch : goal.returns-then-not-branch
returns-then-not-branch g c = record {
  call = reads_on None _ c.in_ok-has_calendar.ensures.call (λ t is. rw c.if-not-branch.true at is);
}

pub returns : goal.returns
returns g c = record {
  call = then_reads (Some c.in_ok-days.days) _ c.in_ok-has_calendar.ensures.call
      (lists {result = Ok c.in_ok-days.days} (λ xs. xs.items) Holidays _ (IsHoliday c.args.year)
      (holidays_in_order (pos c.args.year))
      (holiday_is c.args.year) (search rules))
      (λ t there is. (rw c.if-not-branch.false at there, is));
}
