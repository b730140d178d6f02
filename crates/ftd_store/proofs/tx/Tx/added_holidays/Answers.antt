use Rattle.std.proofs.Common.{pos, rules}
use Rattle.ftd_store.specs.Finds.{IsHoliday}
use Rattle.ftd_sql.specs.declared.TableName.TheVariants.{AddedHolidays}
use Rattle.ftd_sql.proofs.Meanings.{added_holidays_in_order}
use Rattle.ftd_store.proofs.Same.{holiday_is}
use Rattle.ftd_store.proofs.Telling.{lists}
use Rattle.ftd_store.proofs.tx.Tx.added_holidays.Goals as goal

pub returns : goal.returns
returns g c = record {
  call = lists (λ xs. xs.items) AddedHolidays _ (IsHoliday c.args.year)
      (added_holidays_in_order (pos c.args.year)) (holiday_is c.args.year) (search rules);
}
