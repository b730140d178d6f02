use Rattle.std.proofs.Common.{pos, rules}
use Rattle.ftd_store.specs.Corrections.{IsHolidayChange}
use Rattle.ftd_sql.specs.declared.TableName.TheVariants.{ChangedHolidays}
use Rattle.ftd_sql.proofs.Meanings.{holiday_changes_in_order}
use Rattle.ftd_store.proofs.SameCorrections.{holiday_change_is}
use Rattle.ftd_store.proofs.Telling.{lists}
use Rattle.ftd_store.proofs.tx.Tx.holiday_changes.Goals as goal

pub returns : goal.returns
returns g c = record {
  call = lists (λ xs. xs.items) ChangedHolidays _ (IsHolidayChange c.args.year)
      (holiday_changes_in_order (pos c.args.year)) (holiday_change_is c.args.year) (search rules);
}
