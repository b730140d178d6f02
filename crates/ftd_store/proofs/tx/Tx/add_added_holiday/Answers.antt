use Rattle.std.proofs.Common.{rules}
use Rattle.ftd_days.specs.Calendar.{year_of}
use Rattle.ftd_store.specs.Rows.{holiday_row}
use Rattle.ftd_store.proofs.tx.Tx.add_added_holiday.Goals as goal

pub returns : goal.returns
returns g c =
    record {
      call = c.add.ensures.call (holiday_row (year_of c.args.day) c.args.day)
          (search rules);
    }
