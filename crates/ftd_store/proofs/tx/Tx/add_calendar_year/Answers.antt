use Rattle.std.proofs.Common.{rules}
use Rattle.ftd_store.specs.Rows.{calendar_year_row}
use Rattle.ftd_store.proofs.tx.Tx.add_calendar_year.Goals as goal

pub returns : goal.returns
returns g c = record {
  call = c.add.ensures.call (calendar_year_row c.args.year)
      (search rules);
}
