use Rattle.std.proofs.Common.{rules}
use Rattle.ftd_store.specs.Rows.{reported_year_row}
use Rattle.ftd_store.proofs.tx.Tx.add_reported_year.Goals as goal

pub returns : goal.returns
returns g c =
    record {
      call = c.add.ensures.call (reported_year_row c.args.account.now c.args.year c.args.cents)
          (search rules);
    }
