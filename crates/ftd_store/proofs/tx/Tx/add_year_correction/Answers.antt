use Rattle.std.proofs.Common.{rules}
use Rattle.ftd_store.specs.Rows.{year_correction_row}
use Rattle.ftd_store.proofs.tx.Tx.add_year_correction.Goals as goal

pub returns : goal.returns
returns g c =
    record {
      call = c.add.ensures.call
          (year_correction_row c.args.account.now c.args.year c.args.correction)
          (search rules);
    }
