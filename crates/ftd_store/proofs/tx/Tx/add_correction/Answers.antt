use Rattle.std.proofs.Common.{rules}
use Rattle.ftd_store.specs.Rows.{correction_row}
use Rattle.ftd_store.proofs.tx.Tx.add_correction.Goals as goal

pub returns : goal.returns
returns g c =
    record {
      call = c.add.ensures.call (correction_row c.args.account.now c.args.quarter c.args.correction)
          (search rules);
    }
