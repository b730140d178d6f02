use Rattle.std.proofs.Common.{rules}
use Rattle.ftd_store.specs.Rows.{reported_row}
use Rattle.ftd_store.proofs.tx.Tx.add_reported.Goals as goal

pub returns : goal.returns
returns g c =
    record {
      call = c.add.ensures.call (reported_row c.args.account.now c.args.quarter c.args.cents)
          (search rules);
    }
