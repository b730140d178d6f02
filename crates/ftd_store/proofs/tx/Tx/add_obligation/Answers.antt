use Rattle.std.proofs.Common.{rules}
use Rattle.ftd_store.specs.Rows.{obligation_row}
use Rattle.ftd_store.proofs.tx.Tx.add_obligation.Goals as goal

pub returns : goal.returns
returns g c =
    record {
      call = c.add.ensures.call (obligation_row c.args.account.now c.args.obligation)
          (search rules);
    }
