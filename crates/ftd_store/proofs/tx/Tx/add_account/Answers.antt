use Rattle.std.proofs.Common.{rules}
use Rattle.ftd_store.specs.Rows.{account_row}
use Rattle.ftd_store.proofs.tx.Tx.add_account.Goals as goal

pub returns : goal.returns
returns g c =
    record {
      call = c.add.ensures.call (account_row c.args.name.now c.args.account)
          (search rules);
    }
