use Rattle.std.proofs.Common.{pos, false, rules}
use Rattle.ftd_store.specs.Rows.{run_row}
use Rattle.ftd_store.proofs.tx.Tx.add_run.Goals as goal

pub returns : goal.returns
returns g c = record {
  call = c.add.ensures.call (run_row c.args.account.now (pos c.args.number) c.args.run false)
      (search rules);
}
