use Rattle.std.proofs.Common.{rules}
use Rattle.ftd_store.specs.Rows.{form_row}
use Rattle.ftd_store.proofs.tx.Tx.add_form.Goals as goal

pub returns : goal.returns
returns g c = record {
  call = c.add.ensures.call (form_row c.args.account.now c.args.form)
      (search rules);
}
