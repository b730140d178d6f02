use Rattle.std.proofs.Common.{refl}
use Rattle.ftd_store.proofs.Going.{then_writes}
use Rattle.ftd_entries.specs.Known.{with_enrolled}
use Rattle.ftd_entries.proofs.accounts.add.Goals as goal

pub returns : goal.returns
returns g c = record {
  call = then_writes _ (with_enrolled c.args.name.now c.args.account)
      c.in_ok-add_account.ensures.call c.in_ok-add_form.ensures.call (λ t n. refl);
}
