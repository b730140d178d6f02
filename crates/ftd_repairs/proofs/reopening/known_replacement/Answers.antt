use Rattle.ftd_store.proofs.Telling.{reads_on}
use Rattle.ftd_repairs.specs.Anew.{ReplacesFrom}
use Rattle.ftd_repairs.proofs.reopening.known_replacement.Goals as goal

pub returns : goal.returns
returns g c =
    let name = c.args.account.now in
    let patch = c.patch_from-patch.result in
    record {
      call = reads_on (record { patch = patch; gone = c.in_ok-gone.gone })
          (ReplacesFrom name c.args.from c.args.known) c.in_ok-gone.ensures.call
          (λ t gone. (c.patch_from-patch.ensures, gone));
    }
