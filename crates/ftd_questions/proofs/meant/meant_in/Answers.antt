use Rattle.std.proofs.Common.{subst}
use Rattle.ftd_store.proofs.Telling.{reads_on}
use Rattle.ftd_questions.specs.Nearest.{IsNearestOf, KnowsMeant, names_of}
use Rattle.ftd_questions.proofs.meant.meant_in.Goals as goal

pub returns-in-Ok : goal.returns-in-Ok
returns-in-Ok g c =
    let accounts = c.in_ok-accounts.accounts in
    let found = c.in-Ok.found in
    let near = subst (λ xs. IsNearestOf (names_of xs) c.args.typed.now found)
    c.deref.ensures.value c.in-Ok.ensures in
    record {
      call = reads_on found (KnowsMeant c.args.typed.now) c.in_ok-accounts.ensures.call
          (λ t known s stands sound. record {
            accounts = accounts.items;
            by_name = known.by_name;
            all = known.all s stands sound;
            nearest = near;
          });
    }
