use Rattle.std.proofs.Common.{sym, subst, arith}
use Rattle.ftd_store.proofs.Going.{then_goes}
use Rattle.ftd_store.proofs.Telling.{reads_on, then_reads}
use Rattle.ftd_store.proofs.Turning.{gave_up_after}
use Rattle.ftd_entries.specs.Accounts.{KnowsAccounts}
use Rattle.ftd_kept.proofs.UnappliedKnown.{all_known, so_far_more}
use Rattle.ftd_kept.proofs.unapplied_rows.all_unapplied.Goals as goal

pub loop-account-init : goal.loop-account-init
loop-account-init g c = rw c.new-rows.ensures.items
    (reads_on tt _ c.in_ok-accounts.ensures.call (λ t known. record {
      known = subst (λ xs. KnowsAccounts xs t) (sym c.deref-account-items.ensures.value) known;
      are = λ s stands sound x. ((λ has. absurd has), (λ of. absurd of.1));
    }))

pub loop-account-preserved : goal.loop-account-preserved
loop-account-preserved g c =
    then_reads tt _ c.loop-account.invariant c.in_ok-own.ensures.call
    (λ t so_far knows. so_far_more _ _ c.loop-account.account-index c.account-item.result _ _ _ _ t
    c.loop-account-test.true c.account-item.is c.as_str.ensures c.in_default.ensures so_far knows)

pub returns-in-Err : goal.returns-in-Err
returns-in-Err g c = record {
  call = gave_up_after (then_goes (tt {0}) c.loop-account.invariant.frame
      c.in_ok-own.ensures.call.frame)
      c.give_up.ensures.frame c.give_up.ensures.fails;
}

pub returns : goal.returns
returns g c =
    let end = c.loop-account-test.false in
    record {
      call = reads_on c.loop-account.rows _ c.loop-account.invariant
          (λ t so_far. all_known _ _ c.loop-account.account-index _ t (omega arith) so_far);
    }
