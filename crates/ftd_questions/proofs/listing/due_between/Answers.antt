use Rattle.std.proofs.Common.{sym, subst, arith}
use Rattle.ftd_store.proofs.Going.{then_goes}
use Rattle.ftd_store.proofs.Telling.{reads_on, then_reads}
use Rattle.ftd_store.proofs.Turning.{gave_up_after}
use Rattle.ftd_entries.specs.Accounts.{KnowsAccounts}
use Rattle.ftd_questions.proofs.ByAccount.{due_known_all, so_far_due_more, so_far_due_none}
use Rattle.ftd_questions.proofs.listing.due_between.Goals as goal

pub loop-account-init : goal.loop-account-init
loop-account-init g c = rw c.new-listed.ensures.items
    (reads_on tt _ c.in_ok-accounts.ensures.call (λ t known. so_far_due_none c.args.unpaid c.args.from
    c.args.to _ t (subst (λ xs. KnowsAccounts xs t) (sym c.deref-account-items.ensures.value)
    known)))

pub loop-account-preserved : goal.loop-account-preserved
loop-account-preserved g c =
    then_reads tt _ c.loop-account.invariant c.in_ok-owed.ensures.call
    (λ t so_far knows. so_far_due_more _ _ _ _ c.loop-account.account-index c.account-item.result
    _ _ c.in_ok-owed.owed.items _ _ t c.loop-account-test.true c.account-item.is
    c.as_str-name.ensures c.deref.ensures.value c.in_default.ensures so_far knows)

pub returns-in-Err : goal.returns-in-Err
returns-in-Err g c = record {
  call = gave_up_after (then_goes (tt {0}) c.loop-account.invariant.frame
      c.in_ok-owed.ensures.call.frame)
      c.give_up.ensures.frame c.give_up.ensures.fails;
}

pub returns : goal.returns
returns g c =
    let end = c.loop-account-test.false in
    record {
      call = reads_on c.loop-account.listed _ c.loop-account.invariant
          (λ t so_far. due_known_all _ _ _ _ c.loop-account.account-index _ t (omega arith) so_far);
    }
