use Rattle.std.proofs.Common.{sym, subst, arith}
use Rattle.std.specs.Prelude.{filter}
use Rattle.ftd_sql.specs.Orders.{NamesRise}
use Rattle.ftd_sql.specs.Tests.{is_any_account}
use Rattle.ftd_sql.specs.declared.TableName.TheVariants.{Accounts}
use Rattle.ftd_store.specs.Lists.{Lists}
use Rattle.ftd_store.specs.Kept.{IsNamedAccount}
use Rattle.ftd_store.proofs.Going.{then_goes}
use Rattle.ftd_store.proofs.Telling.{reads_on, then_reads}
use Rattle.ftd_store.proofs.Turning.{gave_up_after}
use Rattle.ftd_entries.proofs.KeptEnrolled.{told_more, told_all}
use Rattle.ftd_entries.proofs.account_list.accounts_in_force.Goals as goal

pub loop-row-init : goal.loop-row-init
loop-row-init g c = rw c.new-rows.ensures.items
    (reads_on tt _ c.in_ok-named.ensures.call (λ t lists. (
      subst (Lists NamesRise IsNamedAccount (filter is_any_account (t Accounts)))
          (sym c.deref-row-items.ensures.value) lists,
      tt,
    )))

pub loop-row-preserved : goal.loop-row-preserved
loop-row-preserved g c =
    then_reads tt _ c.loop-row.invariant c.in_ok-account.ensures.call
    (λ t so_far knows. told_more _ c.loop-row.row-index c.row-item.result _ _
    c.in_ok-account.field-0 c.in-Some.account _ _ t c.loop-row-test.true c.row-item.is
    c.deref.ensures c.deref-in-loop-row.ensures c.in-Some.is c.in_default-add_account.ensures so_far
    knows)

pub returns-in-Err : goal.returns-in-Err
returns-in-Err g c = record {
  call = gave_up_after (then_goes (tt {0}) c.loop-row.invariant.frame
      c.in_ok-account.ensures.call.frame)
      c.give_up-in-Err.ensures.frame c.give_up-in-Err.ensures.fails;
}

pub returns : goal.returns
returns g c =
    let end = c.loop-row-test.false in
    record {
      call = reads_on c.loop-row.rows _ c.loop-row.invariant
          (λ t so_far. told_all _ c.loop-row.row-index _ t (omega arith) so_far);
    }
