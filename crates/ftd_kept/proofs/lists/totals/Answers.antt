use Rattle.std.proofs.Common.{sym, subst, arith}
use Rattle.ftd_store.proofs.Going.{then_goes}
use Rattle.ftd_store.proofs.Telling.{reads_on, then_reads}
use Rattle.ftd_store.proofs.Turning.{gave_up_after}
use Rattle.ftd_kept.specs.Kept.{KnowsFirstTotals}
use Rattle.ftd_kept.proofs.TotalsKnown.{total_more, totals_all}
use Rattle.ftd_kept.proofs.lists.totals.Goals as goal

pub loop-total-init : goal.loop-total-init
loop-total-init g c = rw c.new-totals.ensures.items
    (reads_on tt _ c.in_ok-first.ensures.call (λ t known. (
      subst (λ xs. KnowsFirstTotals c.args.name.now c.args.form xs t)
          (sym c.deref-total-items.ensures.value) known,
      tt,
    )))

pub loop-total-preserved : goal.loop-total-preserved
loop-total-preserved g c =
    then_reads tt _ c.loop-total.invariant c.in_ok-told.ensures.call
    (λ t so_far its. total_more _ _ _ c.loop-total.total-index c.total-item.result
    c.in_ok-told.told _ _ t c.loop-total-test.true c.total-item.is c.in_default.ensures so_far its)

pub returns-in-Err : goal.returns-in-Err
returns-in-Err g c = record {
  call = gave_up_after (then_goes (tt {0}) c.loop-total.invariant.frame
      c.in_ok-told.ensures.call.frame)
      c.give_up.ensures.frame c.give_up.ensures.fails;
}

pub returns : goal.returns
returns g c =
    let end = c.loop-total-test.false in
    record {
      call = reads_on c.loop-total.totals _ c.loop-total.invariant
          (λ t so_far. totals_all _ _ _ c.loop-total.total-index _ t (omega arith) so_far);
    }
