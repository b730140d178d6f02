use Rattle.ftd_store.proofs.Telling.{then_reads}
use Rattle.ftd_store.proofs.tx.Tx.account_in_force.Goals as goal

pub returns : goal.returns
returns g c = record {
  call = then_reads c.as_corrected.result _ c.in_ok-enrolled.ensures.call
      c.in_ok-corrections.ensures.call (λ t finds lists. record {
        enrolled = c.in_ok-enrolled.enrolled;
        is_enrolled = finds;
        corrections = c.in_ok-corrections.corrections.items;
        are_all = lists;
        is_last = rw c.deref.ensures.value at c.as_corrected.ensures;
      });
}
