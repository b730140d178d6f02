use Rattle.ftd_store.proofs.Telling.{then_reads}
use Rattle.ftd_journal.proofs.DaysKnown.{changes_added}
use Rattle.ftd_journal.proofs.days.add_changes.Goals as goal

pub returns-in-Ok : goal.returns-in-Ok
returns-in-Ok g c =
    let is = rw (c.deref.ensures.value, c.deref-2.ensures.value) at c.in-Ok.ensures in
    record {
      call = then_reads tt _ c.in_ok-days.ensures.call c.in_ok-changes.ensures.call
          (λ t knows lists. changes_added c.args.year c.in_ok-days.days.items
          c.in_ok-changes.changes _ _ t knows lists is);
    }
