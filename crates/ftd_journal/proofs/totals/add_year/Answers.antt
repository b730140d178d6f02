use Rattle.ftd_store.proofs.Telling.{reads_on}
use Rattle.ftd_journal.proofs.TotalsKnown.{year_added}
use Rattle.ftd_journal.proofs.totals.add_year.Goals as goal

pub returns-in-Ok : goal.returns-in-Ok
returns-in-Ok g c =
    let is = rw c.deref.ensures.value at c.in-Ok.ensures in
    record {
      call = reads_on tt _ c.in_ok-rows.ensures.call (λ t lists.
          year_added c.args.name.now c.args.total.now c.in_ok-rows.rows _ _ t lists is);
    }
