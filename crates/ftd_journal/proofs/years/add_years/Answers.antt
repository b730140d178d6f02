use Rattle.ftd_store.proofs.Telling.{reads_on}
use Rattle.ftd_journal.proofs.OwnKnown.{years_added}
use Rattle.ftd_journal.proofs.years.add_years.Goals as goal

pub returns-in-Ok : goal.returns-in-Ok
returns-in-Ok g c =
    let is = rw c.deref.ensures.value at c.in-Ok.ensures in
    record {
      call = reads_on tt _ c.in_ok-lines.ensures.call (λ t lists.
          years_added c.args.name.now c.in_ok-lines.lines _ _ t lists is);
    }
