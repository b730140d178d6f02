use Rattle.ftd_store.proofs.Telling.{reads_on}
use Rattle.ftd_journal.proofs.DaysKnown.{days_added}
use Rattle.ftd_journal.proofs.days.add_holidays.Goals as goal

pub returns-in-Ok : goal.returns-in-Ok
returns-in-Ok g c =
    let is = rw c.deref.ensures.value at c.in-Ok.ensures in
    record {
      call = reads_on tt _ c.in_ok-days.ensures.call (λ t lists.
          days_added c.args.year c.in_ok-days.days _ _ t lists is);
    }
