use Rattle.ftd_store.proofs.Telling.{reads_on}
use Rattle.ftd_journal.specs.Parts.{run_of}
use Rattle.ftd_journal.proofs.NextNumbers.{next_is}
use Rattle.ftd_journal.proofs.runs.next_run.Goals as goal

pub returns-in-Ok : goal.returns-in-Ok
returns-in-Ok g c =
    let is = rw c.deref.ensures.value at c.in-Ok.ensures in
    record {
      call = reads_on c.in-Ok.number _ c.in_ok-rows.ensures.call (λ t knows s stands sound.
          next_is c.args.name.now s.runs sound.runs (run_of c.args.name.now) c.in_ok-rows.rows.items
          c.in-Ok.number (knows s stands sound) is);
    }
