use Rattle.ftd_store.proofs.Telling.{reads_on}
use Rattle.ftd_machine.specs.Journal.{own_by_key, run_posted}
use Rattle.ftd_journal.specs.Parts.{run_of}
use Rattle.ftd_journal.proofs.PartsAdded.{entries_added}
use Rattle.ftd_journal.proofs.runs.add_runs.Goals as goal

pub returns-in-Ok : goal.returns-in-Ok
returns-in-Ok g c =
    let name = c.args.name.now in
    let added = rw c.deref.ensures.value at c.in-Ok.ensures in
    record {
      call = reads_on tt _ c.in_ok-rows.ensures.call (λ t knows.
          entries_added (λ s. run_posted) (run_of name) (λ s. own_by_key name s.runs)
          c.in_ok-rows.rows.items _ _ t knows (λ s stands sound. added));
    }
