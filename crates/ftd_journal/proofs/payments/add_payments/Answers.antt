use Rattle.ftd_store.proofs.Telling.{reads_on}
use Rattle.ftd_machine.specs.Journal.{own_by_key, payment_made}
use Rattle.ftd_journal.specs.Parts.{payment_of}
use Rattle.ftd_journal.proofs.PartsAdded.{entries_added}
use Rattle.ftd_journal.proofs.payments.add_payments.Goals as goal

pub returns-in-Ok : goal.returns-in-Ok
returns-in-Ok g c =
    let name = c.args.name.now in
    let added = rw c.deref.ensures.value at c.in-Ok.ensures in
    record {
      call = reads_on tt _ c.in_ok-rows.ensures.call (λ t knows.
          entries_added (λ s. payment_made) (payment_of name) (λ s. own_by_key name s.payments)
          c.in_ok-rows.rows.items _ _ t knows (λ s stands sound. added));
    }
