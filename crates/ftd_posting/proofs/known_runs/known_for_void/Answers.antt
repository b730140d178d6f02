use Rattle.ftd_store.proofs.Telling.{then_reads}
use Rattle.ftd_entries.proofs.Reading.{reads_too}
use Rattle.ftd_posting.proofs.known_runs.known_for_void.Goals as goal

pub returns : goal.returns
returns g c = record {
  call = then_reads _ _ (reads_too c.in_ok-account.ensures.call c.in_ok-account.ensures.form)
      c.in_ok-kept.ensures.call
      (λ t account kept. record { account = account.0; form = account.1; kept = kept });
}
