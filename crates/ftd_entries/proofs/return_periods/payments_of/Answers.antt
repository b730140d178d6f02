use Rattle.ftd_store.proofs.Telling.{reads_on}
use Rattle.ftd_entries.proofs.PaymentsRead.{payments_known}
use Rattle.ftd_entries.proofs.return_periods.payments_of.Goals as goal

pub returns-clause-call : goal.returns-clause-call
returns-clause-call g c =
    reads_on _ _ c.in_ok-payments.ensures.call
    (payments_known c.args.name.now c.args.first c.args.last c.in_ok-payments.payments)
