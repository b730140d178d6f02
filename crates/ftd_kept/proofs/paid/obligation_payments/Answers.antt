use Rattle.std.proofs.Common.{subst}
use Rattle.std.specs.Prelude.{filter}
use Rattle.ftd_store.specs.Lists.{Pairs}
use Rattle.ftd_store.proofs.Telling.{reads_on}
use Rattle.ftd_kept.specs.Payments.{IsPaymentFor, is_live_payment}
use Rattle.ftd_kept.proofs.PaymentsTold.{payments_of_are}
use Rattle.ftd_kept.proofs.TablesExplained.{payments_shown}
use Rattle.ftd_kept.proofs.paid.obligation_payments.Goals as goal

pub returns-in-Ok : goal.returns-in-Ok
returns-in-Ok g c =
    let name = c.args.name.now in
    let o = c.args.obligation.now in
    let found = c.in_ok-found.found.items in
    let rows = c.in-Ok.rows.items in
    let told : Pairs (IsPaymentFor o.first) (filter is_live_payment found) rows =
    subst (λ xs. Pairs (IsPaymentFor o.first) (filter is_live_payment xs) rows)
    c.deref.ensures.value c.in-Ok.ensures.told in
    record {
      call = reads_on c.in-Ok.rows _ c.in_ok-found.ensures.call (λ t lists. record {
        shown = payments_shown name o.first o.last t found lists rows o.first told;
        in_order = c.in-Ok.ensures.in_order;
        all = λ s stands sound. payments_of_are name o t s stands sound found lists rows told;
      });
    }
