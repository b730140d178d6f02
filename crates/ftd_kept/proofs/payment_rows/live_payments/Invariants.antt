use Rattle.std.proofs.Common.{take}
use Rattle.std.specs.Prelude.{filter}
use Rattle.ftd_store.specs.Lists.{Pairs}
use Rattle.ftd_kept.specs.Payments.{IsPaymentFor, is_live_payment}
use Rattle.ftd_kept.proofs.payment_rows.live_payments.Given as goal

abbrev pub invariant-loop-row : goal.invariant-loop-row
invariant-loop-row l = Pairs (IsPaymentFor l.first)
    (filter is_live_payment (take l.row-index l.rows)) l.payments.items
