-- Payments that stand in order from each to the next stand so to all after them.
use Rattle.std.proofs.Common.{◌≡◌, true, List}
use Rattle.ftd_rules.specs.Lists.{are_in_order}
use Rattle.ftd_machine.specs.Agenda.{EachToLater}
use Rattle.ftd_machine.specs.Kept.{IsPaymentBefore}
use Rattle.ftd_machine.specs.declared.kept.KeptPayment.{KeptPayment}
use Rattle.ftd_machine.proofs.KeptOne.{day_paid_for, payment_number, two_then}
use Rattle.ftd_entries.proofs.InOrder.{in_order, two_before}
use Rattle.ftd_kept.specs.Payments.{is_payment_before}

pub payments_in_order : (xs : List KeptPayment) → are_in_order is_payment_before xs ≡ true
    → EachToLater IsPaymentBefore xs
payments_in_order xs e =
    in_order is_payment_before IsPaymentBefore (two_before day_paid_for payment_number)
    (two_then day_paid_for payment_number) xs e
