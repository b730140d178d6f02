use Rattle.std.proofs.Common.{◌≡◌, take}
use Rattle.std.specs.List.{sum_by}
use Rattle.ftd_rules.specs.Payments.{counts_by}
use Rattle.ftd_rules.proofs.payment.paid_by.Given as goal

abbrev pub invariant-loop-payment : goal.invariant-loop-payment
invariant-loop-payment l = l.total ≡ sum_by (counts_by l.first l.last l.known_by)
    (take l.payment-index l.payments)
