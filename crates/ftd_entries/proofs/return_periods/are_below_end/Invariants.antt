use Rattle.std.proofs.Common.{◌≡◌, ◌<◌, take}
use Rattle.std.specs.List.{sum_by}
use Rattle.ftd_rules.specs.Payments.{payment_cents}
use Rattle.ftd_entries.proofs.return_periods.are_below_end.Given as goal

abbrev pub invariant-loop-payment : goal.invariant-loop-payment
invariant-loop-payment l = record {
  total : l.total ≡ sum_by payment_cents (take l.payment-index l.payments);
  small : l.total < 6_000_000_000_000_000;
}
