-- What payments count.
use Rattle.std.proofs.Common.{ℕ, ◌≤◌, true, false, arith}
use Rattle.std.specs.Prelude.{nat_lt, ◌||◌, if◌then◌else◌}
use Rattle.ftd_rules.specs.declared.payment.Payment.{Payment}
use Rattle.ftd_rules.specs.Payments.{counts_by, payment_cents}

-- none counts with more than its amount
pub counts_most : (first last by : ℕ) (p : Payment) → counts_by first last by p ≤ payment_cents p
counts_most first last by p =
    elim (nat_lt p.for_day first || nat_lt last p.for_day || nat_lt by p.paid) as
    (λ b. (if b then 0 else p.cents.0) ≤ p.cents.0) [
      | true ↦ omega arith
      | false ↦ omega arith
    ]
