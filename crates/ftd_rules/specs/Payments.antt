-- What was paid for a run of days by a day. Payments that were made void are left out of the list.
use Rattle.std.specs.Prelude.{ℕ, min, nat_lt, ◌||◌, List, if◌then◌else◌}
use Rattle.std.specs.List.{sum_by}
use Rattle.ftd_rules.specs.declared.payment.Payment.{Payment}

-- what a payment counts for the days first to last by a day: its amount if it is for one of these
-- days and dated not after the day, and else nothing
abbrev pub counts_by : ℕ → ℕ → ℕ → Payment → ℕ
counts_by first last by p =
    if nat_lt p.for_day first || nat_lt last p.for_day || nat_lt by p.paid then 0 else p.cents.0

-- p(d): what was paid for the days first to last by day d, as known on the day as_of, in cents
abbrev pub paid_by : List Payment → ℕ → ℕ → ℕ → ℕ → ℕ
paid_by payments first last as_of d = sum_by (counts_by first last (min d as_of)) payments

-- the amount of a payment, in cents
abbrev pub payment_cents : Payment → ℕ
payment_cents p = p.cents.0
