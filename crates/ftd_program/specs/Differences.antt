-- In what an entry that was asked for differs from the one that the desk keeps.
use Rattle.std.specs.Prelude.{ℕ, List, Option, None, Some}
use Rattle.ftd_rules.specs.declared.payment.Payment.{Payment}
use Rattle.ftd_rules.specs.declared.run.PayRun.{PayRun}
use Rattle.ftd_rules.specs.declared.run.Voidable.{Voidable}
use Rattle.ftd_machine.specs.State.{State, enrolled_in, entries_of, kept_at}
use Rattle.ftd_machine.specs.declared.entries.Account.{Account}
use Rattle.ftd_replies.specs.declared.differing.Differing.{Differing}
use Rattle.ftd_replies.specs.declared.differing.Differing.TheVariants.{Accounts, Runs, Payments}

-- a run, and the one that has its number; void or not
abbrev pub run_beside : PayRun → Option (Voidable PayRun) → Option Differing
run_beside asked None = None
run_beside asked (Some kept) = Some (Runs asked kept.value)

abbrev pub run_difference : State → List ℕ → ℕ → PayRun → Option Differing
run_difference s account number asked =
    run_beside asked (kept_at number (entries_of s account).runs)

-- a payment, and the one that has its number
abbrev pub payment_beside : Payment → Option (Voidable Payment) → Option Differing
payment_beside asked None = None
payment_beside asked (Some kept) = Some (Payments asked kept.value)

abbrev pub payment_difference : State → List ℕ → ℕ → Payment → Option Differing
payment_difference s account number asked =
    payment_beside asked (kept_at number (entries_of s account).payments)

-- an account, and the one that is enrolled under its name
abbrev pub account_beside : Account → Option Account → Option Differing
account_beside asked None = None
account_beside asked (Some kept) = Some (Accounts asked kept)

abbrev pub account_difference : State → List ℕ → Account → Option Differing
account_difference s name asked = account_beside asked (enrolled_in s name)
