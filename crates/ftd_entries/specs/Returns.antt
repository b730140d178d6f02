-- What is known of an account's return period, in the machine's words.
use Rattle.std.specs.Prelude.{◌≡◌, ◌≤◌, ℕ, List, Option}
use Rattle.ftd_days.specs.declared.cents.Cents.{Cents}
use Rattle.ftd_rules.specs.declared.Form.{Form}
use Rattle.ftd_rules.specs.declared.payment.Payment.{Payment}
use Rattle.ftd_rules.specs.Liability.{liability}
use Rattle.ftd_rules.specs.Payments.{paid_by}
use Rattle.ftd_rules.specs.Periods.{return_period_first, return_period_last}
use Rattle.ftd_sql.specs.Standing.{Tables}
use Rattle.ftd_machine.specs.State.{State, entries_of}
use Rattle.ftd_machine.specs.History.{live_sums, live_payments}
use Rattle.ftd_machine.specs.Asking.{return_period, preceding}
use Rattle.ftd_entries.specs.Standing.{StandsFor}
use Rattle.ftd_entries.specs.declared.return_periods.ReturnFacts.{ReturnFacts}

-- the amount is the account's liability of the days, in each state for which the tables stand
abbrev pub KnowsLiability : List ℕ → ℕ → ℕ → Cents → Tables → Type 0
KnowsLiability name first last total t =
    (s : State) → StandsFor t s → total.0 ≡ liability (live_sums (entries_of s name)) first last

-- the payments count for each of the days what the account's live payments count for it
abbrev pub KnowsPayments : List ℕ → ℕ → ℕ → List Payment → Tables → Type 0
KnowsPayments name first last payments t =
    (s : State) → StandsFor t s
    → (from to as_of day : ℕ) → first ≤ from → to ≤ last
    → paid_by payments from to as_of day
    ≡ paid_by (live_payments (entries_of s name)) from to as_of day

-- this is what counts of the figure of the quarter before
abbrev pub KnowsPreceding : List ℕ → Form → ℕ → Option Cents → Tables → Type 0
KnowsPreceding name form quarter found t =
    (s : State) → StandsFor t s → preceding form (entries_of s name) quarter ≡ found

-- the days of the quarter's return period, and what the account has of them
pub record KnowsPeriod (name : List ℕ) (form : Form) (quarter : ℕ) (period : ReturnFacts)
    (t : Tables) : Type 0 where
  pub first : period.first ≡ return_period_first form (return_period form quarter)
  pub last : period.last ≡ return_period_last form (return_period form quarter)
  pub payments : KnowsPayments name period.first period.last period.payments.items t
  pub total : KnowsLiability name period.first period.last period.total t
  pub preceding : KnowsPreceding name form quarter period.preceding t
