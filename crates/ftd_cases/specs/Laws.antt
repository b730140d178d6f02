-- Words of the laws.
use Rattle.std.specs.Prelude.{◌≡◌, ℕ, ◌<◌, ◌≤◌, ◌↔◌, Bool, true, false, List, [], ◌∷◌, Option}
use Rattle.std.specs.Prelude.{None, Some, nat_lt, if◌then◌else◌}
use Rattle.ftd_days.specs.declared.cents.Cents.{Cents}
use Rattle.ftd_rules.specs.declared.Rule.{Rule}
use Rattle.ftd_rules.specs.declared.Rule.TheVariants.{Monthly, Semiweekly, NextDay}
use Rattle.ftd_rules.specs.declared.Obligation.{Obligation}
use Rattle.ftd_rules.specs.Laws.{IsCountedBusiness}
use Rattle.ftd_machine.specs.State.{latest}
use Rattle.ftd_machine.specs.declared.explained.CountedDay.{CountedDay}
use Rattle.ftd_machine.specs.declared.explained.DayKind.{DayKind}
use Rattle.ftd_machine.specs.declared.explained.DayKind.TheVariants.{Business}
use Rattle.ftd_machine.specs.declared.explained.RunningSum.{RunningSum}
use Rattle.ftd_machine.specs.declared.kept.KeptPayment.{KeptPayment}

-- a due date before and after a holiday was taken back: it comes earlier exactly where the day, a
-- business day now, is not before the first day that is counted and not after the old due date, and
-- never comes later
abbrev pub ComesEarlier : List ℕ → ℕ → Rule → ℕ → ℕ → ℕ → Type 0
ComesEarlier after taken rule last due new =
    (new ≤ due) × ((new < due) ↔ IsCountedBusiness after rule last due taken)

-- an obligation before and after: all but the due date is equal
pub record IsMovedBack (after : List ℕ) (taken : ℕ) (old new : Obligation) : Type 0 where
  pub first : new.first ≡ old.first
  pub last : new.last ≡ old.last
  pub rule : new.rule ≡ old.rule
  pub amount : new.cents ≡ old.cents
  pub due : ComesEarlier after taken old.rule old.last old.due new.due

-- the last of them, if there are any
abbrev pub last_of : {X : Type 0} → List X → Option X
last_of [] = None
last_of (x ∷ xs) = Some (latest x xs)

-- what the obligation owes up to a payday, and the liability of the payday, in cents
abbrev pub total_of : RunningSum → Cents
total_of x = x.total

abbrev pub cents_of_payday : RunningSum → ℕ
cents_of_payday x = x.cents.0

-- how many business days are counted to the due date of a deposit: three after the close of a
-- Wednesday to Friday or Saturday to Tuesday, one from the 15th of the next month on, and one after
-- a day on which 100,000.00 or more has accumulated (Pub. 15 section 11, "Monthly Deposit
-- Schedule", "Semiweekly Deposit Schedule" and "$100,000 Next-Day Deposit Rule")
abbrev pub business_days_of : Rule → ℕ
business_days_of Monthly = 1
business_days_of Semiweekly = 3
business_days_of NextDay = 1

abbrev pub is_business_kind : DayKind → Bool
is_business_kind Business = true
is_business_kind other = false

abbrev pub is_counted_business : CountedDay → Bool
is_counted_business x = is_business_kind x.kind

-- the day is the due date, and a business day
abbrev pub IsDueDay : Obligation → CountedDay → Type 0
IsDueDay o x = (x.day ≡ o.due) × (x.kind ≡ Business)

-- what a payment comes to by a day, in cents: its amount if it was made not after the day
abbrev pub made_by : ℕ → KeptPayment → ℕ
made_by day x = if nat_lt day x.payment.paid then 0 else x.payment.cents.0
