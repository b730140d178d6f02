-- Due dates, with the close of an interval by arithmetic, and the days that are counted toward
-- them.
use Rattle.std.specs.Prelude.{◌≡◌, ℕ, ◌+◌, ◌≤◌, true, List}
use Rattle.ftd_days.specs.Private.Intervals.{interval_close}
use Rattle.ftd_days.specs.Business.{is_business, IsOnOrAfter, IsNthAfter}
use Rattle.ftd_rules.specs.Due.{fifteenth_after}
use Rattle.ftd_rules.specs.declared.Rule.{Rule}
use Rattle.ftd_rules.specs.declared.Rule.TheVariants.{Monthly, Semiweekly, NextDay}

-- when a deposit for days up to `last` is due
abbrev pub IsDueBy : List ℕ → Rule → ℕ → ℕ → Type 0
IsDueBy holidays Monthly last due = IsOnOrAfter holidays (fifteenth_after last) due
IsDueBy holidays Semiweekly last due = IsNthAfter holidays (interval_close last) 3 due
IsDueBy holidays NextDay last due = IsNthAfter holidays last 1 due

-- the first day that is counted toward it
abbrev pub first_counted : Rule → ℕ → ℕ
first_counted Monthly last = fifteenth_after last
first_counted Semiweekly last = interval_close last + 1
first_counted NextDay last = last + 1

-- the day is a business day, not before the first day that is counted and not after the due date
abbrev pub IsCountedBy : List ℕ → Rule → ℕ → ℕ → ℕ → Type 0
IsCountedBy holidays rule last due day =
    (is_business holidays day ≡ true) × (first_counted rule last ≤ day) × (day ≤ due)
