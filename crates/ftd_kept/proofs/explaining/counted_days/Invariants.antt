use Rattle.std.proofs.Common.{◌≡◌, ◌⊎◌, ◌≤◌, ◌-◌, ◌+◌, ℕ}
use Rattle.ftd_rules.specs.Laws.{IsFirstCounted}
use Rattle.ftd_days.specs.Holidays.{holidays_of}
use Rattle.ftd_store.specs.Lists.{Pairs}
use Rattle.ftd_kept.specs.Explained.{IsCounted, days_from}
use Rattle.ftd_kept.proofs.explaining.counted_days.Given as goal

abbrev pub invariant-loop-day : goal.invariant-loop-day
invariant-loop-day l =
    (from : ℕ) × IsFirstCounted l.obligation.rule l.obligation.last from × (from ≤ l.day)
    × ((l.day ≡ from) ⊎ (l.day ≤ l.obligation.due + 1))
    × Pairs (IsCounted (holidays_of l.holidays)) (days_from from (l.day - from)) l.days.items

abbrev pub decreases-loop-day : goal.decreases-loop-day
decreases-loop-day l = l.obligation.due + 1 - l.day
