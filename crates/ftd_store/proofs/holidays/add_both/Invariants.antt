use Rattle.std.proofs.Common.{◌≡◌, ◌||◌, ℕ, All, take}
use Rattle.ftd_days.specs.Business.{is_holiday}
use Rattle.ftd_days.specs.Calendar.{year_of}
use Rattle.ftd_days.specs.Holidays.{holidays_of}
use Rattle.ftd_store.proofs.holidays.add_both.Given as goal

abbrev pub invariant-loop-day : goal.invariant-loop-day
invariant-loop-day l = record {
  same : (day : ℕ) → is_holiday (holidays_of l.holidays) day
      ≡ (is_holiday (holidays_of l.fn.holidays) day ||
      (is_holiday l.given day || is_holiday (take l.day-index l.added) day));
  years : All (λ day. year_of day ≡ l.year) (take l.day-index l.added);
}
