use Rattle.std.proofs.Common.{◌≡◌, ◌+◌, ◌-◌, ◌≤◌, ℕ, inr, refl, arith, rules}
use Rattle.ftd_days.specs.Holidays.{holidays_of}
use Rattle.ftd_days.proofs.Months.{early_year}
use Rattle.ftd_kept.specs.Explained.{IsCounted}
use Rattle.ftd_kept.proofs.Counted.{counted_more}
use Rattle.ftd_kept.proofs.explaining.counted_days.Goals as goal

pub tomorrow-day-requires : goal.tomorrow-day-requires
tomorrow-day-requires c =
    let soon : c.loop-day.day ≤ c.args.obligation.now.due = search rules in
    let early = early_year c.args.obligation.now.due c.requires.due in
    omega arith

pub loop-day-preserved : goal.loop-day-preserved
loop-day-preserved c =
    let so_far = c.loop-day.invariant in
    let from : ℕ = so_far.0 in
    let day : ℕ = c.loop-day.day in
    let low = so_far.2 in
    let next = c.tomorrow-day.ensures in
    let soon : day ≤ c.args.obligation.now.due = search rules in
    let n : ℕ = day - from in
    let at : from + n ≡ day = omega arith in
    let more : c.tomorrow-day.result - from ≡ n + 1 = omega arith in (
      from,
      so_far.1,
      omega arith,
      inr (omega arith),
      rw (more, c.in_ok-push.ensures.items)
          (counted_more (IsCounted (holidays_of c.args.holidays.now)) from n
          c.loop-day.days.items day _ at so_far.4 (refl, c.kind_of.ensures)),
    )
