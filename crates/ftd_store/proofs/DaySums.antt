-- Sums of runs day by day.
use Rattle.std.proofs.Common.{◌≡◌, ◌≤◌, ℕ, Bool, true, false, inl, inr, refl, arith}
use Rattle.std.specs.Prelude.{nat_lt, ◌||◌, if◌then◌else◌}
use Rattle.std.proofs.lemmas.Bool.{cases_order}
use Rattle.ftd_days.proofs.Years.{eq_same, eq_not}
use Rattle.ftd_rules.specs.declared.DaySum.{DaySum}
use Rattle.ftd_rules.specs.Liability.{share}
use Rattle.ftd_rules.proofs.Walk.{share_before, share_after, share_in}
use Rattle.ftd_rules.specs.declared.run.PayRun.{PayRun}
use Rattle.ftd_store.specs.DaySums.{owed_on, run_sum}

-- a sum of zero adds nothing to a day
pub share_none : (day : ℕ) (s : DaySum) → s.cents.0 ≤ 0 → share day day s ≡ 0
share_none day s none = nothing (nat_lt s.day day || nat_lt day s.day) s.cents.0 none
  where
    nothing : (t : Bool) (c : ℕ) → c ≤ 0 → (if t then 0 else c) ≡ 0
    nothing true c none = refl
    nothing false c none = omega arith

-- what a run adds to the liability of a day is what is owed for it on that day
pub owed_is : (day : ℕ) (r : PayRun) → share day day (run_sum r) ≡ owed_on day r
owed_is day r =
    let s : DaySum = run_sum r in
    elim (cases_order r.payday day) [
      | inl same ↦ rw (eq_same r.payday day same) (share_in s day day (omega arith) (omega arith))
      | inr (inl before) ↦ rw (eq_not r.payday day (omega arith)) (share_before s day day before)
      | inr (inr after) ↦ rw (eq_not r.payday day (omega arith))
          (share_after s day day (omega arith) after)
    ]
