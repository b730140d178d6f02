use Rattle.std.proofs.Common.{◌≡◌, ◌<◌, ◌≤◌, ℕ, take, length, get_or}
use Rattle.std.specs.List.{All, sum_by}
use Rattle.std.specs.List.Sorted.{IsNonDecreasingBy}
use Rattle.ftd_rules.specs.Liability.{liability}
use Rattle.ftd_rules.specs.declared.run.PayRun.{PayRun}
use Rattle.ftd_store.specs.DaySums.{DaysRise, ArePositive, owed_on}
use Rattle.ftd_store.proofs.day_sum_cells.sums_of.Given as goal

abbrev pub invariant-loop-run : goal.invariant-loop-run
invariant-loop-run l = record {
  same : (day : ℕ) → liability l.sums.items day day ≡ sum_by (owed_on day)
      (take l.run-index l.runs);
  positive : ArePositive l.sums.items;
  rise : IsNonDecreasingBy (λ r. r.payday) l.runs → DaysRise l.sums.items;
  until : IsNonDecreasingBy (λ r. r.payday) l.runs → (k : ℕ) (d : PayRun) → l.run-index ≤ k
      → k < length l.runs → All (λ s. s.day ≤ (get_or l.runs k d).payday) l.sums.items;
}
