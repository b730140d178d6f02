-- The day sums of the runs that a reading lists.
use Rattle.std.proofs.Common.{◌≡◌, ◌<◌, ◌≤◌, ◌+◌, ℕ, pos, List, [], ◌∷◌, length, get_or, inl, inr}
use Rattle.std.proofs.Common.{zero, suc, false, ap, arith}
use Rattle.std.specs.List.{sum_by}
use Rattle.std.specs.List.Sorted.{IsNonDecreasingBy}
use Rattle.std.proofs.lemmas.Int.{ints}
use Rattle.std.proofs.lemmas.List.Sorted.{IsNonDecreasingBy-from_all_adjacent}
use Rattle.ftd_store.proofs.Items.{pairs_length}
use Rattle.ftd_sql.specs.Order.{EachToNext}
use Rattle.ftd_sql.specs.Rows.{RunRow}
use Rattle.ftd_sql.specs.Orders.{RunsRise}
use Rattle.ftd_rules.specs.declared.DaySum.{DaySum}
use Rattle.ftd_rules.specs.Liability.{liability}
use Rattle.ftd_rules.specs.declared.run.PayRun.{PayRun}
use Rattle.ftd_store.specs.Cells.{day_number}
use Rattle.ftd_store.specs.Rows.{run_row}
use Rattle.ftd_store.specs.Lists.{Pairs, Lists}
use Rattle.ftd_store.specs.DaySums.{DaysRise, ArePositive, owed_on, IsLiveRun, ListsDaySums}

at : {X Y : Type 0} (R : X → Y → Type 0) (xs : List X) (ys : List Y) → Pairs R xs ys
    → (k : ℕ) (e : X) (d : Y) → k < length ys → R (get_or xs k e) (get_or ys k d)
at R [] [] pairs k e d low = absurd (omega (arith, low))
at R [] (y ∷ ys) pairs k e d low = absurd pairs
at R (x ∷ xs) [] pairs k e d low = absurd pairs
at R (x ∷ xs) (y ∷ ys) pairs zero e d low = pairs.0
at R (x ∷ xs) (y ∷ ys) pairs (suc k) e d low = at R xs ys pairs.1 k e d (omega (arith, low))

-- the runs of rows that rise have paydays that rise
paydays_rise : (account : List ℕ) (xs : List RunRow) (runs : List PayRun)
    → Pairs (IsLiveRun account) xs runs → EachToNext RunsRise xs
    → IsNonDecreasingBy (λ (r : PayRun). r.payday) runs
paydays_rise account xs runs pairs rise =
    IsNonDecreasingBy-from_all_adjacent (λ (r : PayRun). r.payday) runs (λ k d low.
    let e : RunRow = run_row account (pos 0) d false in
    let long = pairs_length (IsLiveRun account) xs runs pairs in
    let one = at (IsLiveRun account) xs runs pairs k e d (omega (arith, low)) in
    let next = at (IsLiveRun account) xs runs pairs (k + 1) e d low in
    no_later (get_or xs k e) (get_or xs (k + 1) e) (get_or runs k d) (get_or runs (k + 1) d)
    (ap (λ (x : RunRow). x.payday) one.1) (ap (λ (x : RunRow). x.payday) next.1)
    (rise k e (omega (arith, long, low))))
  where
    no_later : (a b : RunRow) (r s : PayRun) → a.payday ≡ day_number r.payday
        → b.payday ≡ day_number s.payday → RunsRise a b → r.payday ≤ s.payday
    no_later a b r s p q (inl before) = omega (arith, ints)
    no_later a b r s p q (inr same) = let e = same.0 in omega (arith, ints)

pub sums_listed : (account : List ℕ) (rows : List RunRow) (runs : List PayRun) (sums : List DaySum)
    → Lists RunsRise (IsLiveRun account) rows runs
    → ((day : ℕ) → liability sums day day ≡ sum_by (owed_on day) runs) → ArePositive sums
    → (IsNonDecreasingBy (λ (r : PayRun). r.payday) runs → DaysRise sums)
    → ListsDaySums RunsRise account rows sums
sums_listed account rows runs sums listed total positive rise =
    record {
      runs = runs;
      listed = listed;
      rise = rise (paydays_rise account listed.ordered runs listed.pairs listed.rise);
      positive = positive;
      total = total;
    }
