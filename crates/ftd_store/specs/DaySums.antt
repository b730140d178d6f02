-- The liability of runs day by day.
use Rattle.std.specs.Prelude.{◌≡◌, ◌<◌, ◌==◌, if◌then◌else◌, ℕ, ℤ, List, false}
use Rattle.std.specs.List.{All, sum_by}
use Rattle.ftd_sql.specs.Order.{EachToNext}
use Rattle.ftd_sql.specs.Rows.{RunRow}
use Rattle.ftd_rules.specs.declared.DaySum.{DaySum}
use Rattle.ftd_rules.specs.Liability.{run_liability, liability}
use Rattle.ftd_rules.specs.declared.run.PayRun.{PayRun}
use Rattle.ftd_store.specs.Rows.{run_row}
use Rattle.ftd_store.specs.Lists.{Lists}

-- the liability that a run makes: on its payday, all that was withheld and both halves
abbrev pub run_sum : PayRun → DaySum
run_sum r =
    record { day = r.payday; cents = record { 0 = run_liability r.fit.0 r.ss.0 r.medicare.0 } }

-- what is owed for the run, where it was paid on the day, in cents
abbrev pub owed_on : ℕ → PayRun → ℕ
owed_on day r = if r.payday == day then run_liability r.fit.0 r.ss.0 r.medicare.0 else 0

-- the days of the sums rise, and none comes twice
abbrev pub DaysRise : List DaySum → Type 0
DaysRise sums = EachToNext (λ a b. a.day < b.day) sums

-- no sum is zero
abbrev pub ArePositive : List DaySum → Type 0
ArePositive sums = All (λ s. 0 < s.cents.0) sums

-- a live run of the account, whatever its number
abbrev pub IsLiveRun : List ℕ → RunRow → PayRun → Type 0
IsLiveRun account row r = (number : ℤ) × (row ≡ run_row account number r false)

-- the days rise, no sum is zero, and the liability of each day is the total of the runs that were
-- paid on it
pub record ListsDaySums (Rise : RunRow → RunRow → Type 0) (account : List ℕ) (rows : List RunRow)
    (sums : List DaySum) : Type 0 where
  pub runs : List PayRun
  pub listed : Lists Rise (IsLiveRun account) rows runs
  pub rise : DaysRise sums
  pub positive : ArePositive sums
  pub total : (day : ℕ) → liability sums day day ≡ sum_by (owed_on day) runs
