-- Amounts that a cell holds.
use Rattle.std.specs.Prelude.{◌<◌, ◌^◌}
use Rattle.ftd_days.specs.declared.cents.Cents.{Cents}
use Rattle.ftd_rules.specs.declared.run.PayRun.{PayRun}

-- the amount is less than 2^63 cents
abbrev pub IsStorable : Cents → Type 0
IsStorable amount = amount.0 < 2 ^ 63

-- so is each amount of the run
pub record HasStorableAmounts (run : PayRun) : Type 0 where
  pub fit : IsStorable run.fit
  pub ss : IsStorable run.ss
  pub medicare : IsStorable run.medicare
