-- What is kept of an account, by the values of its rows.
use Rattle.std.specs.Prelude.{◌≡◌, ℕ, List, map, Option, None, Some, Vec}
use Rattle.ftd_days.specs.declared.cents.Cents.{Cents}
use Rattle.ftd_rules.specs.declared.payment.Payment.{Payment}
use Rattle.ftd_rules.specs.declared.run.PayRun.{PayRun}
use Rattle.ftd_rules.specs.declared.run.Voidable.{Voidable}
use Rattle.ftd_store.specs.declared.added_cells.QuarterCorrection.{QuarterCorrection}
use Rattle.ftd_store.specs.declared.added_cells.YearCorrection.{YearCorrection}
use Rattle.ftd_store.specs.declared.correction_cells.AccountCorrection.{AccountCorrection}
use Rattle.ftd_store.specs.declared.kept_cells.NumberedPayment.{NumberedPayment}
use Rattle.ftd_store.specs.declared.kept_cells.NumberedRun.{NumberedRun}
use Rattle.ftd_store.specs.declared.kept_cells.QuarterTotal.{QuarterTotal}
use Rattle.ftd_store.specs.declared.kept_cells.YearTotal.{YearTotal}
use Rattle.ftd_machine.specs.declared.entries.Beginning.{Beginning}
use Rattle.ftd_check.specs.Numbers.{AreNumbered}

-- ---- the key and the number of a correction: those of an account have one key

abbrev pub account_key : AccountCorrection → ℕ × ℕ
account_key c = (0, c.number)

abbrev pub quarter_key : QuarterCorrection → ℕ × ℕ
quarter_key c = (c.quarter, c.correction.number)

abbrev pub year_key : YearCorrection → ℕ × ℕ
year_key c = (c.year, c.correction.number)

-- ---- what is kept under a key

abbrev pub beginning_corrected : AccountCorrection → Beginning
beginning_corrected c = record { start = c.account.start; carried = c.account.carried }

abbrev pub quarter_total_pair : QuarterTotal → ℕ × Cents
quarter_total_pair r = (r.quarter, r.cents)

abbrev pub year_total_pair : YearTotal → ℕ × Cents
year_total_pair r = (r.year, r.cents)

abbrev pub quarter_pair : QuarterCorrection → ℕ × Cents
quarter_pair c = (c.quarter, c.correction.cents)

abbrev pub year_pair : YearCorrection → ℕ × Cents
year_pair c = (c.year, c.correction.cents)

abbrev pub run_pair : NumberedRun → ℕ × Voidable PayRun
run_pair r = (r.number, r.run)

abbrev pub payment_pair : NumberedPayment → ℕ × Voidable Payment
payment_pair p = (p.number, p.payment)

-- ---- what is kept by corrections under their numbers

-- the values of the rows; or None, where their numbers do not count from 1 under each key
abbrev pub AreUnder : {R Y A : Type 0} → (R → ℕ × ℕ) → (R → Y) → List R → Option (Vec Y A) → Type 0
AreUnder key value rows None = ¬ AreNumbered (map key rows)
AreUnder key value rows (Some values) =
    AreNumbered (map key rows) × (values.items ≡ map value rows)
