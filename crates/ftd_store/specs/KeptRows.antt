-- The cells of rows in lists of what is kept.
use Rattle.std.specs.Prelude.{◌≡◌, ◌<◌, ℕ, pos, [], ◌∷◌, length, string_bytes}
use Rattle.sqlite.specs.declared.types.Value.{Value}
use Rattle.sqlite.specs.declared.types.Value.TheVariants.{Int, Text}
use Rattle.sqlite.specs.Order.{Row}
use Rattle.sqlite_value.specs.Order.{column}
use Rattle.ftd_days.specs.declared.limits.TheConstants.{QUARTERS}
use Rattle.ftd_days.specs.Calendar.{quarter_year, quarter_number}
use Rattle.ftd_store.specs.Cells.{account_cells, form_cells, stored_run_cells, stored_payment_cells}
use Rattle.ftd_store.specs.Cells.{IsTextCell, IsDayCell, IsFlagCell, IsFormCell, IsCountCell}
use Rattle.ftd_store.specs.Cells.{IsAmountCell}
use Rattle.ftd_store.specs.declared.kept_cells.NamedAccount.{NamedAccount}
use Rattle.ftd_store.specs.declared.kept_cells.NamedForm.{NamedForm}
use Rattle.ftd_store.specs.declared.kept_cells.NumberedPayment.{NumberedPayment}
use Rattle.ftd_store.specs.declared.kept_cells.NumberedRun.{NumberedRun}
use Rattle.ftd_store.specs.declared.kept_cells.QuarterTotal.{QuarterTotal}
use Rattle.ftd_store.specs.declared.kept_cells.YearTotal.{YearTotal}

-- ---- what rows show

abbrev pub named_account_cells : NamedAccount → Row
named_account_cells a = Text (string_bytes a.name) ∷ account_cells a.account

abbrev pub named_form_cells : NamedForm → Row
named_form_cells f = Text (string_bytes f.account) ∷ form_cells f.form

abbrev pub quarter_total_cells : QuarterTotal → Row
quarter_total_cells r =
    Int (pos (quarter_year r.quarter)) ∷ Int (pos (quarter_number r.quarter)) ∷ Int (pos r.cents.0)
    ∷ []

abbrev pub year_total_cells : YearTotal → Row
year_total_cells r = Int (pos r.year) ∷ Int (pos r.cents.0) ∷ []

abbrev pub numbered_run_cells : NumberedRun → Row
numbered_run_cells r = Int (pos r.number) ∷ stored_run_cells r.run

abbrev pub numbered_payment_cells : NumberedPayment → Row
numbered_payment_cells p = Int (pos p.number) ∷ stored_payment_cells p.payment

-- ---- rows that show some value

abbrev pub IsNamedAccountCells : Row → Type 0
IsNamedAccountCells row =
    (length row ≡ 3) × IsTextCell (column row 0) × IsDayCell (column row 1)
    × IsFlagCell (column row 2)

abbrev pub IsNamedFormCells : Row → Type 0
IsNamedFormCells row = (length row ≡ 2) × IsTextCell (column row 0) × IsFormCell (column row 1)

-- the year and the number of a quarter from 1900 to 2199
abbrev pub AreQuarterCells : Value → Value → Type 0
AreQuarterCells v w =
    (quarter : ℕ) × (quarter < QUARTERS) × (v ≡ Int (pos (quarter_year quarter)))
    × (w ≡ Int (pos (quarter_number quarter)))

abbrev pub IsQuarterTotalCells : Row → Type 0
IsQuarterTotalCells row =
    (length row ≡ 3) × AreQuarterCells (column row 0) (column row 1) × IsAmountCell (column row 2)

abbrev pub IsYearTotalCells : Row → Type 0
IsYearTotalCells row = (length row ≡ 2) × IsCountCell (column row 0) × IsAmountCell (column row 1)

abbrev pub IsNumberedRunCells : Row → Type 0
IsNumberedRunCells row =
    (length row ≡ 6) × IsCountCell (column row 0) × IsDayCell (column row 1)
    × IsAmountCell (column row 2) × IsAmountCell (column row 3) × IsAmountCell (column row 4)
    × IsFlagCell (column row 5)

abbrev pub IsNumberedPaymentCells : Row → Type 0
IsNumberedPaymentCells row =
    (length row ≡ 5) × IsCountCell (column row 0) × IsDayCell (column row 1)
    × IsDayCell (column row 2) × IsAmountCell (column row 3) × IsFlagCell (column row 4)
