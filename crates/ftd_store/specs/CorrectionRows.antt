-- The cells of corrections, and of changes of holidays.
use Rattle.std.specs.Prelude.{◌≡◌, pos, List, [], ◌∷◌, length, Option, option_map}
use Rattle.sqlite.specs.declared.types.Value.TheVariants.{Int}
use Rattle.sqlite.specs.Order.{Row}
use Rattle.sqlite_value.specs.Order.{column}
use Rattle.ftd_store.specs.Cells.{day_number, flag_number, account_cells, IsDayCell, IsFlagCell}
use Rattle.ftd_store.specs.Cells.{IsAmountCell, IsCountCell}
use Rattle.ftd_store.specs.declared.account_cells.Account.{Account}
use Rattle.ftd_store.specs.declared.correction_cells.AccountCorrection.{AccountCorrection}
use Rattle.ftd_store.specs.declared.correction_cells.Correction.{Correction}
use Rattle.ftd_store.specs.declared.correction_cells.HolidayChange.{HolidayChange}

-- ---- what rows show

abbrev pub correction_cells : Correction → Row
correction_cells c = Int (pos c.number) ∷ Int (pos c.cents.0) ∷ []

abbrev pub account_correction_cells : AccountCorrection → Row
account_correction_cells c = Int (pos c.number) ∷ account_cells c.account

abbrev pub holiday_change_cells : HolidayChange → Row
holiday_change_cells c =
    Int (day_number c.day) ∷ Int (pos c.number) ∷ Int (flag_number c.is_holiday) ∷ []

-- ---- rows that show some value

abbrev pub IsCorrectionCells : Row → Type 0
IsCorrectionCells row = (length row ≡ 2) × IsCountCell (column row 0) × IsAmountCell (column row 1)

abbrev pub IsAccountCorrectionCells : Row → Type 0
IsAccountCorrectionCells row =
    (length row ≡ 3) × IsCountCell (column row 0) × IsDayCell (column row 1)
    × IsFlagCell (column row 2)

abbrev pub IsHolidayChangeCells : Row → Type 0
IsHolidayChangeCells row =
    (length row ≡ 3) × IsDayCell (column row 0) × IsCountCell (column row 1)
    × IsFlagCell (column row 2)

-- ---- what is in force

-- the account as the last of these corrections has it, or as it is here where there is none
abbrev pub last_account : Account → List AccountCorrection → Account
last_account account [] = account
last_account account (c ∷ cs) = last_account c.account cs

abbrev pub as_corrected : Option Account → List AccountCorrection → Option Account
as_corrected account corrections = option_map (λ a. last_account a corrections) account
