-- The cells of rows that are read with the quarter or the year that they are for.
use Rattle.std.specs.Prelude.{◌≡◌, pos, [], ◌∷◌, length}
use Rattle.sqlite.specs.declared.types.Value.TheVariants.{Int}
use Rattle.sqlite.specs.Order.{Row}
use Rattle.sqlite_value.specs.Order.{column}
use Rattle.ftd_days.specs.Calendar.{quarter_year, quarter_number}
use Rattle.ftd_store.specs.Cells.{day_number, flag_number, IsDayCell, IsFlagCell, IsCountCell}
use Rattle.ftd_store.specs.Cells.{IsAmountCell}
use Rattle.ftd_store.specs.KeptRows.{AreQuarterCells}
use Rattle.ftd_store.specs.declared.added_cells.QuarterCorrection.{QuarterCorrection}
use Rattle.ftd_store.specs.declared.added_cells.YearCorrection.{YearCorrection}
use Rattle.ftd_store.specs.declared.added_cells.YearHoliday.{YearHoliday}
use Rattle.ftd_store.specs.declared.added_cells.YearHolidayChange.{YearHolidayChange}

-- ---- what rows show

abbrev pub quarter_correction_cells : QuarterCorrection → Row
quarter_correction_cells c =
    Int (pos (quarter_year c.quarter)) ∷ Int (pos (quarter_number c.quarter))
    ∷ Int (pos c.correction.number) ∷ Int (pos c.correction.cents.0) ∷ []

abbrev pub year_correction_cells : YearCorrection → Row
year_correction_cells c =
    Int (pos c.year) ∷ Int (pos c.correction.number) ∷ Int (pos c.correction.cents.0) ∷ []

abbrev pub year_holiday_cells : YearHoliday → Row
year_holiday_cells h = Int (day_number h.day) ∷ Int (pos h.year) ∷ []

abbrev pub year_holiday_change_cells : YearHolidayChange → Row
year_holiday_change_cells c =
    Int (day_number c.change.day) ∷ Int (pos c.change.number) ∷ Int
    (flag_number c.change.is_holiday)
    ∷ Int (pos c.year) ∷ []

-- ---- rows that show some value

abbrev pub IsQuarterCorrectionCells : Row → Type 0
IsQuarterCorrectionCells row =
    (length row ≡ 4) × AreQuarterCells (column row 0) (column row 1) × IsCountCell (column row 2)
    × IsAmountCell (column row 3)

abbrev pub IsYearCorrectionCells : Row → Type 0
IsYearCorrectionCells row =
    (length row ≡ 3) × IsCountCell (column row 0) × IsCountCell (column row 1)
    × IsAmountCell (column row 2)

abbrev pub IsYearHolidayCells : Row → Type 0
IsYearHolidayCells row =
    (length row ≡ 2) × IsDayCell (column row 0) × IsCountCell (column row 1)

abbrev pub IsYearHolidayChangeCells : Row → Type 0
IsYearHolidayChangeCells row =
    (length row ≡ 4) × IsDayCell (column row 0) × IsCountCell (column row 1)
    × IsFlagCell (column row 2) × IsCountCell (column row 3)
