-- The rows of values that code can hold show cells that can be read. So rows that are read as None
-- are not those of such values alone.
use Rattle.std.proofs.Common.{◌≡◌, ◌<◌, ◌≤◌, ◌^◌, ◌⊎◌, inl, inr, ℕ, List, map, None, Some}
use Rattle.std.proofs.Common.{refl}
use Rattle.std.proofs.Common.{sym, subst, Option, arith}
use Rattle.std.specs.Prelude.{IsUtf8, IfSome, option_map, string_bytes}
use Rattle.std.specs.List.{All}
use Rattle.std.proofs.lemmas.Int.{ints}
use Rattle.std.proofs.lemmas.List.Elements.{All-map}
use Rattle.sqlite.specs.declared.types.Value.TheVariants.{Int, Null}
use Rattle.sqlite.specs.Order.{Row}
use Rattle.sqlite.specs.Values.{or_null}
use Rattle.ftd_days.specs.Calendar.{last_day}
use Rattle.ftd_days.specs.declared.limits.TheConstants.{QUARTERS}
use Rattle.ftd_rules.specs.declared.Form.{Form}
use Rattle.ftd_rules.specs.declared.Obligation.{Obligation}
use Rattle.ftd_sql.specs.Answers.{enrolled_shown, form_shown, account_correction_shown}
use Rattle.ftd_sql.specs.Answers.{quarter_total_shown, year_total_shown, quarter_correction_shown}
use Rattle.ftd_sql.specs.Answers.{year_correction_shown, calendar_year_shown, year_holiday_shown}
use Rattle.ftd_sql.specs.Answers.{year_holiday_change_shown, year_shown, kept_run_shown}
use Rattle.ftd_sql.specs.Answers.{kept_payment_shown, obligation_shown}
use Rattle.ftd_store.specs.declared.added_cells.QuarterCorrection.{QuarterCorrection}
use Rattle.ftd_store.specs.declared.added_cells.YearCorrection.{YearCorrection}
use Rattle.ftd_store.specs.declared.added_cells.YearHoliday.{YearHoliday}
use Rattle.ftd_store.specs.declared.added_cells.YearHolidayChange.{YearHolidayChange}
use Rattle.ftd_store.specs.declared.correction_cells.AccountCorrection.{AccountCorrection}
use Rattle.ftd_store.specs.declared.kept_cells.NamedAccount.{NamedAccount}
use Rattle.ftd_store.specs.declared.kept_cells.NumberedPayment.{NumberedPayment}
use Rattle.ftd_store.specs.declared.kept_cells.NumberedRun.{NumberedRun}
use Rattle.ftd_store.specs.declared.kept_cells.QuarterTotal.{QuarterTotal}
use Rattle.ftd_store.specs.declared.kept_cells.YearTotal.{YearTotal}
use Rattle.ftd_store.specs.declared.year_cells.StoredYear.{StoredYear}
use Rattle.ftd_store.specs.Cells.{day_number, IsDayCell, IsFormCells, IsCountCells, IsYearCells}
use Rattle.ftd_store.specs.Cells.{IsObligationCells}
use Rattle.ftd_store.specs.CorrectionRows.{IsAccountCorrectionCells}
use Rattle.ftd_store.specs.AddedRows.{IsQuarterCorrectionCells, IsYearCorrectionCells}
use Rattle.ftd_store.specs.AddedRows.{IsYearHolidayCells, IsYearHolidayChangeCells}
use Rattle.ftd_store.specs.KeptRows.{IsNamedAccountCells, IsQuarterTotalCells, IsYearTotalCells}
use Rattle.ftd_store.specs.KeptRows.{IsNumberedRunCells, IsNumberedPaymentCells}
use Rattle.ftd_store.specs.Rows.{form_row, account_correction_row, calendar_year_row}
use Rattle.ftd_store.specs.Rows.{obligation_row}
use Rattle.ftd_store.specs.Added.{named_account_row, quarter_total_row, year_total_row}
use Rattle.ftd_store.specs.Added.{quarter_correction_row, listed_year_correction_row}
use Rattle.ftd_store.specs.Added.{year_holiday_row, year_holiday_change_row, stored_year_row}
use Rattle.ftd_store.specs.Added.{numbered_run_row, numbered_payment_row}

-- rows that are read as None are not those of values whose rows can all be read
pub none_of_values : {X Y : Type 0} (row : Y → X) (shown : X → Row) (IsReadable : Row → Type 0)
    (xs : List Y) (rows : List X) → rows ≡ map row xs → ¬ All IsReadable (map shown rows)
    → ¬ All (λ y. IsReadable (shown (row y))) xs
none_of_values row shown IsReadable xs rows is none all =
    none (subst (λ rs. All IsReadable (map shown rs)) (sym is)
    (All-map IsReadable shown (map row xs) (All-map (λ x. IsReadable (shown x)) row xs all)))

-- ---- the rows of each table

-- a day of the calendar
day_cell : (day : ℕ) → day ≤ last_day → IsDayCell (Int (day_number day))
day_cell day within = (day_number day, refl, (omega (arith, ints), omega (arith, ints)))

pub account_readable : (a : NamedAccount) → IsUtf8 (string_bytes a.name)
    → a.account.start ≤ last_day → IsNamedAccountCells (enrolled_shown (named_account_row a))
account_readable a text within = (
  refl,
  (string_bytes a.name, refl, text),
  day_cell a.account.start within,
  (a.account.carried, refl),
)

pub form_readable : (account : List ℕ) (form : Form) → IsFormCells (form_shown
    (form_row account form))
form_readable account form = (refl, (form, refl))

pub account_correction_readable : (account : List ℕ) (c : AccountCorrection) → c.number < 2 ^ 32
    → c.account.start ≤ last_day
    → IsAccountCorrectionCells (account_correction_shown (account_correction_row account c))
account_correction_readable account c small within =
    (refl, (c.number, refl, small), day_cell c.account.start within, (c.account.carried, refl))

pub reported_readable : (account : List ℕ) (r : QuarterTotal) → r.quarter < QUARTERS
    → IsQuarterTotalCells (quarter_total_shown (quarter_total_row account r))
reported_readable account r within = (refl, (r.quarter, within, refl, refl), (r.cents.0, refl))

pub reported_year_readable : (account : List ℕ) (r : YearTotal) → r.year < 2 ^ 32
    → IsYearTotalCells (year_total_shown (year_total_row account r))
reported_year_readable account r small = (refl, (r.year, refl, small), (r.cents.0, refl))

pub correction_readable : (account : List ℕ) (c : QuarterCorrection) → c.quarter < QUARTERS
    → c.correction.number < 2 ^ 32
    → IsQuarterCorrectionCells (quarter_correction_shown (quarter_correction_row account c))
correction_readable account c within small = (
  refl,
  (c.quarter, within, refl, refl),
  (c.correction.number, refl, small),
  (c.correction.cents.0, refl),
)

pub year_correction_readable : (account : List ℕ) (c : YearCorrection) → c.year < 2 ^ 32
    → c.correction.number < 2 ^ 32
    → IsYearCorrectionCells (year_correction_shown (listed_year_correction_row account c))
year_correction_readable account c small low =
    (refl, (c.year, refl, small), (c.correction.number, refl, low), (c.correction.cents.0, refl))

pub calendar_year_readable : (year : ℕ) → year < 2 ^ 32
    → IsCountCells (calendar_year_shown (calendar_year_row year))
calendar_year_readable year small = (refl, (year, refl, small))

pub holiday_readable : (h : YearHoliday) → h.day ≤ last_day → h.year < 2 ^ 32
    → IsYearHolidayCells (year_holiday_shown (year_holiday_row h))
holiday_readable h within small = (refl, day_cell h.day within, (h.year, refl, small))

pub holiday_change_readable : (c : YearHolidayChange) → c.change.day ≤ last_day
    → c.change.number < 2 ^ 32 → c.year < 2 ^ 32
    → IsYearHolidayChangeCells (year_holiday_change_shown (year_holiday_change_row c))
holiday_change_readable c within low small = (
  refl,
  day_cell c.change.day within,
  (c.change.number, refl, low),
  (c.change.is_holiday, refl),
  (c.year, refl, small),
)

turn_cell : (turn : Option ℕ) → IfSome turn (λ day. day ≤ last_day)
    → (or_null Int (option_map day_number turn) ≡ Null)
    ⊎ IsDayCell (or_null Int (option_map day_number turn))
turn_cell None within = inl refl
turn_cell (Some day) within = inr (day_cell day within)

pub year_readable : (account : List ℕ) (y : StoredYear) → y.year < 2 ^ 32
    → IfSome y.turn (λ day. day ≤ last_day) → IsYearCells (year_shown (stored_year_row account y))
year_readable account y small within =
    (refl, (y.year, refl, small), (y.lookback.0, refl), (y.opening, refl), turn_cell y.turn within)

pub run_readable : (account : List ℕ) (r : NumberedRun) → r.number < 2 ^ 32
    → r.run.value.payday ≤ last_day
    → IsNumberedRunCells (kept_run_shown (numbered_run_row account r))
run_readable account r small within = (
  refl,
  (r.number, refl, small),
  day_cell r.run.value.payday within,
  (r.run.value.fit.0, refl),
  (r.run.value.ss.0, refl),
  (r.run.value.medicare.0, refl),
  (r.run.voided, refl),
)

pub payment_readable : (account : List ℕ) (p : NumberedPayment) → p.number < 2 ^ 32
    → p.payment.value.paid ≤ last_day → p.payment.value.for_day ≤ last_day
    → IsNumberedPaymentCells (kept_payment_shown (numbered_payment_row account p))
payment_readable account p small paid within = (
  refl,
  (p.number, refl, small),
  day_cell p.payment.value.paid paid,
  day_cell p.payment.value.for_day within,
  (p.payment.value.cents.0, refl),
  (p.payment.voided, refl),
)

pub obligation_readable : (account : List ℕ) (o : Obligation) → o.first ≤ last_day
    → o.last ≤ last_day → o.due ≤ last_day
    → IsObligationCells (obligation_shown (obligation_row account o))
obligation_readable account o first last due = (
  refl,
  day_cell o.first first,
  day_cell o.last last,
  (o.rule, refl),
  (o.cents.0, refl),
  day_cell o.due due,
)
