-- What the statements show that list the rows of a table in the order in which they were added, and
-- those that count all of its rows.
use Rattle.std.proofs.Common.{◌≡◌, ℕ, pos, List, [], ◌∷◌, length, map, Bool, true, refl, ap, ◌∙◌}
use Rattle.std.specs.Prelude.{filter, min}
use Rattle.sqlite.specs.declared.types.Value.TheVariants.{Int}
use Rattle.sqlite.specs.Order.{Row}
use Rattle.sqlite.specs.State.{State, Shown}
use Rattle.sqlite_tied.specs.Compute.{everything}
use Rattle.ftd_sql.specs.declared.TableName.{TableName}
use Rattle.ftd_sql.specs.declared.TableName.TheVariants.{Accounts, Forms, CorrectedAccounts}
use Rattle.ftd_sql.specs.declared.TableName.TheVariants.{ReportedQuarters, ReportedYears}
use Rattle.ftd_sql.specs.declared.TableName.TheVariants.{CorrectedQuarters, CorrectedYears}
use Rattle.ftd_sql.specs.declared.TableName.TheVariants.{CalendarYears, Holidays, AddedHolidays}
use Rattle.ftd_sql.specs.declared.TableName.TheVariants.{ChangedHolidays, Years, Runs, Payments}
use Rattle.ftd_sql.specs.declared.TableName.TheVariants.{Obligations}
use Rattle.ftd_sql.specs.Rows.{RowOf}
use Rattle.ftd_sql.specs.Standing.{Tables, Stands}
use Rattle.ftd_sql.specs.declared.texts.TheConstants.{LIST_ACCOUNTS_BY_ROW, LIST_FORMS_BY_ROW}
use Rattle.ftd_sql.specs.declared.texts.TheConstants.{LIST_ACCOUNT_CORRECTIONS_BY_ROW}
use Rattle.ftd_sql.specs.declared.texts.TheConstants.{LIST_REPORTED_BY_ROW}
use Rattle.ftd_sql.specs.declared.texts.TheConstants.{LIST_REPORTED_YEARS_BY_ROW}
use Rattle.ftd_sql.specs.declared.texts.TheConstants.{LIST_CORRECTIONS_BY_ROW}
use Rattle.ftd_sql.specs.declared.texts.TheConstants.{LIST_YEAR_CORRECTIONS_BY_ROW}
use Rattle.ftd_sql.specs.declared.texts.TheConstants.{LIST_CALENDAR_YEARS_BY_ROW}
use Rattle.ftd_sql.specs.declared.texts.TheConstants.{LIST_HOLIDAYS_BY_ROW}
use Rattle.ftd_sql.specs.declared.texts.TheConstants.{LIST_ADDED_HOLIDAYS_BY_ROW}
use Rattle.ftd_sql.specs.declared.texts.TheConstants.{LIST_CHANGED_HOLIDAYS_BY_ROW}
use Rattle.ftd_sql.specs.declared.texts.TheConstants.{LIST_YEARS_BY_ROW, LIST_RUNS_BY_ROW}
use Rattle.ftd_sql.specs.declared.texts.TheConstants.{LIST_PAYMENTS_BY_ROW, LIST_OBLIGATIONS_BY_ROW}
use Rattle.ftd_sql.specs.declared.texts.TheConstants.{COUNT_ALL_FORMS}
use Rattle.ftd_sql.specs.declared.texts.TheConstants.{COUNT_ALL_ACCOUNT_CORRECTIONS}
use Rattle.ftd_sql.specs.declared.texts.TheConstants.{COUNT_ALL_REPORTED, COUNT_ALL_REPORTED_YEARS}
use Rattle.ftd_sql.specs.declared.texts.TheConstants.{COUNT_ALL_CORRECTIONS}
use Rattle.ftd_sql.specs.declared.texts.TheConstants.{COUNT_ALL_YEAR_CORRECTIONS, COUNT_ALL_YEARS}
use Rattle.ftd_sql.specs.declared.texts.TheConstants.{COUNT_ALL_RUNS, COUNT_ALL_PAYMENTS}
use Rattle.ftd_sql.specs.declared.texts.TheConstants.{COUNT_ALL_OBLIGATIONS}
use Rattle.ftd_sql.specs.Given.{name_given}
use Rattle.ftd_sql.specs.Answers.{enrolled_shown, form_shown, account_correction_shown}
use Rattle.ftd_sql.specs.Answers.{quarter_total_shown, year_total_shown, quarter_correction_shown}
use Rattle.ftd_sql.specs.Answers.{year_correction_shown, calendar_year_shown, year_holiday_shown}
use Rattle.ftd_sql.specs.Answers.{year_holiday_change_shown, year_shown, kept_run_shown}
use Rattle.ftd_sql.specs.Answers.{kept_payment_shown, obligation_shown}
use Rattle.ftd_sql.specs.Tests.{is_form_of, is_account_correction_of, is_reported_of}
use Rattle.ftd_sql.specs.Tests.{is_reported_year_of, is_correction_of, is_year_correction_of}
use Rattle.ftd_sql.specs.Tests.{is_year_of, is_run_of, is_payment_of, is_obligation_of_account}
use Rattle.ftd_sql.proofs.Counting.{greatest_count}
use Rattle.ftd_sql.proofs.KeptLemmas.{text_is}
use Rattle.ftd_sql.proofs.Passing.{one_passes}
use Rattle.ftd_sql.proofs.Reading.{in_row_order, counts}
use Rattle.ftd_sql.proofs.AskingAdded.{rows_of_accounts, rows_of_forms, rows_of_account_corrections}
use Rattle.ftd_sql.proofs.AskingAdded.{rows_of_reported, rows_of_reported_years}
use Rattle.ftd_sql.proofs.AskingAdded.{rows_of_corrections, rows_of_year_corrections}
use Rattle.ftd_sql.proofs.AskingAdded.{rows_of_calendar_years, rows_of_holidays}
use Rattle.ftd_sql.proofs.AskingAdded.{rows_of_added_holidays, rows_of_holiday_changes}
use Rattle.ftd_sql.proofs.AskingAdded.{rows_of_years, rows_of_runs, rows_of_payments}
use Rattle.ftd_sql.proofs.AskingAdded.{rows_of_obligations, counts_all_forms}
use Rattle.ftd_sql.proofs.AskingAdded.{counts_all_account_corrections, counts_all_reported}
use Rattle.ftd_sql.proofs.AskingAdded.{counts_all_reported_years, counts_all_corrections}
use Rattle.ftd_sql.proofs.AskingAdded.{counts_all_year_corrections, counts_all_years}
use Rattle.ftd_sql.proofs.AskingAdded.{counts_all_runs, counts_all_payments, counts_all_obligations}

-- the text with these values shows the rows that pass the test, in the order in which they were
-- added
abbrev pub IsInRowOrder : (n : TableName) → List ℕ → Row → (RowOf n → Bool) → (RowOf n → Row)
    → Type 1
IsInRowOrder n text params test shown = (old new : State) (rows : List Row) (t : Tables)
    → Stands old.now t → Shown text params old new rows → rows ≡ map shown (filter test (t n))

-- the text shows all rows, in the order in which they were added
abbrev pub IsAllInRowOrder : (n : TableName) → List ℕ → (RowOf n → Row) → Type 1
IsAllInRowOrder n text shown = (old new : State) (rows : List Row) (t : Tables)
    → Stands old.now t → Shown text [] old new rows → rows ≡ map shown (t n)

-- the text shows how many rows there are
abbrev pub IsAllCounted : TableName → List ℕ → Type 1
IsAllCounted n text = (old new : State) (rows : List Row) (t : Tables) → Stands old.now t
    → Shown text [] old new rows
    → rows ≡ (Int (pos (min (length (t n)) greatest_count)) ∷ []) ∷ []

filter_all : {X : Type 0} (xs : List X) → filter (λ x. true) xs ≡ xs
filter_all [] = refl
filter_all (x ∷ xs) = ap (λ more. x ∷ more) (filter_all xs)

-- ---- all rows

pub accounts_in_row_order : IsAllInRowOrder Accounts LIST_ACCOUNTS_BY_ROW.now enrolled_shown
unfolding everything
accounts_in_row_order old new rows t stands h =
    in_row_order Accounts LIST_ACCOUNTS_BY_ROW.now _ _ _ rows_of_accounts [] (λ x. true)
    enrolled_shown
    (λ p. refl) (λ p. refl) old new rows (t Accounts) (stands Accounts) h refl
    ∙ ap (map enrolled_shown) (filter_all (t Accounts))

pub calendar_years_in_row_order : IsAllInRowOrder CalendarYears LIST_CALENDAR_YEARS_BY_ROW.now
    calendar_year_shown
unfolding everything
calendar_years_in_row_order old new rows t stands h =
    in_row_order CalendarYears LIST_CALENDAR_YEARS_BY_ROW.now _ _ _ rows_of_calendar_years []
    (λ x. true) calendar_year_shown
    (λ p. refl) (λ p. refl) old new rows (t CalendarYears) (stands CalendarYears) h refl
    ∙ ap (map calendar_year_shown) (filter_all (t CalendarYears))

pub holidays_in_row_order : IsAllInRowOrder Holidays LIST_HOLIDAYS_BY_ROW.now year_holiday_shown
unfolding everything
holidays_in_row_order old new rows t stands h =
    in_row_order Holidays LIST_HOLIDAYS_BY_ROW.now _ _ _ rows_of_holidays [] (λ x. true)
    year_holiday_shown
    (λ p. refl) (λ p. refl) old new rows (t Holidays) (stands Holidays) h refl
    ∙ ap (map year_holiday_shown) (filter_all (t Holidays))

pub added_holidays_in_row_order : IsAllInRowOrder AddedHolidays LIST_ADDED_HOLIDAYS_BY_ROW.now
    year_holiday_shown
unfolding everything
added_holidays_in_row_order old new rows t stands h =
    in_row_order AddedHolidays LIST_ADDED_HOLIDAYS_BY_ROW.now _ _ _ rows_of_added_holidays []
    (λ x. true) year_holiday_shown
    (λ p. refl) (λ p. refl) old new rows (t AddedHolidays) (stands AddedHolidays) h refl
    ∙ ap (map year_holiday_shown) (filter_all (t AddedHolidays))

pub holiday_changes_in_row_order : IsAllInRowOrder ChangedHolidays LIST_CHANGED_HOLIDAYS_BY_ROW.now
    year_holiday_change_shown
unfolding everything
holiday_changes_in_row_order old new rows t stands h =
    in_row_order ChangedHolidays LIST_CHANGED_HOLIDAYS_BY_ROW.now _ _ _ rows_of_holiday_changes []
    (λ x. true) year_holiday_change_shown
    (λ p. refl) (λ p. refl) old new rows (t ChangedHolidays) (stands ChangedHolidays) h refl
    ∙ ap (map year_holiday_change_shown) (filter_all (t ChangedHolidays))

-- ---- the rows of an account

pub forms_in_row_order : (account : List ℕ) → IsInRowOrder Forms
    LIST_FORMS_BY_ROW.now (name_given account) (is_form_of account) form_shown
unfolding everything
forms_in_row_order account old new rows t stands h =
    in_row_order Forms LIST_FORMS_BY_ROW.now _ _ _ rows_of_forms (name_given account)
    (is_form_of account) form_shown
    (λ p. one_passes _ _ (text_is p.1.account account)) (λ p. refl) old new rows (t Forms)
    (stands Forms) h refl

pub account_corrections_in_row_order : (account : List ℕ) → IsInRowOrder CorrectedAccounts
    LIST_ACCOUNT_CORRECTIONS_BY_ROW.now (name_given account) (is_account_correction_of account)
    account_correction_shown
unfolding everything
account_corrections_in_row_order account old new rows t stands h =
    in_row_order CorrectedAccounts LIST_ACCOUNT_CORRECTIONS_BY_ROW.now _ _ _
    rows_of_account_corrections (name_given account)
    (is_account_correction_of account) account_correction_shown
    (λ p. one_passes _ _ (text_is p.1.account account)) (λ p. refl) old new rows
    (t CorrectedAccounts)
    (stands CorrectedAccounts) h refl

pub reported_in_row_order : (account : List ℕ) → IsInRowOrder ReportedQuarters
    LIST_REPORTED_BY_ROW.now (name_given account) (is_reported_of account) quarter_total_shown
unfolding everything
reported_in_row_order account old new rows t stands h =
    in_row_order ReportedQuarters LIST_REPORTED_BY_ROW.now _ _ _ rows_of_reported
    (name_given account)
    (is_reported_of account) quarter_total_shown
    (λ p. one_passes _ _ (text_is p.1.account account)) (λ p. refl) old new rows
    (t ReportedQuarters)
    (stands ReportedQuarters) h refl

pub reported_years_in_row_order : (account : List ℕ) → IsInRowOrder ReportedYears
    LIST_REPORTED_YEARS_BY_ROW.now (name_given account) (is_reported_year_of account)
    year_total_shown
unfolding everything
reported_years_in_row_order account old new rows t stands h =
    in_row_order ReportedYears LIST_REPORTED_YEARS_BY_ROW.now _ _ _ rows_of_reported_years
    (name_given account)
    (is_reported_year_of account) year_total_shown
    (λ p. one_passes _ _ (text_is p.1.account account)) (λ p. refl) old new rows (t ReportedYears)
    (stands ReportedYears) h refl

pub corrections_in_row_order : (account : List ℕ) → IsInRowOrder CorrectedQuarters
    LIST_CORRECTIONS_BY_ROW.now (name_given account) (is_correction_of account)
    quarter_correction_shown
unfolding everything
corrections_in_row_order account old new rows t stands h =
    in_row_order CorrectedQuarters LIST_CORRECTIONS_BY_ROW.now _ _ _ rows_of_corrections
    (name_given account)
    (is_correction_of account) quarter_correction_shown
    (λ p. one_passes _ _ (text_is p.1.account account)) (λ p. refl) old new rows
    (t CorrectedQuarters)
    (stands CorrectedQuarters) h refl

pub year_corrections_in_row_order : (account : List ℕ) → IsInRowOrder CorrectedYears
    LIST_YEAR_CORRECTIONS_BY_ROW.now (name_given account) (is_year_correction_of account)
    year_correction_shown
unfolding everything
year_corrections_in_row_order account old new rows t stands h =
    in_row_order CorrectedYears LIST_YEAR_CORRECTIONS_BY_ROW.now _ _ _ rows_of_year_corrections
    (name_given account)
    (is_year_correction_of account) year_correction_shown
    (λ p. one_passes _ _ (text_is p.1.account account)) (λ p. refl) old new rows (t CorrectedYears)
    (stands CorrectedYears) h refl

pub years_in_row_order : (account : List ℕ) → IsInRowOrder Years
    LIST_YEARS_BY_ROW.now (name_given account) (is_year_of account) year_shown
unfolding everything
years_in_row_order account old new rows t stands h =
    in_row_order Years LIST_YEARS_BY_ROW.now _ _ _ rows_of_years (name_given account)
    (is_year_of account) year_shown
    (λ p. one_passes _ _ (text_is p.1.account account)) (λ p. refl) old new rows (t Years)
    (stands Years) h refl

pub runs_in_row_order : (account : List ℕ) → IsInRowOrder Runs
    LIST_RUNS_BY_ROW.now (name_given account) (is_run_of account) kept_run_shown
unfolding everything
runs_in_row_order account old new rows t stands h =
    in_row_order Runs LIST_RUNS_BY_ROW.now _ _ _ rows_of_runs (name_given account)
    (is_run_of account) kept_run_shown
    (λ p. one_passes _ _ (text_is p.1.account account)) (λ p. refl) old new rows (t Runs)
    (stands Runs) h refl

pub payments_in_row_order : (account : List ℕ) → IsInRowOrder Payments
    LIST_PAYMENTS_BY_ROW.now (name_given account) (is_payment_of account) kept_payment_shown
unfolding everything
payments_in_row_order account old new rows t stands h =
    in_row_order Payments LIST_PAYMENTS_BY_ROW.now _ _ _ rows_of_payments (name_given account)
    (is_payment_of account) kept_payment_shown
    (λ p. one_passes _ _ (text_is p.1.account account)) (λ p. refl) old new rows (t Payments)
    (stands Payments) h refl

pub obligations_in_row_order : (account : List ℕ) → IsInRowOrder Obligations
    LIST_OBLIGATIONS_BY_ROW.now (name_given account) (is_obligation_of_account account)
    obligation_shown
unfolding everything
obligations_in_row_order account old new rows t stands h =
    in_row_order Obligations LIST_OBLIGATIONS_BY_ROW.now _ _ _ rows_of_obligations
    (name_given account)
    (is_obligation_of_account account) obligation_shown
    (λ p. one_passes _ _ (text_is p.1.account account)) (λ p. refl) old new rows (t Obligations)
    (stands Obligations) h refl

-- ---- counted

pub all_forms_counted : IsAllCounted Forms COUNT_ALL_FORMS.now
unfolding everything
all_forms_counted old new rows t stands h =
    counts Forms COUNT_ALL_FORMS.now _ counts_all_forms [] (λ x. true) (λ p. refl) old
    new rows t stands h ∙ ap (λ xs. (Int (pos (min (length xs) greatest_count)) ∷ []) ∷ [])
    (filter_all (t Forms))

pub all_account_corrections_counted : IsAllCounted CorrectedAccounts
    COUNT_ALL_ACCOUNT_CORRECTIONS.now
unfolding everything
all_account_corrections_counted old new rows t stands h =
    counts CorrectedAccounts COUNT_ALL_ACCOUNT_CORRECTIONS.now _ counts_all_account_corrections []
    (λ x. true) (λ p. refl) old
    new rows t stands h ∙ ap (λ xs. (Int (pos (min (length xs) greatest_count)) ∷ []) ∷ [])
    (filter_all (t CorrectedAccounts))

pub all_reported_counted : IsAllCounted ReportedQuarters COUNT_ALL_REPORTED.now
unfolding everything
all_reported_counted old new rows t stands h =
    counts ReportedQuarters COUNT_ALL_REPORTED.now _ counts_all_reported [] (λ x. true) (λ p. refl)
    old
    new rows t stands h ∙ ap (λ xs. (Int (pos (min (length xs) greatest_count)) ∷ []) ∷ [])
    (filter_all (t ReportedQuarters))

pub all_reported_years_counted : IsAllCounted ReportedYears COUNT_ALL_REPORTED_YEARS.now
unfolding everything
all_reported_years_counted old new rows t stands h =
    counts ReportedYears COUNT_ALL_REPORTED_YEARS.now _ counts_all_reported_years [] (λ x. true)
    (λ p. refl) old
    new rows t stands h ∙ ap (λ xs. (Int (pos (min (length xs) greatest_count)) ∷ []) ∷ [])
    (filter_all (t ReportedYears))

pub all_corrections_counted : IsAllCounted CorrectedQuarters COUNT_ALL_CORRECTIONS.now
unfolding everything
all_corrections_counted old new rows t stands h =
    counts CorrectedQuarters COUNT_ALL_CORRECTIONS.now _ counts_all_corrections [] (λ x. true)
    (λ p. refl) old
    new rows t stands h ∙ ap (λ xs. (Int (pos (min (length xs) greatest_count)) ∷ []) ∷ [])
    (filter_all (t CorrectedQuarters))

pub all_year_corrections_counted : IsAllCounted CorrectedYears COUNT_ALL_YEAR_CORRECTIONS.now
unfolding everything
all_year_corrections_counted old new rows t stands h =
    counts CorrectedYears COUNT_ALL_YEAR_CORRECTIONS.now _ counts_all_year_corrections []
    (λ x. true) (λ p. refl) old
    new rows t stands h ∙ ap (λ xs. (Int (pos (min (length xs) greatest_count)) ∷ []) ∷ [])
    (filter_all (t CorrectedYears))

pub all_years_counted : IsAllCounted Years COUNT_ALL_YEARS.now
unfolding everything
all_years_counted old new rows t stands h =
    counts Years COUNT_ALL_YEARS.now _ counts_all_years [] (λ x. true) (λ p. refl) old
    new rows t stands h ∙ ap (λ xs. (Int (pos (min (length xs) greatest_count)) ∷ []) ∷ [])
    (filter_all (t Years))

pub all_runs_counted : IsAllCounted Runs COUNT_ALL_RUNS.now
unfolding everything
all_runs_counted old new rows t stands h =
    counts Runs COUNT_ALL_RUNS.now _ counts_all_runs [] (λ x. true) (λ p. refl) old
    new rows t stands h ∙ ap (λ xs. (Int (pos (min (length xs) greatest_count)) ∷ []) ∷ [])
    (filter_all (t Runs))

pub all_payments_counted : IsAllCounted Payments COUNT_ALL_PAYMENTS.now
unfolding everything
all_payments_counted old new rows t stands h =
    counts Payments COUNT_ALL_PAYMENTS.now _ counts_all_payments [] (λ x. true) (λ p. refl) old
    new rows t stands h ∙ ap (λ xs. (Int (pos (min (length xs) greatest_count)) ∷ []) ∷ [])
    (filter_all (t Payments))

pub all_obligations_counted : IsAllCounted Obligations COUNT_ALL_OBLIGATIONS.now
unfolding everything
all_obligations_counted old new rows t stands h =
    counts Obligations COUNT_ALL_OBLIGATIONS.now _ counts_all_obligations [] (λ x. true) (λ p. refl)
    old
    new rows t stands h ∙ ap (λ xs. (Int (pos (min (length xs) greatest_count)) ∷ []) ∷ [])
    (filter_all (t Obligations))
