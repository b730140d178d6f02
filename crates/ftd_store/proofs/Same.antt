-- A row that shows the cells of a value is the value's row.
use Rattle.std.proofs.Common.{◌≡◌, ℕ, ℤ, pos, List, Bool, true, rules}
use Rattle.std.specs.Ordering.{int_eq}
use Rattle.std.proofs.lemmas.Bool.Decides.{Decides-int_eq}
use Rattle.std.proofs.lemmas.Bool.{and_parts}
use Rattle.sqlite.specs.Order.{Row}
use Rattle.ftd_sql.specs.Rows.{ObligationRow}
use Rattle.ftd_sql.specs.Answers.{account_shown, form_shown, reported_shown, reported_year_shown}
use Rattle.ftd_sql.specs.Answers.{calendar_year_shown, holiday_shown, run_shown, live_run_shown}
use Rattle.ftd_sql.specs.Answers.{payment_shown, live_payment_shown, obligation_shown}
use Rattle.ftd_sql.specs.Answers.{account_obligation_shown}
use Rattle.ftd_sql.specs.Tests.{is_account, is_form_of, is_reported, is_reported_year}
use Rattle.ftd_sql.specs.Tests.{is_calendar_year, is_holiday_of, is_run, is_live_run_between}
use Rattle.ftd_sql.specs.Tests.{is_payment, is_live_payment_between, is_obligation_between}
use Rattle.ftd_days.specs.Calendar.{quarter_year, quarter_number}
use Rattle.ftd_days.proofs.Spelling.{same_text}
use Rattle.ftd_store.specs.declared.obligation_cells.AccountObligation.{AccountObligation}
use Rattle.ftd_store.specs.Cells.{account_cells}
use Rattle.ftd_store.specs.Cells.{form_cells, cents_cells, count_cells, day_cells, stored_run_cells}
use Rattle.ftd_store.specs.Cells.{pay_run_cells, stored_payment_cells, payment_cells}
use Rattle.ftd_store.specs.Cells.{obligation_cells, account_obligation_cells}
use Rattle.ftd_store.specs.Rows.{account_row, form_row, reported_row, reported_year_row}
use Rattle.ftd_store.specs.Rows.{calendar_year_row, run_row, payment_row}
use Rattle.ftd_store.specs.DaySums.{IsLiveRun}
use Rattle.ftd_store.specs.Finds.{IsHoliday, IsLivePayment, IsObligation, IsAccountObligation}

pub same_int : (a b : ℤ) → int_eq a b ≡ true → a ≡ b
same_int a b h = (Decides-int_eq a b).0 h

-- a row that passes the test, and shows the cells of a value, is a row of that value
abbrev pub IsTold : {X Y : Type 0} → (X → Bool) → (X → Row) → (Y → Row) → (X → Y → Type 0) → Type 0
IsTold {X} {Y} test shown cells IsRowOf =
    (x : X) (y : Y) → test x ≡ true → shown x ≡ cells y → IsRowOf x y

-- what the tests of a row, and the cells that it shows, say of it
pub ruleset row_told = (rules, and_parts, same_text, same_int)

-- ---- accounts, their forms, and what they reported

pub account_is : (name : List ℕ) → IsTold (is_account name) account_shown account_cells
    (λ x a. x ≡ account_row name a)
account_is name x a passes h = search row_told

pub form_is : (account : List ℕ) → IsTold (is_form_of account) form_shown form_cells
    (λ x form. x ≡ form_row account form)
form_is account x form passes h = search row_told

pub reported_is : (account : List ℕ) (quarter : ℕ)
    → IsTold (is_reported account (pos (quarter_year quarter)) (pos (quarter_number quarter)))
    reported_shown cents_cells (λ x cents. x ≡ reported_row account quarter cents)
reported_is account quarter x cents passes h = search row_told

pub reported_year_is : (account : List ℕ) (year : ℕ) → IsTold (is_reported_year account (pos year))
    reported_year_shown cents_cells (λ x cents. x ≡ reported_year_row account year cents)
reported_year_is account year x cents passes h = search row_told

-- ---- calendars

pub calendar_year_is : (year : ℕ) → IsTold (is_calendar_year (pos year)) calendar_year_shown
    count_cells (λ x n. x ≡ calendar_year_row year)
calendar_year_is year x n passes h = search row_told

pub holiday_is : (year : ℕ) → IsTold (is_holiday_of (pos year)) holiday_shown day_cells
    (IsHoliday year)
holiday_is year x day passes h = search row_told

-- ---- runs

pub run_is : (account : List ℕ) (number : ℕ) → IsTold (is_run account (pos number)) run_shown
    stored_run_cells (λ x r. x ≡ run_row account (pos number) r.value r.voided)
run_is account number x r passes h = search row_told

pub live_run_is : (account : List ℕ) (from to : ℤ) → IsTold (is_live_run_between account from to)
    live_run_shown pay_run_cells (IsLiveRun account)
live_run_is account from to x r passes h = (x.number, search row_told)

-- ---- payments

pub payment_is : (account : List ℕ) (number : ℕ) → IsTold (is_payment account (pos number))
    payment_shown stored_payment_cells
    (λ x p. x ≡ payment_row account (pos number) p.value p.voided)
payment_is account number x p passes h = search row_told

pub live_payment_is : (account : List ℕ) (from to : ℤ)
    → IsTold (is_live_payment_between account from to) live_payment_shown payment_cells
    (IsLivePayment account)
live_payment_is account from to x p passes h = (x.number, search row_told)

-- ---- obligations

pub obligation_is : (account : List ℕ) (from to : ℤ)
    → IsTold (is_obligation_between account from to) obligation_shown obligation_cells
    (IsObligation account)
obligation_is account from to x o passes h = search row_told

pub account_obligation_is : (x : ObligationRow) (o : AccountObligation)
    → account_obligation_shown x ≡ account_obligation_cells o → IsAccountObligation x o
account_obligation_is x o h = search rules
