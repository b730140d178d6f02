-- What a list of what is kept tells of the tables.
use Rattle.std.specs.Prelude.{◌≡◌, ℕ, pos, List, Vec, filter, string_bytes}
use Rattle.ftd_sql.specs.Orders.{NamesRise, FormsRise, QuartersRise, ReportedYearsRise, RunsRise}
use Rattle.ftd_sql.specs.Orders.{PaymentsRise}
use Rattle.ftd_sql.specs.Rows.{AccountRow, FormRow, ReportedQuarterRow, ReportedYearRow, RunRow}
use Rattle.ftd_sql.specs.Rows.{PaymentRow}
use Rattle.ftd_sql.specs.Standing.{Tables}
use Rattle.ftd_sql.specs.Tests.{is_any_account, is_any_form, is_reported_of}
use Rattle.ftd_sql.specs.Tests.{is_reported_year_of, is_run_between, is_payment_between}
use Rattle.ftd_sql.specs.declared.TableName.TheVariants.{Accounts, Forms, ReportedQuarters}
use Rattle.ftd_sql.specs.declared.TableName.TheVariants.{ReportedYears, Runs, Payments}
use Rattle.ftd_store.specs.Cells.{day_number}
use Rattle.ftd_store.specs.Lists.{Lists}
use Rattle.ftd_store.specs.Rows.{account_row, form_row, reported_row, reported_year_row, run_row}
use Rattle.ftd_store.specs.Rows.{payment_row}
use Rattle.ftd_store.specs.declared.kept_cells.NamedAccount.{NamedAccount}
use Rattle.ftd_store.specs.declared.kept_cells.NamedForm.{NamedForm}
use Rattle.ftd_store.specs.declared.kept_cells.NumberedPayment.{NumberedPayment}
use Rattle.ftd_store.specs.declared.kept_cells.NumberedRun.{NumberedRun}
use Rattle.ftd_store.specs.declared.kept_cells.QuarterTotal.{QuarterTotal}
use Rattle.ftd_store.specs.declared.kept_cells.YearTotal.{YearTotal}

-- all accounts, by name
abbrev pub IsNamedAccount : AccountRow → NamedAccount → Type 0
IsNamedAccount row x = row ≡ account_row (string_bytes x.name) x.account

abbrev pub ListsEnrolled : {A : Type 0} → Vec NamedAccount A → Tables → Type 0
ListsEnrolled listed t =
    Lists NamesRise IsNamedAccount (filter is_any_account (t Accounts)) listed.items

-- the forms of all accounts, by account
abbrev pub IsNamedForm : FormRow → NamedForm → Type 0
IsNamedForm row x = row ≡ form_row (string_bytes x.account) x.form

abbrev pub ListsForms : {A : Type 0} → Vec NamedForm A → Tables → Type 0
ListsForms listed t = Lists FormsRise IsNamedForm (filter is_any_form (t Forms)) listed.items

-- the totals that the account reported for quarters, by quarter
abbrev pub IsQuarterTotal : List ℕ → ReportedQuarterRow → QuarterTotal → Type 0
IsQuarterTotal account row x = row ≡ reported_row account x.quarter x.cents

abbrev pub ListsReported : {A : Type 0} → List ℕ → Vec QuarterTotal A → Tables → Type 0
ListsReported account listed t =
    Lists QuartersRise (IsQuarterTotal account)
    (filter (is_reported_of account) (t ReportedQuarters)) listed.items

-- the totals that the account reported for years, by year
abbrev pub IsYearTotal : List ℕ → ReportedYearRow → YearTotal → Type 0
IsYearTotal account row x = row ≡ reported_year_row account x.year x.cents

abbrev pub ListsReportedYears : {A : Type 0} → List ℕ → Vec YearTotal A → Tables → Type 0
ListsReportedYears account listed t =
    Lists ReportedYearsRise (IsYearTotal account)
    (filter (is_reported_year_of account) (t ReportedYears)) listed.items

-- the account's runs with a payday between two days, void ones too, by payday and number
abbrev pub IsNumberedRun : List ℕ → RunRow → NumberedRun → Type 0
IsNumberedRun account row x = row ≡ run_row account (pos x.number) x.run.value x.run.voided

abbrev pub ListsKeptRuns : {A : Type 0} → List ℕ → ℕ → ℕ → Vec NumberedRun A → Tables → Type 0
ListsKeptRuns account from to listed t =
    Lists RunsRise (IsNumberedRun account)
    (filter (is_run_between account (day_number from) (day_number to)) (t Runs)) listed.items

-- the account's payments for days between two, void ones too, by that day and number
abbrev pub IsNumberedPayment : List ℕ → PaymentRow → NumberedPayment → Type 0
IsNumberedPayment account row x =
    row ≡ payment_row account (pos x.number) x.payment.value x.payment.voided

abbrev pub ListsKeptPayments : {A : Type 0} → List ℕ → ℕ → ℕ → Vec NumberedPayment A → Tables
    → Type 0
ListsKeptPayments account from to listed t =
    Lists PaymentsRise (IsNumberedPayment account)
    (filter (is_payment_between account (day_number from) (day_number to)) (t Payments))
    listed.items
