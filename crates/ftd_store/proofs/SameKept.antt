-- The row that a listed value stands for.
use Rattle.std.proofs.Common.{◌≡◌, ℕ, ℤ, List, rules}
use Rattle.ftd_sql.specs.Answers.{enrolled_shown, account_form_shown, quarter_total_shown}
use Rattle.ftd_sql.specs.Answers.{year_total_shown, kept_run_shown, kept_payment_shown}
use Rattle.ftd_sql.specs.Rows.{AccountRow, FormRow}
use Rattle.ftd_sql.specs.Tests.{is_reported_of, is_reported_year_of, is_run_between}
use Rattle.ftd_sql.specs.Tests.{is_payment_between}
use Rattle.ftd_store.specs.KeptRows.{named_account_cells, named_form_cells, quarter_total_cells}
use Rattle.ftd_store.specs.KeptRows.{year_total_cells, numbered_run_cells, numbered_payment_cells}
use Rattle.ftd_store.specs.declared.kept_cells.NamedAccount.{NamedAccount}
use Rattle.ftd_store.specs.declared.kept_cells.NamedForm.{NamedForm}
use Rattle.ftd_store.specs.Kept.{IsNamedAccount, IsNamedForm, IsQuarterTotal, IsYearTotal}
use Rattle.ftd_store.specs.Kept.{IsNumberedRun, IsNumberedPayment}
use Rattle.ftd_store.proofs.Same.{IsTold, row_told}

pub named_account_is : (x : AccountRow) (a : NamedAccount)
    → enrolled_shown x ≡ named_account_cells a → IsNamedAccount x a
named_account_is x a h = search rules

pub named_form_is : (x : FormRow) (f : NamedForm) → account_form_shown x ≡ named_form_cells f
    → IsNamedForm x f
named_form_is x f h = search rules

pub quarter_total_is : (account : List ℕ) → IsTold (is_reported_of account) quarter_total_shown
    quarter_total_cells (IsQuarterTotal account)
quarter_total_is account x q passes h = search row_told

pub year_total_is : (account : List ℕ) → IsTold (is_reported_year_of account) year_total_shown
    year_total_cells (IsYearTotal account)
year_total_is account x y passes h = search row_told

pub numbered_run_is : (account : List ℕ) (from to : ℤ) → IsTold (is_run_between account from to)
    kept_run_shown numbered_run_cells (IsNumberedRun account)
numbered_run_is account from to x r passes h = search row_told

pub numbered_payment_is : (account : List ℕ) (from to : ℤ)
    → IsTold (is_payment_between account from to) kept_payment_shown numbered_payment_cells
    (IsNumberedPayment account)
numbered_payment_is account from to x p passes h = search row_told
