-- What is kept.
use Rattle.std.specs.Prelude.{ℕ, Bool, true, false, List, [], ◌∷◌, codes, Option, None}
use Rattle.std.specs.Prelude.{if◌then◌else◌, option_map}
use Rattle.std.specs.Fmt.{decimal}
use Rattle.std.specs.Str.{bytes_eq}
use Rattle.ftd_days.specs.Text.{quarter_text}
use Rattle.ftd_machine.specs.declared.kept.KeptAccount.{KeptAccount}
use Rattle.ftd_machine.specs.declared.kept.KeptHoliday.{KeptHoliday}
use Rattle.ftd_machine.specs.declared.kept.KeptPayment.{KeptPayment}
use Rattle.ftd_machine.specs.declared.kept.KeptRun.{KeptRun}
use Rattle.ftd_machine.specs.declared.kept.KeptTotal.{KeptTotal}
use Rattle.ftd_machine.specs.declared.kept.KeptYear.{KeptYear}
use Rattle.ftd_machine.specs.declared.kept.KeptRows.{KeptRows}
use Rattle.ftd_machine.specs.declared.kept.KeptRows.TheVariants as rows
use Rattle.ftd_answers.specs.KeptForms.{account_fields, holiday_fields, payment_fields, run_fields}
use Rattle.ftd_answers.specs.KeptForms.{total_fields, year_fields}
use Rattle.ftd_pages.specs.Links.{reason_address, to_account}
use Rattle.ftd_pages.specs.Pages.{titled}
use Rattle.ftd_pages.specs.Rows.{Shape, nowhere}
use Rattle.ftd_pages.specs.Sections.{list_at}
use Rattle.ftd_pages.specs.declared.frames.Place.{Place}
use Rattle.ftd_pages.specs.declared.rows.Class.{Class}
use Rattle.ftd_pages.specs.declared.rows.Class.TheVariants.{Plain, Void}

-- the class of what may have been voided
abbrev pub class_if : Bool → Class
class_if true = Void
class_if false = Plain

-- ---- what a page shows of the rows: the fields of JSON, each with a word

-- the account leads to its page
abbrev pub account_shape : Shape KeptAccount
account_shape = record {
  fields = account_fields;
  words = codes "Account" ∷ codes "First day" ∷ codes "Carried" ∷ codes "Form" ∷ [];
  class = λ x. Plain;
  address = λ x. to_account x.name;
}

abbrev pub year_shape : List ℕ → Shape KeptYear
year_shape account = record {
  fields = year_fields account;
  words = codes "Account" ∷ codes "Year" ∷ codes "Lookback total" ∷ codes "Opens as"
      ∷ codes "Carried" ∷ codes "Turned on" ∷ codes "Lookback total first reported" ∷ [];
  class = λ x. Plain;
  address = nowhere;
}

abbrev pub total_shape : List ℕ → Shape KeptTotal
total_shape account = record {
  fields = total_fields account;
  words = codes "Account" ∷ codes "Period" ∷ codes "Amount" ∷ codes "First reported" ∷ [];
  class = λ x. Plain;
  address = nowhere;
}

abbrev pub holiday_shape : Shape KeptHoliday
holiday_shape = record {
  fields = holiday_fields;
  words = codes "Day" ∷ codes "Added" ∷ codes "Holiday" ∷ [];
  class = λ x. Plain;
  address = nowhere;
}

abbrev pub run_shape : List ℕ → Shape KeptRun
run_shape account = record {
  fields = run_fields account;
  words = codes "Account" ∷ codes "Run" ∷ codes "Payday" ∷ codes "Income tax"
      ∷ codes "Social security" ∷ codes "Medicare" ∷ codes "Void" ∷ [];
  class = λ x. class_if x.voided;
  address = nowhere;
}

-- the obligation that a payment counts for leads to why it is so
abbrev pub payment_address : List ℕ → KeptPayment → List ℕ → Option (List ℕ)
payment_address account x name =
    if bytes_eq name (codes "obligation") then option_map (reason_address account) x.obligation
    else None

abbrev pub payment_shape : List ℕ → Shape KeptPayment
payment_shape account = record {
  fields = payment_fields account;
  words = codes "Account" ∷ codes "Payment" ∷ codes "Paid on" ∷ codes "For" ∷ codes "Amount"
      ∷ codes "Counts for" ∷ codes "Void" ∷ [];
  class = λ x. class_if x.voided;
  address = payment_address account;
}

-- ---- the lists, each at its place

unfoldable pub accounts_at : Place → List KeptAccount → List ℕ
accounts_at place listed =
    let title = titled (codes "Accounts" ∷ []) in
    list_at place [] account_shape title (codes "No account is enrolled.") [] listed

unfoldable pub years_at : Place → List ℕ → List KeptYear → List ℕ
years_at place account listed =
    let title = titled (codes "Open years of " ∷ account ∷ []) in
    list_at place account (year_shape account) title (codes "No year is open.") [] listed

unfoldable pub reported_at : Place → List ℕ → List KeptTotal → List ℕ
reported_at place account listed =
    let title = titled (codes "Reported totals of " ∷ account ∷ []) in
    list_at place account (total_shape account) title (codes "No total was reported.") [] listed

unfoldable pub holidays_at : Place → ℕ → List KeptHoliday → List ℕ
holidays_at place year listed =
    let title = titled (codes "Holidays of " ∷ decimal year ∷ []) in
    list_at place [] holiday_shape title (codes "No holiday was given.") [] listed

unfoldable pub runs_at : Place → List ℕ → ℕ → List KeptRun → List ℕ
runs_at place account quarter listed =
    let title = titled (codes "Pay runs of " ∷ account ∷ codes ", " ∷ quarter_text quarter ∷ []) in
    list_at place account (run_shape account) title (codes "The quarter has no pay runs.") [] listed

unfoldable pub payments_at : Place → List ℕ → ℕ → List KeptPayment → List ℕ
payments_at place account quarter listed =
    let title = titled (codes "Payments of " ∷ account ∷ codes ", " ∷ quarter_text quarter ∷ []) in
    list_at place account (payment_shape account) title (codes "The quarter has no payments.") [] listed

abbrev pub kept_at : Place → KeptRows → List ℕ
kept_at place (rows.Accounts listed) = accounts_at place listed
kept_at place (rows.Years account listed) = years_at place account listed
kept_at place (rows.Reported account listed) = reported_at place account listed
kept_at place (rows.Holidays year listed) = holidays_at place year listed
kept_at place (rows.Runs account quarter listed) = runs_at place account quarter listed
kept_at place (rows.Payments account quarter listed) = payments_at place account quarter listed
