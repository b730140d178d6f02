-- What is kept, as CSV and as JSON.
use Rattle.std.specs.Prelude.{ℕ, List, [], ◌∷◌, codes, Some, if◌then◌else◌}
use Rattle.ftd_days.specs.Text.{quarter_text}
use Rattle.ftd_machine.specs.declared.entries.ReturnPeriod.{ReturnPeriod}
use Rattle.ftd_machine.specs.declared.entries.ReturnPeriod.TheVariants.{Quarter, Year}
use Rattle.ftd_machine.specs.declared.kept.KeptAccount.{KeptAccount}
use Rattle.ftd_machine.specs.declared.kept.KeptHoliday.{KeptHoliday}
use Rattle.ftd_machine.specs.declared.kept.KeptPayment.{KeptPayment}
use Rattle.ftd_machine.specs.declared.kept.KeptRun.{KeptRun}
use Rattle.ftd_machine.specs.declared.kept.KeptTotal.{KeptTotal}
use Rattle.ftd_machine.specs.declared.kept.KeptYear.{KeptYear}
use Rattle.ftd_machine.specs.declared.kept.KeptRows.{KeptRows}
use Rattle.ftd_machine.specs.declared.kept.KeptRows.TheVariants as rows
use Rattle.ftd_answers.specs.Agendas.{form_number}
use Rattle.ftd_answers.specs.Fields.{Field, Shown, as_cents, as_day, as_flag, as_number, as_text}
use Rattle.ftd_answers.specs.Fields.{both, csv_of, each, header_of, json_alone, json_of, none_void}
use Rattle.ftd_answers.specs.Fields.{object_told, or_none, record_told, told_by}
use Rattle.ftd_answers.specs.declared.formats.ListFormat.{ListFormat}
use Rattle.ftd_answers.specs.declared.formats.ListFormat.TheVariants.{Text, Csv, Json}
use Rattle.ftd_answers.specs.Listings.{kept_text, kind_name}

-- ---- the fields of a row; in CSV each has the name that it has in a sheet which is imported, and
-- in JSON that which it has in the request which enters it

-- the account of which a row is
abbrev pub account_field : {T : Type 0} → (T → List ℕ) → Field T
account_field name = each (codes "employer") (codes "account") (λ x. as_text (name x))

-- an account: its first day, whether it is carried, and the form that it files
abbrev pub account_fields : List (Field KeptAccount)
account_fields =
    account_field (λ x. x.name)
    ∷ each (codes "first_day") (codes "start") (λ x. as_day x.account.start)
    ∷ both (codes "carried") (λ x. as_flag x.account.carried)
    ∷ both (codes "form") (λ x. as_text (form_number x.account.form)) ∷ []

-- an open year of an account: its lookback total, the schedule that it opens with, whether the
-- account is carried into it, the day on which it turned, and its lookback total by what was first
-- reported
abbrev pub year_fields : List ℕ → List (Field KeptYear)
year_fields account =
    account_field (λ x. account) ∷ both (codes "year") (λ x. as_number x.line.year)
    ∷ both (codes "lookback") (λ x. as_cents x.line.lookback.0)
    ∷ both (codes "opening") (λ x. as_text (kind_name x.line.opening))
    ∷ both (codes "carried") (λ x. as_flag x.line.carried)
    ∷ both (codes "turned") (λ x. or_none as_day x.line.turn)
    ∷ both (codes "first_lookback") (λ x. as_cents x.first_lookback.0) ∷ []

-- a reported total of an account: its quarter or year, the amount that is in force, and the amount
-- that was first reported
abbrev pub period_name : ReturnPeriod → List ℕ
period_name (Quarter quarter) = codes "quarter"
period_name (Year year) = codes "year"

abbrev pub period_shown : ReturnPeriod → Shown
period_shown (Quarter quarter) = as_text (quarter_text quarter)
period_shown (Year year) = as_number year

abbrev pub total_fields : List ℕ → List (Field KeptTotal)
total_fields account =
    account_field (λ x. account)
    ∷ record {
      column = Some (codes "period");
      name = λ x. period_name x.period;
      value = λ x. period_shown x.period;
    }
    ∷ both (codes "amount") (λ x. as_cents x.cents.0)
    ∷ json_alone (codes "first") (λ x. as_cents x.first.0) ∷ []

-- a day that was given or added as a holiday: whether it was added to its year, and whether it is a
-- holiday
abbrev pub holiday_fields : List (Field KeptHoliday)
holiday_fields =
    both (codes "day") (λ x. as_day x.day) ∷ both (codes "added") (λ x. as_flag x.added)
    ∷ both (codes "holiday") (λ x. as_flag x.is_holiday) ∷ []

-- a pay run of an account: its number, its payday, its three amounts, and whether it was voided
abbrev pub run_fields : List ℕ → List (Field KeptRun)
run_fields account =
    account_field (λ x. account) ∷ both (codes "run") (λ x. as_number x.number)
    ∷ both (codes "payday") (λ x. as_day x.run.payday)
    ∷ both (codes "fit") (λ x. as_cents x.run.fit.0)
    ∷ both (codes "ss") (λ x. as_cents x.run.ss.0)
    ∷ both (codes "medicare") (λ x. as_cents x.run.medicare.0)
    ∷ json_alone (codes "void") (λ x. as_flag x.voided) ∷ []

-- a payment of an account: its number, the day on which it was paid, the day that it is for, its
-- amount, the first day of the obligation that it counts for, and whether it was voided
abbrev pub payment_fields : List ℕ → List (Field KeptPayment)
payment_fields account =
    account_field (λ x. account) ∷ both (codes "payment") (λ x. as_number x.number)
    ∷ both (codes "paid") (λ x. as_day x.payment.paid)
    ∷ both (codes "for") (λ x. as_day x.payment.for_day)
    ∷ both (codes "amount") (λ x. as_cents x.payment.cents.0)
    ∷ json_alone (codes "obligation") (λ x. or_none as_day x.obligation)
    ∷ json_alone (codes "void") (λ x. as_flag x.voided) ∷ []

-- ---- CSV: runs and payments that were voided have no record

abbrev pub records_head : List ℕ
records_head = header_of (run_fields [])

abbrev pub run_record : List ℕ → KeptRun → List ℕ
run_record account x = record_told (run_fields account) x

abbrev pub live_record : List ℕ → KeptRun → List ℕ
live_record account x = if x.voided then [] else run_record account x

-- runs as they are imported
unfoldable pub runs_csv : List ℕ → List KeptRun → List ℕ
runs_csv account listed = csv_of (λ x. x.voided) (run_fields account) listed

-- what is kept of an account; all accounts and holidays are of none
unfoldable pub rows_csv : KeptRows → List ℕ
rows_csv (rows.Accounts listed) = csv_of none_void account_fields listed
rows_csv (rows.Years account listed) = csv_of none_void (year_fields account) listed
rows_csv (rows.Reported account listed) = csv_of none_void (total_fields account) listed
rows_csv (rows.Holidays year listed) = csv_of none_void holiday_fields listed
rows_csv (rows.Runs account quarter listed) = runs_csv account listed
rows_csv (rows.Payments account quarter listed) =
    csv_of (λ x. x.voided) (payment_fields account) listed

-- ---- JSON: a list of objects, also of what was voided

abbrev pub payment_object : List ℕ → KeptPayment → List ℕ
payment_object account x = object_told (told_by (payment_fields account) x)

unfoldable pub rows_json : KeptRows → List ℕ
rows_json (rows.Accounts listed) = json_of account_fields [] listed
rows_json (rows.Years account listed) = json_of (year_fields account) [] listed
rows_json (rows.Reported account listed) = json_of (total_fields account) [] listed
rows_json (rows.Holidays year listed) = json_of holiday_fields [] listed
rows_json (rows.Runs account quarter listed) = json_of (run_fields account) [] listed
rows_json (rows.Payments account quarter listed) = json_of (payment_fields account) [] listed

-- ---- in a format

abbrev pub kept_as : ListFormat → KeptRows → List ℕ
kept_as Text told = kept_text told
kept_as Csv told = rows_csv told
kept_as Json told = rows_json told
