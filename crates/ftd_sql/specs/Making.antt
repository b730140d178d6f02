-- The texts that make each table and add a row to it, and a database in which the tables can be
-- made.
use Rattle.std.specs.Prelude.{◌≡◌, ℕ, List, [], IsTrue, false}
use Rattle.std.specs.List.{All}
use Rattle.sqlite.specs.Schema.{Schema}
use Rattle.sqlite.specs.Does.{lacks_sequence}
use Rattle.sqlite.specs.Effect.{Database}
use Rattle.ftd_sql.specs.Places.{IsUnnamed, Holds}
use Rattle.ftd_sql.specs.declared.TableName.{TableName}
use Rattle.ftd_sql.specs.declared.TableName.TheVariants.{Metas, Accounts, ReportedQuarters}
use Rattle.ftd_sql.specs.declared.TableName.TheVariants.{CalendarYears, Holidays, Years, Runs}
use Rattle.ftd_sql.specs.declared.TableName.TheVariants.{Payments, Obligations, Forms}
use Rattle.ftd_sql.specs.declared.TableName.TheVariants.{ReportedYears, AddedHolidays}
use Rattle.ftd_sql.specs.declared.TableName.TheVariants.{CorrectedQuarters, CorrectedYears}
use Rattle.ftd_sql.specs.declared.TableName.TheVariants.{ChangedHolidays, CorrectedAccounts}
use Rattle.ftd_sql.specs.Names.{name_of, all_names}
use Rattle.ftd_sql.specs.Rows.{cells_of}
use Rattle.ftd_sql.specs.Layout.{table_of, is_rewritten}
use Rattle.ftd_sql.specs.declared.texts.TheConstants as text

abbrev pub create_of : TableName → List ℕ
create_of Metas = text.CREATE_METAS.now
create_of Accounts = text.CREATE_ACCOUNTS.now
create_of ReportedQuarters = text.CREATE_REPORTED_QUARTERS.now
create_of CalendarYears = text.CREATE_CALENDAR_YEARS.now
create_of Holidays = text.CREATE_HOLIDAYS.now
create_of Years = text.CREATE_YEARS.now
create_of Runs = text.CREATE_RUNS.now
create_of Payments = text.CREATE_PAYMENTS.now
create_of Obligations = text.CREATE_OBLIGATIONS.now
create_of Forms = text.CREATE_FORMS.now
create_of ReportedYears = text.CREATE_REPORTED_YEARS.now
create_of AddedHolidays = text.CREATE_ADDED_HOLIDAYS.now
create_of CorrectedQuarters = text.CREATE_CORRECTED_QUARTERS.now
create_of CorrectedYears = text.CREATE_CORRECTED_YEARS.now
create_of ChangedHolidays = text.CREATE_CHANGED_HOLIDAYS.now
create_of CorrectedAccounts = text.CREATE_CORRECTED_ACCOUNTS.now

abbrev pub add_of : TableName → List ℕ
add_of Metas = text.ADD_META.now
add_of Accounts = text.ADD_ACCOUNT.now
add_of ReportedQuarters = text.ADD_REPORTED.now
add_of CalendarYears = text.ADD_CALENDAR_YEAR.now
add_of Holidays = text.ADD_HOLIDAY.now
add_of Years = text.ADD_YEAR.now
add_of Runs = text.ADD_RUN.now
add_of Payments = text.ADD_PAYMENT.now
add_of Obligations = text.ADD_OBLIGATION.now
add_of Forms = text.ADD_FORM.now
add_of ReportedYears = text.ADD_REPORTED_YEAR.now
add_of AddedHolidays = text.ADD_ADDED_HOLIDAY.now
add_of CorrectedQuarters = text.ADD_CORRECTED.now
add_of CorrectedYears = text.ADD_CORRECTED_YEAR.now
add_of ChangedHolidays = text.ADD_CHANGED_HOLIDAY.now
add_of CorrectedAccounts = text.ADD_CORRECTED_ACCOUNT.now

-- these tables can be made: where their rows are ever changed or taken out, no foreign key with an
-- action names them, and no sqlite_sequence is missing
pub record AreFree (names : List TableName) (s : Schema) : Type 0 where
  pub unnamed : All (λ n. IsTrue (is_rewritten n) → IsUnnamed s (name_of n)) names
  pub counted : lacks_sequence s ≡ false

-- all of them can be made
abbrev pub IsFree : Schema → Type 0
IsFree s = AreFree all_names s

-- these tables hold no rows
abbrev pub AreEmpty : List TableName → Database → Type 0
AreEmpty names db =
    All (λ n. Holds (is_rewritten n) db (name_of n) (table_of n) (cells_of n) []) names
