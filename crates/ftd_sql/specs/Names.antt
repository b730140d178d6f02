-- The names of the desk's tables.
use Rattle.std.specs.Prelude.{ℕ, Bool, List, [], ◌∷◌, codes, ◌||◌, is_some, nat_lt, filter}
use Rattle.std.specs.List.{list_any}
use Rattle.sqlite_schema.specs.declared.schema.Schema.{Schema}
use Rattle.sqlite_schema.specs.Names.{table_named, view_named, index_named}
use Rattle.ftd_sql.specs.declared.TableName.{TableName}
use Rattle.ftd_sql.specs.declared.TableName.TheVariants.{Metas, Accounts, ReportedQuarters}
use Rattle.ftd_sql.specs.declared.TableName.TheVariants.{CalendarYears, Holidays, Years, Runs}
use Rattle.ftd_sql.specs.declared.TableName.TheVariants.{Payments, Obligations, Forms}
use Rattle.ftd_sql.specs.declared.TableName.TheVariants.{ReportedYears, AddedHolidays}
use Rattle.ftd_sql.specs.declared.TableName.TheVariants.{CorrectedQuarters, CorrectedYears}
use Rattle.ftd_sql.specs.declared.TableName.TheVariants.{ChangedHolidays, CorrectedAccounts}

-- as it is written in SQL
abbrev pub name_of : TableName → List ℕ
name_of Metas = codes "ftd_meta"
name_of Accounts = codes "account"
name_of ReportedQuarters = codes "reported"
name_of CalendarYears = codes "calendar_year"
name_of Holidays = codes "holiday"
name_of Years = codes "year"
name_of Runs = codes "run"
name_of Payments = codes "payment"
name_of Obligations = codes "bucket"
name_of Forms = codes "account_form"
name_of ReportedYears = codes "reported_year"
name_of AddedHolidays = codes "added_holiday"
name_of CorrectedQuarters = codes "corrected"
name_of CorrectedYears = codes "corrected_year"
name_of ChangedHolidays = codes "changed_holiday"
name_of CorrectedAccounts = codes "corrected_account"

-- in the order in which they are made
abbrev pub all_names : List TableName
all_names =
    Metas ∷ Accounts ∷ ReportedQuarters ∷ CalendarYears ∷ Holidays ∷ Years ∷ Runs ∷ Payments
    ∷ Obligations ∷ Forms ∷ ReportedYears ∷ AddedHolidays ∷ CorrectedQuarters ∷ CorrectedYears
    ∷ ChangedHolidays ∷ CorrectedAccounts ∷ []

-- the version of the tables that had the table first
abbrev pub since : TableName → ℕ
since Forms = 2
since ReportedYears = 2
since AddedHolidays = 2
since CorrectedQuarters = 3
since CorrectedYears = 3
since ChangedHolidays = 3
since CorrectedAccounts = 3
since n = 1

-- those that came after this version, in the order in which they are made
abbrev pub later_names : ℕ → List TableName
later_names version = filter (λ n. nat_lt version (since n)) all_names

-- a table, a view or an index has the name; small and capital letters are not told apart
abbrev pub is_taken : Schema → List ℕ → Bool
is_taken s name =
    is_some (table_named s name) || (is_some (view_named s name) || is_some (index_named s name))

-- one of these names is taken
abbrev pub has_any : List TableName → Schema → Bool
has_any names s = list_any (λ n. is_taken s (name_of n)) names
