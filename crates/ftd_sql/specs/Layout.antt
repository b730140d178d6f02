-- The columns, keys and references of the tables.
use Rattle.std.specs.Prelude.{ℕ, List, [], ◌∷◌, codes, Bool, true, false}
use Rattle.sqlite.specs.Table.{Table}
use Rattle.sqlite_schema.specs.declared.schema.Column.{Column}
use Rattle.sqlite_schema.specs.declared.schema.Reference.{Reference}
use Rattle.ftd_sql.specs.Tables.{a_text, a_number, maybe_number, refers, a_table}
use Rattle.ftd_sql.specs.declared.TableName.{TableName}
use Rattle.ftd_sql.specs.declared.TableName.TheVariants.{Metas, Accounts, ReportedQuarters}
use Rattle.ftd_sql.specs.declared.TableName.TheVariants.{CalendarYears, Holidays, Years, Runs}
use Rattle.ftd_sql.specs.declared.TableName.TheVariants.{Payments, Obligations, Forms}
use Rattle.ftd_sql.specs.declared.TableName.TheVariants.{ReportedYears, AddedHolidays}
use Rattle.ftd_sql.specs.declared.TableName.TheVariants.{CorrectedQuarters, CorrectedYears}
use Rattle.ftd_sql.specs.declared.TableName.TheVariants.{ChangedHolidays, CorrectedAccounts}
use Rattle.ftd_sql.specs.Names.{name_of}

abbrev pub columns_of : TableName → List Column
columns_of Metas = a_text (codes "tag") ∷ a_number (codes "version") ∷ []
columns_of Accounts =
    a_text (codes "name") ∷ a_number (codes "start") ∷ a_number (codes "carried") ∷ []
columns_of ReportedQuarters =
    a_text (codes "account") ∷ a_number (codes "cal_year") ∷ a_number (codes "quarter")
    ∷ a_number (codes "cents") ∷ []
columns_of CalendarYears = a_number (codes "cal_year") ∷ []
columns_of Holidays = a_number (codes "day") ∷ a_number (codes "cal_year") ∷ []
columns_of Years =
    a_text (codes "account") ∷ a_number (codes "cal_year") ∷ a_number (codes "lookback")
    ∷ a_number (codes "opening") ∷ maybe_number (codes "turn") ∷ []
columns_of Runs =
    a_text (codes "account") ∷ a_number (codes "run") ∷ a_number (codes "payday")
    ∷ a_number (codes "fit") ∷ a_number (codes "ss") ∷ a_number (codes "medicare")
    ∷ a_number (codes "voided") ∷ []
columns_of Payments =
    a_text (codes "account") ∷ a_number (codes "payment") ∷ a_number (codes "paid")
    ∷ a_number (codes "for_day") ∷ a_number (codes "cents") ∷ a_number (codes "voided") ∷ []
columns_of Obligations =
    a_text (codes "account") ∷ a_number (codes "first_day") ∷ a_number (codes "last_day")
    ∷ a_number (codes "rule") ∷ a_number (codes "cents") ∷ a_number (codes "due") ∷ []
columns_of Forms = a_text (codes "account") ∷ a_number (codes "form") ∷ []
columns_of ReportedYears =
    a_text (codes "account") ∷ a_number (codes "cal_year") ∷ a_number (codes "cents") ∷ []
columns_of AddedHolidays = a_number (codes "day") ∷ a_number (codes "cal_year") ∷ []
columns_of CorrectedQuarters =
    a_text (codes "account") ∷ a_number (codes "cal_year") ∷ a_number (codes "quarter")
    ∷ a_number (codes "number") ∷ a_number (codes "cents") ∷ []
columns_of CorrectedYears =
    a_text (codes "account") ∷ a_number (codes "cal_year") ∷ a_number (codes "number")
    ∷ a_number (codes "cents") ∷ []
columns_of ChangedHolidays =
    a_number (codes "day") ∷ a_number (codes "number") ∷ a_number (codes "is_holiday")
    ∷ a_number (codes "cal_year") ∷ []
columns_of CorrectedAccounts =
    a_text (codes "account") ∷ a_number (codes "number") ∷ a_number (codes "start")
    ∷ a_number (codes "carried") ∷ []

-- how many of the first columns are the key
abbrev pub key_of : TableName → List ℕ
key_of ReportedQuarters = 1 ∷ 2 ∷ 3 ∷ []
key_of Years = 1 ∷ 2 ∷ []
key_of Runs = 1 ∷ 2 ∷ []
key_of Payments = 1 ∷ 2 ∷ []
key_of Obligations = 1 ∷ 2 ∷ []
key_of ReportedYears = 1 ∷ 2 ∷ []
key_of CorrectedQuarters = 1 ∷ 2 ∷ 3 ∷ 4 ∷ []
key_of CorrectedYears = 1 ∷ 2 ∷ 3 ∷ []
key_of ChangedHolidays = 1 ∷ 2 ∷ []
key_of CorrectedAccounts = 1 ∷ 2 ∷ []
key_of n = 1 ∷ []

abbrev to_account : Reference
to_account = refers (1 ∷ []) (codes "account") (codes "name")

-- to the account, or from a holiday to its year
abbrev pub references_of : TableName → List Reference
references_of Metas = []
references_of Accounts = []
references_of CalendarYears = []
references_of Holidays = refers (2 ∷ []) (codes "calendar_year") (codes "cal_year") ∷ []
references_of AddedHolidays = refers (2 ∷ []) (codes "calendar_year") (codes "cal_year") ∷ []
references_of ChangedHolidays = refers (4 ∷ []) (codes "calendar_year") (codes "cal_year") ∷ []
references_of n = to_account ∷ []

-- the table at this tree
abbrev pub table_of : TableName → ℕ → Table
table_of n tree = a_table (name_of n) (columns_of n) (key_of n) (references_of n) tree

-- rows of these tables are changed or taken out, and not only added
abbrev pub is_rewritten : TableName → Bool
is_rewritten Metas = true
is_rewritten Years = true
is_rewritten Runs = true
is_rewritten Payments = true
is_rewritten Obligations = true
is_rewritten n = false
