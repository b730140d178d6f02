-- A database that stands for typed rows, wherever in its schema the desk's tables stand.
use Rattle.std.specs.Prelude.{◌≡◌, ◌≢◌, ◌≤◌, ℕ, List, [], nat_lt, if◌then◌else◌}
use Rattle.sqlite.specs.Effect.{Database}
use Rattle.sqlite.specs.Table.{Table}
use Rattle.ftd_sql.specs.Places.{IsAt, Holds}
use Rattle.ftd_sql.specs.declared.TableName.{TableName}
use Rattle.ftd_sql.specs.declared.TableName.TheVariants.{Metas, Accounts, ReportedQuarters}
use Rattle.ftd_sql.specs.declared.TableName.TheVariants.{CalendarYears, Holidays, Years, Runs}
use Rattle.ftd_sql.specs.declared.TableName.TheVariants.{Payments, Obligations, Forms}
use Rattle.ftd_sql.specs.declared.TableName.TheVariants.{ReportedYears, AddedHolidays}
use Rattle.ftd_sql.specs.declared.TableName.TheVariants.{CorrectedQuarters, CorrectedYears}
use Rattle.ftd_sql.specs.declared.TableName.TheVariants.{ChangedHolidays, CorrectedAccounts}
use Rattle.ftd_sql.specs.Names.{name_of, since}
use Rattle.ftd_sql.specs.Rows.{RowOf, cells_of}
use Rattle.ftd_sql.specs.Layout.{table_of, is_rewritten}

-- the rows of each table
abbrev pub Tables : Type 0
Tables = (n : TableName) → List (RowOf n)

abbrev pub no_rows : Tables
no_rows n = []

-- the same tables, but with these rows in one of them
abbrev pub with_rows : (n : TableName) → List (RowOf n) → Tables → (m : TableName) → List (RowOf m)
with_rows Metas rows t Metas = rows
with_rows Accounts rows t Accounts = rows
with_rows ReportedQuarters rows t ReportedQuarters = rows
with_rows CalendarYears rows t CalendarYears = rows
with_rows Holidays rows t Holidays = rows
with_rows Years rows t Years = rows
with_rows Runs rows t Runs = rows
with_rows Payments rows t Payments = rows
with_rows Obligations rows t Obligations = rows
with_rows Forms rows t Forms = rows
with_rows ReportedYears rows t ReportedYears = rows
with_rows AddedHolidays rows t AddedHolidays = rows
with_rows CorrectedQuarters rows t CorrectedQuarters = rows
with_rows CorrectedYears rows t CorrectedYears = rows
with_rows ChangedHolidays rows t ChangedHolidays = rows
with_rows CorrectedAccounts rows t CorrectedAccounts = rows
with_rows n rows t m = t m

-- the database stands for these rows
abbrev pub Stands : Database → Tables → Type 0
Stands db t =
    (n : TableName) → Holds (is_rewritten n) db (name_of n) (table_of n) (cells_of n) (t n)

-- the name is none of the desk's
abbrev pub IsForeign : List ℕ → Type 0
IsForeign name = (n : TableName) → name ≢ name_of n

-- every table of another name is there still, at its place, and has its rows
abbrev pub KeepsForeign : Database → Database → Type 0
KeepsForeign old new =
    (name : List ℕ) (t : Table) (at : ℕ) → IsAt old.schema name t at → IsForeign t.name
    → IsAt new.schema name t at × (new.trees t.tree ≡ old.trees t.tree)

-- the database stands for these rows now, and keeps every table of another name
abbrev pub Becomes : Database → Database → Tables → Type 0
Becomes old new t = Stands new t × KeepsForeign old new

-- ---- earlier versions

-- the database stands for these rows of the tables of this version
abbrev pub StandsAs : ℕ → Database → Tables → Type 0
StandsAs version db t =
    (n : TableName) → since n ≤ version
    → Holds (is_rewritten n) db (name_of n) (table_of n) (cells_of n) (t n)

-- the rows of the tables of this version, and none in those that came after it
abbrev pub rows_as : ℕ → Tables → (n : TableName) → List (RowOf n)
rows_as version t n = if nat_lt version (since n) then [] else t n
