-- The rows of the tables as STRICT columns hold them, texts and whole numbers, and their cells.
use Rattle.std.specs.Prelude.{ℕ, ℤ, List, [], ◌∷◌, Option}
use Rattle.sqlite.specs.declared.types.Value.TheVariants.{Int, Text}
use Rattle.sqlite.specs.Order.{Row}
use Rattle.sqlite.specs.Values.{or_null}
use Rattle.ftd_sql.specs.declared.TableName.{TableName}
use Rattle.ftd_sql.specs.declared.TableName.TheVariants.{Metas, Accounts, ReportedQuarters}
use Rattle.ftd_sql.specs.declared.TableName.TheVariants.{CalendarYears, Holidays, Years, Runs}
use Rattle.ftd_sql.specs.declared.TableName.TheVariants.{Payments, Obligations, Forms}
use Rattle.ftd_sql.specs.declared.TableName.TheVariants.{ReportedYears, AddedHolidays}
use Rattle.ftd_sql.specs.declared.TableName.TheVariants.{CorrectedQuarters, CorrectedYears}
use Rattle.ftd_sql.specs.declared.TableName.TheVariants.{ChangedHolidays, CorrectedAccounts}

-- the mark of the desk's database: its tag, and the version of its tables
pub record MetaRow : Type 0 where
  pub tag : List ℕ
  pub version : ℤ

-- an employer: its name, its first day, and whether it was carried over as semiweekly (1) or not
-- (0)
pub record AccountRow : Type 0 where
  pub name : List ℕ
  pub start : ℤ
  pub carried : ℤ

-- the total that was reported for a quarter
pub record ReportedQuarterRow : Type 0 where
  pub account : List ℕ
  pub year : ℤ
  pub quarter : ℤ
  pub cents : ℤ

-- a year whose holidays are given
pub record CalendarYearRow : Type 0 where
  pub year : ℤ

pub record HolidayRow : Type 0 where
  pub day : ℤ
  pub year : ℤ

-- an open year of an account: its lookback total, how it opens (0 monthly, 1 semiweekly), and its
-- turn
pub record YearRow : Type 0 where
  pub account : List ℕ
  pub year : ℤ
  pub lookback : ℤ
  pub opening : ℤ
  pub turn : Option ℤ

-- a pay run, void (1) or not (0)
pub record RunRow : Type 0 where
  pub account : List ℕ
  pub number : ℤ
  pub payday : ℤ
  pub fit : ℤ
  pub ss : ℤ
  pub medicare : ℤ
  pub voided : ℤ

-- a payment, on a day, for a day, void (1) or not (0)
pub record PaymentRow : Type 0 where
  pub account : List ℕ
  pub number : ℤ
  pub paid : ℤ
  pub for_day : ℤ
  pub cents : ℤ
  pub voided : ℤ

-- an obligation of an account; its rule is 0 for monthly, 1 for semiweekly, 2 for next-day
pub record ObligationRow : Type 0 where
  pub account : List ℕ
  pub first : ℤ
  pub last : ℤ
  pub rule : ℤ
  pub cents : ℤ
  pub due : ℤ

-- the form of an account, 0 for 941 and 1 for 943
pub record FormRow : Type 0 where
  pub account : List ℕ
  pub form : ℤ

-- the total that was reported for a year
pub record ReportedYearRow : Type 0 where
  pub account : List ℕ
  pub year : ℤ
  pub cents : ℤ

-- a correction of the total that was reported for a quarter, with its number
pub record CorrectedQuarterRow : Type 0 where
  pub account : List ℕ
  pub year : ℤ
  pub quarter : ℤ
  pub number : ℤ
  pub cents : ℤ

-- a correction of the total that was reported for a year, with its number
pub record CorrectedYearRow : Type 0 where
  pub account : List ℕ
  pub year : ℤ
  pub number : ℤ
  pub cents : ℤ

-- a change of a day of a given year, with its number: it is no holiday (0), or it is one again (1)
pub record ChangedHolidayRow : Type 0 where
  pub day : ℤ
  pub number : ℤ
  pub is_holiday : ℤ
  pub year : ℤ

-- a correction of an account, with its number: its first day, and whether it was carried over (1)
-- or not (0)
pub record CorrectedAccountRow : Type 0 where
  pub account : List ℕ
  pub number : ℤ
  pub start : ℤ
  pub carried : ℤ

-- the rows of each table
abbrev pub RowOf : TableName → Type 0
RowOf Metas = MetaRow
RowOf Accounts = AccountRow
RowOf ReportedQuarters = ReportedQuarterRow
RowOf CalendarYears = CalendarYearRow
RowOf Holidays = HolidayRow
RowOf Years = YearRow
RowOf Runs = RunRow
RowOf Payments = PaymentRow
RowOf Obligations = ObligationRow
RowOf Forms = FormRow
RowOf ReportedYears = ReportedYearRow
RowOf AddedHolidays = HolidayRow
RowOf CorrectedQuarters = CorrectedQuarterRow
RowOf CorrectedYears = CorrectedYearRow
RowOf ChangedHolidays = ChangedHolidayRow
RowOf CorrectedAccounts = CorrectedAccountRow

-- and their cells, column by column
abbrev pub cells_of : (n : TableName) → RowOf n → Row
cells_of Metas m = Text m.tag ∷ Int m.version ∷ []
cells_of Accounts a = Text a.name ∷ Int a.start ∷ Int a.carried ∷ []
cells_of ReportedQuarters r = Text r.account ∷ Int r.year ∷ Int r.quarter ∷ Int r.cents ∷ []
cells_of CalendarYears c = Int c.year ∷ []
cells_of Holidays h = Int h.day ∷ Int h.year ∷ []
cells_of Years y =
    Text y.account ∷ Int y.year ∷ Int y.lookback ∷ Int y.opening ∷ or_null Int y.turn ∷ []
cells_of Runs r =
    Text r.account ∷ Int r.number ∷ Int r.payday ∷ Int r.fit ∷ Int r.ss ∷ Int r.medicare
    ∷ Int r.voided ∷ []
cells_of Payments p =
    Text p.account ∷ Int p.number ∷ Int p.paid ∷ Int p.for_day ∷ Int p.cents ∷ Int p.voided ∷ []
cells_of Obligations b =
    Text b.account ∷ Int b.first ∷ Int b.last ∷ Int b.rule ∷ Int b.cents ∷ Int b.due ∷ []
cells_of Forms f = Text f.account ∷ Int f.form ∷ []
cells_of ReportedYears r = Text r.account ∷ Int r.year ∷ Int r.cents ∷ []
cells_of AddedHolidays h = Int h.day ∷ Int h.year ∷ []
cells_of CorrectedQuarters c =
    Text c.account ∷ Int c.year ∷ Int c.quarter ∷ Int c.number ∷ Int c.cents ∷ []
cells_of CorrectedYears c = Text c.account ∷ Int c.year ∷ Int c.number ∷ Int c.cents ∷ []
cells_of ChangedHolidays h = Int h.day ∷ Int h.number ∷ Int h.is_holiday ∷ Int h.year ∷ []
cells_of CorrectedAccounts c = Text c.account ∷ Int c.number ∷ Int c.start ∷ Int c.carried ∷ []
