-- Which rows a statement speaks of, and how it changes them. Numbers, days and amounts are as they
-- are stored.
use Rattle.std.specs.Prelude.{ℕ, ℤ, pos, Bool, true, ◌&&◌, bytes_eq, int_le, int_lt, List, Option}
use Rattle.std.specs.Ordering.{int_eq}
use Rattle.ftd_sql.specs.Rows.{MetaRow, AccountRow, ReportedQuarterRow, CalendarYearRow}
use Rattle.ftd_sql.specs.Rows.{HolidayRow, YearRow, RunRow, PaymentRow, ObligationRow, FormRow}
use Rattle.ftd_sql.specs.Rows.{ReportedYearRow, CorrectedQuarterRow, CorrectedYearRow}
use Rattle.ftd_sql.specs.Rows.{ChangedHolidayRow, CorrectedAccountRow}

-- the row of the tag
abbrev pub is_tag : List ℕ → MetaRow → Bool
is_tag tag m = bytes_eq m.tag tag

-- the account of the name
abbrev pub is_account : List ℕ → AccountRow → Bool
is_account name a = bytes_eq a.name name

-- each account, and each form
abbrev pub is_any_account : AccountRow → Bool
is_any_account a = true

abbrev pub is_any_form : FormRow → Bool
is_any_form f = true

-- the form of the account
abbrev pub is_form_of : List ℕ → FormRow → Bool
is_form_of account f = bytes_eq f.account account

-- the figure of the account's quarter, and each of its figures of quarters and of years
abbrev pub is_reported : List ℕ → ℤ → ℤ → ReportedQuarterRow → Bool
is_reported account year quarter r =
    bytes_eq r.account account && (int_eq r.year year && int_eq r.quarter quarter)

abbrev pub is_reported_of : List ℕ → ReportedQuarterRow → Bool
is_reported_of account r = bytes_eq r.account account

abbrev pub is_reported_year_of : List ℕ → ReportedYearRow → Bool
is_reported_year_of account r = bytes_eq r.account account

-- the figure of the account's year
abbrev pub is_reported_year : List ℕ → ℤ → ReportedYearRow → Bool
is_reported_year account year r = bytes_eq r.account account && int_eq r.year year

-- a correction of the account's quarter, of its year, and of any of its quarters or years
abbrev pub is_correction : List ℕ → ℤ → ℤ → CorrectedQuarterRow → Bool
is_correction account year quarter c =
    bytes_eq c.account account && (int_eq c.year year && int_eq c.quarter quarter)

abbrev pub is_year_correction : List ℕ → ℤ → CorrectedYearRow → Bool
is_year_correction account year c = bytes_eq c.account account && int_eq c.year year

abbrev pub is_correction_of : List ℕ → CorrectedQuarterRow → Bool
is_correction_of account c = bytes_eq c.account account

abbrev pub is_year_correction_of : List ℕ → CorrectedYearRow → Bool
is_year_correction_of account c = bytes_eq c.account account

-- a correction of the account itself
abbrev pub is_account_correction_of : List ℕ → CorrectedAccountRow → Bool
is_account_correction_of account c = bytes_eq c.account account

-- the year whose calendar is given
abbrev pub is_calendar_year : ℤ → CalendarYearRow → Bool
is_calendar_year year c = int_eq c.year year

-- a holiday of the year
abbrev pub is_holiday_of : ℤ → HolidayRow → Bool
is_holiday_of year h = int_eq h.year year

-- a change of a day of the year
abbrev pub is_holiday_change_of : ℤ → ChangedHolidayRow → Bool
is_holiday_change_of year h = int_eq h.year year

-- the account's open year, and each of its open years
abbrev pub is_year : List ℕ → ℤ → YearRow → Bool
is_year account year y = bytes_eq y.account account && int_eq y.year year

abbrev pub is_year_of : List ℕ → YearRow → Bool
is_year_of account y = bytes_eq y.account account

-- the account's run of the number, each of its runs, and each of its live runs with a payday
-- between two days
abbrev pub is_run : List ℕ → ℤ → RunRow → Bool
is_run account number r = bytes_eq r.account account && int_eq r.number number

abbrev pub is_run_of : List ℕ → RunRow → Bool
is_run_of account r = bytes_eq r.account account

abbrev pub is_live_run_between : List ℕ → ℤ → ℤ → RunRow → Bool
is_live_run_between account from to r =
    bytes_eq r.account account
    && (int_le from r.payday && (int_le r.payday to && int_eq r.voided (pos 0)))

-- each of its runs with a payday between two days, void ones too
abbrev pub is_run_between : List ℕ → ℤ → ℤ → RunRow → Bool
is_run_between account from to r =
    bytes_eq r.account account && (int_le from r.payday && int_le r.payday to)

-- the account's payment of the number, each of its payments, and each of its live payments for a
-- day between two days
abbrev pub is_payment : List ℕ → ℤ → PaymentRow → Bool
is_payment account number p = bytes_eq p.account account && int_eq p.number number

abbrev pub is_payment_of : List ℕ → PaymentRow → Bool
is_payment_of account p = bytes_eq p.account account

abbrev pub is_live_payment_between : List ℕ → ℤ → ℤ → PaymentRow → Bool
is_live_payment_between account from to p =
    bytes_eq p.account account
    && (int_le from p.for_day && (int_le p.for_day to && int_eq p.voided (pos 0)))

-- each of its payments for a day between two days, void ones too
abbrev pub is_payment_between : List ℕ → ℤ → ℤ → PaymentRow → Bool
is_payment_between account from to p =
    bytes_eq p.account account && (int_le from p.for_day && int_le p.for_day to)

-- an obligation of the account whose first day lies between two days, and the one of a first day
abbrev pub is_obligation_between : List ℕ → ℤ → ℤ → ObligationRow → Bool
is_obligation_between account from to o =
    bytes_eq o.account account && (int_le from o.first && int_le o.first to)

abbrev pub is_obligation : List ℕ → ℤ → ObligationRow → Bool
is_obligation account first o = bytes_eq o.account account && int_eq o.first first

-- each obligation of the account
abbrev pub is_obligation_of_account : List ℕ → ObligationRow → Bool
is_obligation_of_account account o = bytes_eq o.account account

-- an obligation, of whatever account, that begins before the day and is due on it or later
abbrev pub is_due_over : ℤ → ObligationRow → Bool
is_due_over day o = int_lt o.first day && int_le day o.due

-- an obligation, of whatever account, that is due between two days
abbrev pub is_due_between : ℤ → ℤ → ObligationRow → Bool
is_due_between from to o = int_le from o.due && int_le o.due to

-- ---- changes of a row

abbrev pub voided_run : RunRow → RunRow
voided_run r = record r { voided = pos 1 }

abbrev pub voided_payment : PaymentRow → PaymentRow
voided_payment p = record p { voided = pos 1 }

-- an open year with these figures
abbrev pub with_figures : ℤ → ℤ → Option ℤ → YearRow → YearRow
with_figures lookback opening turn y =
    record y { lookback = lookback; opening = opening; turn = turn }

-- an obligation with the terms of another one, of its own account and first day
abbrev pub with_terms : ObligationRow → ObligationRow → ObligationRow
with_terms other o =
    record o { last = other.last; rule = other.rule; cents = other.cents; due = other.due }

-- an obligation with this due date
abbrev pub with_due : ℤ → ObligationRow → ObligationRow
with_due due o = record o { due = due }

-- a tag with this version
abbrev pub with_version : ℤ → MetaRow → MetaRow
with_version version m = record m { version = version }
