-- The desk's values as typed rows.
use Rattle.std.specs.Prelude.{ℕ, ℤ, pos, Bool, List, option_map}
use Rattle.ftd_days.specs.Calendar.{quarter_year, quarter_number}
use Rattle.ftd_days.specs.declared.cents.Cents.{Cents}
use Rattle.ftd_rules.specs.declared.Form.{Form}
use Rattle.ftd_rules.specs.declared.Obligation.{Obligation}
use Rattle.ftd_rules.specs.declared.YearLine.{YearLine}
use Rattle.ftd_sql.specs.Rows.{AccountRow, FormRow, ReportedQuarterRow, ReportedYearRow}
use Rattle.ftd_sql.specs.Rows.{CalendarYearRow, HolidayRow, YearRow, RunRow, PaymentRow}
use Rattle.ftd_sql.specs.Rows.{ObligationRow, CorrectedQuarterRow, CorrectedYearRow}
use Rattle.ftd_sql.specs.Rows.{ChangedHolidayRow, CorrectedAccountRow}
use Rattle.ftd_store.specs.Cells.{day_number, flag_number}
use Rattle.ftd_store.specs.Cells.{rule_number, schedule_number, form_number}
use Rattle.ftd_store.specs.declared.account_cells.Account.{Account}
use Rattle.ftd_store.specs.declared.correction_cells.AccountCorrection.{AccountCorrection}
use Rattle.ftd_store.specs.declared.correction_cells.Correction.{Correction}
use Rattle.ftd_store.specs.declared.correction_cells.HolidayChange.{HolidayChange}
use Rattle.ftd_rules.specs.declared.run.PayRun.{PayRun}
use Rattle.ftd_rules.specs.declared.payment.Payment.{Payment}

abbrev pub account_row : List ℕ → Account → AccountRow
account_row name a =
    record { name = name; start = day_number a.start; carried = flag_number a.carried }

abbrev pub form_row : List ℕ → Form → FormRow
form_row account form = record { account = account; form = form_number form }

-- the total that an account reported for a quarter, and for a year
abbrev pub reported_row : List ℕ → ℕ → Cents → ReportedQuarterRow
reported_row account quarter cents =
    record {
      account = account;
      year = pos (quarter_year quarter);
      quarter = pos (quarter_number quarter);
      cents = pos cents.0;
    }

abbrev pub reported_year_row : List ℕ → ℕ → Cents → ReportedYearRow
reported_year_row account year cents =
    record { account = account; year = pos year; cents = pos cents.0 }

-- a correction of the total of a quarter, of that of a year, and of an account
abbrev pub correction_row : List ℕ → ℕ → Correction → CorrectedQuarterRow
correction_row account quarter c =
    record {
      account = account;
      year = pos (quarter_year quarter);
      quarter = pos (quarter_number quarter);
      number = pos c.number;
      cents = pos c.cents.0;
    }

abbrev pub year_correction_row : List ℕ → ℕ → Correction → CorrectedYearRow
year_correction_row account year c =
    record { account = account; year = pos year; number = pos c.number; cents = pos c.cents.0 }

abbrev pub account_correction_row : List ℕ → AccountCorrection → CorrectedAccountRow
account_correction_row account c = record {
  account = account;
  number = pos c.number;
  start = day_number c.account.start;
  carried = flag_number c.account.carried;
}

-- a change of a day of the year
abbrev pub holiday_change_row : ℕ → HolidayChange → ChangedHolidayRow
holiday_change_row year c = record {
  day = day_number c.day;
  number = pos c.number;
  is_holiday = flag_number c.is_holiday;
  year = pos year;
}

-- a year whose calendar is given, and a holiday of the year
abbrev pub calendar_year_row : ℕ → CalendarYearRow
calendar_year_row year = record { year = pos year }

abbrev pub holiday_row : ℕ → ℕ → HolidayRow
holiday_row year day = record { day = day_number day; year = pos year }

-- the line's row; whether the account is carried into the year stands with the account
abbrev pub year_row : List ℕ → YearLine → YearRow
year_row account line = record {
  account = account;
  year = pos line.year;
  lookback = pos line.lookback.0;
  opening = schedule_number line.opening;
  turn = option_map day_number line.turn;
}

-- a run, void or not
abbrev pub run_row : List ℕ → ℤ → PayRun → Bool → RunRow
run_row account number r voided = record {
  account = account;
  number = number;
  payday = day_number r.payday;
  fit = pos r.fit.0;
  ss = pos r.ss.0;
  medicare = pos r.medicare.0;
  voided = flag_number voided;
}

-- a payment, void or not
abbrev pub payment_row : List ℕ → ℤ → Payment → Bool → PaymentRow
payment_row account number p voided = record {
  account = account;
  number = number;
  paid = day_number p.paid;
  for_day = day_number p.for_day;
  cents = pos p.cents.0;
  voided = flag_number voided;
}

abbrev pub obligation_row : List ℕ → Obligation → ObligationRow
obligation_row account o = record {
  account = account;
  first = day_number o.first;
  last = day_number o.last;
  rule = rule_number o.rule;
  cents = pos o.cents.0;
  due = day_number o.due;
}
