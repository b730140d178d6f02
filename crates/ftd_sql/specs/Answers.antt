-- What each reading shows of a row.
use Rattle.std.specs.Prelude.{[], ◌∷◌}
use Rattle.sqlite.specs.declared.types.Value.TheVariants.{Int, Text}
use Rattle.sqlite.specs.Order.{Row}
use Rattle.sqlite.specs.Values.{or_null}
use Rattle.ftd_sql.specs.Rows.{MetaRow, AccountRow, ReportedQuarterRow, CalendarYearRow}
use Rattle.ftd_sql.specs.Rows.{HolidayRow, YearRow, RunRow, PaymentRow, ObligationRow, FormRow}
use Rattle.ftd_sql.specs.Rows.{ReportedYearRow, CorrectedQuarterRow, CorrectedYearRow}
use Rattle.ftd_sql.specs.Rows.{ChangedHolidayRow, CorrectedAccountRow}

abbrev pub meta_shown : MetaRow → Row
meta_shown m = Text m.tag ∷ Int m.version ∷ []

abbrev pub account_shown : AccountRow → Row
account_shown a = Int a.start ∷ Int a.carried ∷ []

abbrev pub name_shown : AccountRow → Row
name_shown a = Text a.name ∷ []

abbrev pub enrolled_shown : AccountRow → Row
enrolled_shown a = Text a.name ∷ account_shown a

abbrev pub form_shown : FormRow → Row
form_shown f = Int f.form ∷ []

abbrev pub account_form_shown : FormRow → Row
account_form_shown f = Text f.account ∷ form_shown f

abbrev pub reported_shown : ReportedQuarterRow → Row
reported_shown r = Int r.cents ∷ []

abbrev pub reported_year_shown : ReportedYearRow → Row
reported_year_shown r = Int r.cents ∷ []

-- each total of an account in a list
abbrev pub quarter_total_shown : ReportedQuarterRow → Row
quarter_total_shown r = Int r.year ∷ Int r.quarter ∷ Int r.cents ∷ []

abbrev pub year_total_shown : ReportedYearRow → Row
year_total_shown r = Int r.year ∷ Int r.cents ∷ []

-- a correction of one quarter or year, and one in a list of an account's
abbrev pub correction_shown : CorrectedQuarterRow → Row
correction_shown c = Int c.number ∷ Int c.cents ∷ []

abbrev pub correction_of_year_shown : CorrectedYearRow → Row
correction_of_year_shown c = Int c.number ∷ Int c.cents ∷ []

abbrev pub account_correction_shown : CorrectedAccountRow → Row
account_correction_shown c = Int c.number ∷ Int c.start ∷ Int c.carried ∷ []

-- a correction in a list of all that an account has of its quarters, and of its years
abbrev pub quarter_correction_shown : CorrectedQuarterRow → Row
quarter_correction_shown c = Int c.year ∷ Int c.quarter ∷ correction_shown c

abbrev pub year_correction_shown : CorrectedYearRow → Row
year_correction_shown c = Int c.year ∷ correction_of_year_shown c

abbrev pub calendar_year_shown : CalendarYearRow → Row
calendar_year_shown c = Int c.year ∷ []

abbrev pub holiday_shown : HolidayRow → Row
holiday_shown h = Int h.day ∷ []

abbrev pub holiday_change_shown : ChangedHolidayRow → Row
holiday_change_shown h = Int h.day ∷ Int h.number ∷ Int h.is_holiday ∷ []

-- a holiday with its year, and a change of a day with its year
abbrev pub year_holiday_shown : HolidayRow → Row
year_holiday_shown h = Int h.day ∷ Int h.year ∷ []

abbrev pub year_holiday_change_shown : ChangedHolidayRow → Row
year_holiday_change_shown h = Int h.day ∷ Int h.number ∷ Int h.is_holiday ∷ Int h.year ∷ []

abbrev pub year_shown : YearRow → Row
year_shown y = Int y.year ∷ Int y.lookback ∷ Int y.opening ∷ or_null Int y.turn ∷ []

-- a run of a key, void or not, and a live run in a list
abbrev pub run_shown : RunRow → Row
run_shown r = Int r.payday ∷ Int r.fit ∷ Int r.ss ∷ Int r.medicare ∷ Int r.voided ∷ []

abbrev pub live_run_shown : RunRow → Row
live_run_shown r = Int r.payday ∷ Int r.fit ∷ Int r.ss ∷ Int r.medicare ∷ []

-- a run in a list, void or not
abbrev pub kept_run_shown : RunRow → Row
kept_run_shown r = Int r.number ∷ run_shown r

-- a payment of a key, void or not, and a live payment in a list
abbrev pub payment_shown : PaymentRow → Row
payment_shown p = Int p.paid ∷ Int p.for_day ∷ Int p.cents ∷ Int p.voided ∷ []

abbrev pub live_payment_shown : PaymentRow → Row
live_payment_shown p = Int p.for_day ∷ Int p.paid ∷ Int p.cents ∷ []

-- a payment in a list, void or not
abbrev pub kept_payment_shown : PaymentRow → Row
kept_payment_shown p = Int p.number ∷ payment_shown p

-- an obligation of one account, and one with its account
abbrev pub obligation_shown : ObligationRow → Row
obligation_shown o = Int o.first ∷ Int o.last ∷ Int o.rule ∷ Int o.cents ∷ Int o.due ∷ []

abbrev pub account_obligation_shown : ObligationRow → Row
account_obligation_shown o = Text o.account ∷ obligation_shown o
