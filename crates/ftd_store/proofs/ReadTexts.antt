-- The text of each statement that reads rows speaks of reading alone.
use Rattle.ftd_sql.specs.TextKinds.{IsReadText}
use Rattle.ftd_sql.proofs.Asking.{reads_account, lists_enrolled, reads_form, lists_forms}
use Rattle.ftd_sql.proofs.Asking.{reads_reported, lists_reported, reads_reported_year}
use Rattle.ftd_sql.proofs.Asking.{lists_reported_years, lists_corrections}
use Rattle.ftd_sql.proofs.Asking.{lists_year_corrections}
use Rattle.ftd_sql.proofs.Asking.{lists_account_corrections, reads_calendar_year}
use Rattle.ftd_sql.proofs.Asking.{lists_holidays, lists_added_holidays, lists_changed_holidays}
use Rattle.ftd_sql.proofs.Asking.{lists_years, reads_run, counts_runs, lists_runs}
use Rattle.ftd_sql.proofs.Asking.{lists_kept_runs, reads_payment, counts_payments}
use Rattle.ftd_sql.proofs.Asking.{lists_payments, lists_kept_payments, lists_obligations}
use Rattle.ftd_sql.proofs.Asking.{lists_due_over, lists_due_between}
use Rattle.ftd_sql.proofs.AskingAdded.{rows_of_accounts, rows_of_forms, rows_of_account_corrections}
use Rattle.ftd_sql.proofs.AskingAdded.{rows_of_reported, rows_of_reported_years}
use Rattle.ftd_sql.proofs.AskingAdded.{rows_of_corrections, rows_of_year_corrections}
use Rattle.ftd_sql.proofs.AskingAdded.{rows_of_calendar_years, rows_of_holidays}
use Rattle.ftd_sql.proofs.AskingAdded.{rows_of_added_holidays, rows_of_holiday_changes}
use Rattle.ftd_sql.proofs.AskingAdded.{rows_of_years, rows_of_runs, rows_of_payments}
use Rattle.ftd_sql.proofs.AskingAdded.{rows_of_obligations, counts_all_forms}
use Rattle.ftd_sql.proofs.AskingAdded.{counts_all_account_corrections, counts_all_reported}
use Rattle.ftd_sql.proofs.AskingAdded.{counts_all_reported_years, counts_all_corrections}
use Rattle.ftd_sql.proofs.AskingAdded.{counts_all_year_corrections, counts_all_years}
use Rattle.ftd_sql.proofs.AskingAdded.{counts_all_runs, counts_all_payments, counts_all_obligations}
use Rattle.ftd_sql.proofs.Reading.{asking, counting}
use Rattle.ftd_store.specs.Readings.{text_of}
use Rattle.ftd_store.specs.declared.readings.Reading.{Reading}
use Rattle.ftd_store.specs.declared.readings.Reading.TheVariants as reading

pub is_reading : (r : Reading) → IsReadText (text_of r)
is_reading reading.ReadAccount = asking _ _ _ _ _ reads_account
is_reading reading.ListEnrolled = asking _ _ _ _ _ lists_enrolled
is_reading reading.ReadForm = asking _ _ _ _ _ reads_form
is_reading reading.ListForms = asking _ _ _ _ _ lists_forms
is_reading reading.ReadReported = asking _ _ _ _ _ reads_reported
is_reading reading.ListReported = asking _ _ _ _ _ lists_reported
is_reading reading.ReadReportedYear = asking _ _ _ _ _ reads_reported_year
is_reading reading.ListReportedYears = asking _ _ _ _ _ lists_reported_years
is_reading reading.ListCorrections = asking _ _ _ _ _ lists_corrections
is_reading reading.ListYearCorrections = asking _ _ _ _ _ lists_year_corrections
is_reading reading.ListAccountCorrections = asking _ _ _ _ _ lists_account_corrections
is_reading reading.ReadCalendarYear = asking _ _ _ _ _ reads_calendar_year
is_reading reading.ListHolidays = asking _ _ _ _ _ lists_holidays
is_reading reading.ListAddedHolidays = asking _ _ _ _ _ lists_added_holidays
is_reading reading.ListChangedHolidays = asking _ _ _ _ _ lists_changed_holidays
is_reading reading.ListYears = asking _ _ _ _ _ lists_years
is_reading reading.ReadRun = asking _ _ _ _ _ reads_run
is_reading reading.CountRuns = counting _ _ _ counts_runs
is_reading reading.ListRuns = asking _ _ _ _ _ lists_runs
is_reading reading.ListKeptRuns = asking _ _ _ _ _ lists_kept_runs
is_reading reading.ReadPayment = asking _ _ _ _ _ reads_payment
is_reading reading.CountPayments = counting _ _ _ counts_payments
is_reading reading.ListPayments = asking _ _ _ _ _ lists_payments
is_reading reading.ListKeptPayments = asking _ _ _ _ _ lists_kept_payments
is_reading reading.ListObligations = asking _ _ _ _ _ lists_obligations
is_reading reading.ListDueOver = asking _ _ _ _ _ lists_due_over
is_reading reading.ListDueBetween = asking _ _ _ _ _ lists_due_between
is_reading reading.ListAccountsByRow = asking _ _ _ _ _ rows_of_accounts
is_reading reading.ListFormsByRow = asking _ _ _ _ _ rows_of_forms
is_reading reading.ListAccountCorrectionsByRow = asking _ _ _ _ _ rows_of_account_corrections
is_reading reading.ListReportedByRow = asking _ _ _ _ _ rows_of_reported
is_reading reading.ListReportedYearsByRow = asking _ _ _ _ _ rows_of_reported_years
is_reading reading.ListCorrectionsByRow = asking _ _ _ _ _ rows_of_corrections
is_reading reading.ListYearCorrectionsByRow = asking _ _ _ _ _ rows_of_year_corrections
is_reading reading.ListCalendarYearsByRow = asking _ _ _ _ _ rows_of_calendar_years
is_reading reading.ListHolidaysByRow = asking _ _ _ _ _ rows_of_holidays
is_reading reading.ListAddedHolidaysByRow = asking _ _ _ _ _ rows_of_added_holidays
is_reading reading.ListChangedHolidaysByRow = asking _ _ _ _ _ rows_of_holiday_changes
is_reading reading.ListYearsByRow = asking _ _ _ _ _ rows_of_years
is_reading reading.ListRunsByRow = asking _ _ _ _ _ rows_of_runs
is_reading reading.ListPaymentsByRow = asking _ _ _ _ _ rows_of_payments
is_reading reading.ListObligationsByRow = asking _ _ _ _ _ rows_of_obligations
is_reading reading.CountAllForms = counting _ _ _ counts_all_forms
is_reading reading.CountAllAccountCorrections = counting _ _ _ counts_all_account_corrections
is_reading reading.CountAllReported = counting _ _ _ counts_all_reported
is_reading reading.CountAllReportedYears = counting _ _ _ counts_all_reported_years
is_reading reading.CountAllCorrections = counting _ _ _ counts_all_corrections
is_reading reading.CountAllYearCorrections = counting _ _ _ counts_all_year_corrections
is_reading reading.CountAllYears = counting _ _ _ counts_all_years
is_reading reading.CountAllRuns = counting _ _ _ counts_all_runs
is_reading reading.CountAllPayments = counting _ _ _ counts_all_payments
is_reading reading.CountAllObligations = counting _ _ _ counts_all_obligations
