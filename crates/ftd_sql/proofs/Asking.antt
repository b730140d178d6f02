-- What the texts of the readings compute to.
use Rattle.std.proofs.Common.{[], ◌∷◌, codes, true, false, refl}
use Rattle.sqlite_tied.specs.Compute.{everything}
use Rattle.ftd_sql.specs.declared.TableName.TheVariants.{Metas, Accounts, Forms}
use Rattle.ftd_sql.specs.declared.TableName.TheVariants.{ReportedQuarters, ReportedYears}
use Rattle.ftd_sql.specs.declared.TableName.TheVariants.{CalendarYears, Holidays, AddedHolidays}
use Rattle.ftd_sql.specs.declared.TableName.TheVariants.{Years, Runs, Payments, Obligations}
use Rattle.ftd_sql.specs.declared.TableName.TheVariants.{CorrectedQuarters, CorrectedYears}
use Rattle.ftd_sql.specs.declared.TableName.TheVariants.{ChangedHolidays, CorrectedAccounts}
use Rattle.ftd_sql.specs.declared.texts.TheConstants.{LIST_METAS, READ_ACCOUNT, LIST_ACCOUNTS}
use Rattle.ftd_sql.specs.declared.texts.TheConstants.{READ_FORM, READ_REPORTED}
use Rattle.ftd_sql.specs.declared.texts.TheConstants.{READ_REPORTED_YEAR, READ_CALENDAR_YEAR}
use Rattle.ftd_sql.specs.declared.texts.TheConstants.{LIST_HOLIDAYS, LIST_ADDED_HOLIDAYS}
use Rattle.ftd_sql.specs.declared.texts.TheConstants.{LIST_YEARS, READ_RUN, LIST_RUNS}
use Rattle.ftd_sql.specs.declared.texts.TheConstants.{READ_PAYMENT, LIST_PAYMENTS}
use Rattle.ftd_sql.specs.declared.texts.TheConstants.{LIST_OBLIGATIONS, LIST_DUE_OVER}
use Rattle.ftd_sql.specs.declared.texts.TheConstants.{COUNT_RUNS, LIST_DUE_BETWEEN}
use Rattle.ftd_sql.specs.declared.texts.TheConstants.{LIST_ENROLLED, LIST_FORMS, LIST_REPORTED}
use Rattle.ftd_sql.specs.declared.texts.TheConstants.{LIST_REPORTED_YEARS, LIST_KEPT_RUNS}
use Rattle.ftd_sql.specs.declared.texts.TheConstants.{LIST_KEPT_PAYMENTS, COUNT_PAYMENTS}
use Rattle.ftd_sql.specs.declared.texts.TheConstants.{LIST_CORRECTIONS}
use Rattle.ftd_sql.specs.declared.texts.TheConstants.{LIST_YEAR_CORRECTIONS}
use Rattle.ftd_sql.specs.declared.texts.TheConstants.{LIST_ACCOUNT_CORRECTIONS}
use Rattle.ftd_sql.specs.declared.texts.TheConstants.{LIST_CHANGED_HOLIDAYS}
use Rattle.ftd_sql.proofs.Shapes.{place, test_on, Value, Zero, Is, IsBelow, IsAtMost, IsAtLeast}
use Rattle.ftd_sql.proofs.Reading.{Asks, Counts}

pub lists_metas : Asks Metas LIST_METAS.now
    (place (codes "tag") 1 ∷ place (codes "version") 2 ∷ [])
    []
    []
unfolding everything
lists_metas = record {
  reads = record { read = _; is = refl; said = refl; untimed = refl; whole = refl };
  opens = record { whole = refl; first = refl };
  resolves = λ tree low. record {
    filters = _;
    grouped = false;
    keys = _;
    after_columns = _;
    after_test = _;
    after_order = _;
    known_columns = refl;
    known_test = refl;
    known_order = refl;
    columns_are = refl;
    filters_are = refl;
    is_grouped = refl;
    keys_are = refl;
    draft_is = λ at. refl;
  };
  accepted = λ tree. (refl, refl);
  is_query = λ tree. refl;
}

pub reads_account : Asks Accounts READ_ACCOUNT.now
    (place (codes "start") 2 ∷ place (codes "carried") 3 ∷ [])
    (test_on (codes "name") 1 Is (Value 1) ∷ [])
    []
unfolding everything
reads_account = record {
  reads = record { read = _; is = refl; said = refl; untimed = refl; whole = refl };
  opens = record { whole = refl; first = refl };
  resolves = λ tree low. record {
    filters = _;
    grouped = false;
    keys = _;
    after_columns = _;
    after_test = _;
    after_order = _;
    known_columns = refl;
    known_test = refl;
    known_order = refl;
    columns_are = refl;
    filters_are = refl;
    is_grouped = refl;
    keys_are = refl;
    draft_is = λ at. refl;
  };
  accepted = λ tree. (refl, refl);
  is_query = λ tree. refl;
}

pub lists_accounts : Asks Accounts LIST_ACCOUNTS.now
    (place (codes "name") 1 ∷ [])
    []
    []
unfolding everything
lists_accounts = record {
  reads = record { read = _; is = refl; said = refl; untimed = refl; whole = refl };
  opens = record { whole = refl; first = refl };
  resolves = λ tree low. record {
    filters = _;
    grouped = false;
    keys = _;
    after_columns = _;
    after_test = _;
    after_order = _;
    known_columns = refl;
    known_test = refl;
    known_order = refl;
    columns_are = refl;
    filters_are = refl;
    is_grouped = refl;
    keys_are = refl;
    draft_is = λ at. refl;
  };
  accepted = λ tree. (refl, refl);
  is_query = λ tree. refl;
}

pub reads_form : Asks Forms READ_FORM.now
    (place (codes "form") 2 ∷ [])
    (test_on (codes "account") 1 Is (Value 1) ∷ [])
    []
unfolding everything
reads_form = record {
  reads = record { read = _; is = refl; said = refl; untimed = refl; whole = refl };
  opens = record { whole = refl; first = refl };
  resolves = λ tree low. record {
    filters = _;
    grouped = false;
    keys = _;
    after_columns = _;
    after_test = _;
    after_order = _;
    known_columns = refl;
    known_test = refl;
    known_order = refl;
    columns_are = refl;
    filters_are = refl;
    is_grouped = refl;
    keys_are = refl;
    draft_is = λ at. refl;
  };
  accepted = λ tree. (refl, refl);
  is_query = λ tree. refl;
}

pub reads_reported : Asks ReportedQuarters READ_REPORTED.now
    (place (codes "cents") 4 ∷ [])
    (test_on (codes "account") 1 Is (Value 1) ∷ test_on (codes "cal_year") 2 Is (Value 2) ∷ test_on
    (codes "quarter") 3 Is (Value 3) ∷ [])
    []
unfolding everything
reads_reported = record {
  reads = record { read = _; is = refl; said = refl; untimed = refl; whole = refl };
  opens = record { whole = refl; first = refl };
  resolves = λ tree low. record {
    filters = _;
    grouped = false;
    keys = _;
    after_columns = _;
    after_test = _;
    after_order = _;
    known_columns = refl;
    known_test = refl;
    known_order = refl;
    columns_are = refl;
    filters_are = refl;
    is_grouped = refl;
    keys_are = refl;
    draft_is = λ at. refl;
  };
  accepted = λ tree. (refl, refl);
  is_query = λ tree. refl;
}

pub reads_reported_year : Asks ReportedYears READ_REPORTED_YEAR.now
    (place (codes "cents") 3 ∷ [])
    (test_on (codes "account") 1 Is (Value 1) ∷ test_on (codes "cal_year") 2 Is (Value 2) ∷ [])
    []
unfolding everything
reads_reported_year = record {
  reads = record { read = _; is = refl; said = refl; untimed = refl; whole = refl };
  opens = record { whole = refl; first = refl };
  resolves = λ tree low. record {
    filters = _;
    grouped = false;
    keys = _;
    after_columns = _;
    after_test = _;
    after_order = _;
    known_columns = refl;
    known_test = refl;
    known_order = refl;
    columns_are = refl;
    filters_are = refl;
    is_grouped = refl;
    keys_are = refl;
    draft_is = λ at. refl;
  };
  accepted = λ tree. (refl, refl);
  is_query = λ tree. refl;
}

pub reads_calendar_year : Asks CalendarYears READ_CALENDAR_YEAR.now
    (place (codes "cal_year") 1 ∷ [])
    (test_on (codes "cal_year") 1 Is (Value 1) ∷ [])
    []
unfolding everything
reads_calendar_year = record {
  reads = record { read = _; is = refl; said = refl; untimed = refl; whole = refl };
  opens = record { whole = refl; first = refl };
  resolves = λ tree low. record {
    filters = _;
    grouped = false;
    keys = _;
    after_columns = _;
    after_test = _;
    after_order = _;
    known_columns = refl;
    known_test = refl;
    known_order = refl;
    columns_are = refl;
    filters_are = refl;
    is_grouped = refl;
    keys_are = refl;
    draft_is = λ at. refl;
  };
  accepted = λ tree. (refl, refl);
  is_query = λ tree. refl;
}

pub lists_holidays : Asks Holidays LIST_HOLIDAYS.now
    (place (codes "day") 1 ∷ [])
    (test_on (codes "cal_year") 2 Is (Value 1) ∷ [])
    (place (codes "day") 1 ∷ [])
unfolding everything
lists_holidays = record {
  reads = record { read = _; is = refl; said = refl; untimed = refl; whole = refl };
  opens = record { whole = refl; first = refl };
  resolves = λ tree low. record {
    filters = _;
    grouped = false;
    keys = _;
    after_columns = _;
    after_test = _;
    after_order = _;
    known_columns = refl;
    known_test = refl;
    known_order = refl;
    columns_are = refl;
    filters_are = refl;
    is_grouped = refl;
    keys_are = refl;
    draft_is = λ at. refl;
  };
  accepted = λ tree. (refl, refl);
  is_query = λ tree. refl;
}

pub lists_added_holidays : Asks AddedHolidays LIST_ADDED_HOLIDAYS.now
    (place (codes "day") 1 ∷ [])
    (test_on (codes "cal_year") 2 Is (Value 1) ∷ [])
    (place (codes "day") 1 ∷ [])
unfolding everything
lists_added_holidays = record {
  reads = record { read = _; is = refl; said = refl; untimed = refl; whole = refl };
  opens = record { whole = refl; first = refl };
  resolves = λ tree low. record {
    filters = _;
    grouped = false;
    keys = _;
    after_columns = _;
    after_test = _;
    after_order = _;
    known_columns = refl;
    known_test = refl;
    known_order = refl;
    columns_are = refl;
    filters_are = refl;
    is_grouped = refl;
    keys_are = refl;
    draft_is = λ at. refl;
  };
  accepted = λ tree. (refl, refl);
  is_query = λ tree. refl;
}

pub lists_years : Asks Years LIST_YEARS.now
    (place (codes "cal_year") 2 ∷ place (codes "lookback") 3 ∷ place (codes "opening") 4 ∷ place
    (codes "turn") 5 ∷ [])
    (test_on (codes "account") 1 Is (Value 1) ∷ [])
    (place (codes "cal_year") 2 ∷ [])
unfolding everything
lists_years = record {
  reads = record { read = _; is = refl; said = refl; untimed = refl; whole = refl };
  opens = record { whole = refl; first = refl };
  resolves = λ tree low. record {
    filters = _;
    grouped = false;
    keys = _;
    after_columns = _;
    after_test = _;
    after_order = _;
    known_columns = refl;
    known_test = refl;
    known_order = refl;
    columns_are = refl;
    filters_are = refl;
    is_grouped = refl;
    keys_are = refl;
    draft_is = λ at. refl;
  };
  accepted = λ tree. (refl, refl);
  is_query = λ tree. refl;
}

pub reads_run : Asks Runs READ_RUN.now
    (place (codes "payday") 3 ∷ place (codes "fit") 4 ∷ place (codes "ss") 5 ∷ place
    (codes "medicare") 6 ∷ place (codes "voided") 7 ∷ [])
    (test_on (codes "account") 1 Is (Value 1) ∷ test_on (codes "run") 2 Is (Value 2) ∷ [])
    []
unfolding everything
reads_run = record {
  reads = record { read = _; is = refl; said = refl; untimed = refl; whole = refl };
  opens = record { whole = refl; first = refl };
  resolves = λ tree low. record {
    filters = _;
    grouped = false;
    keys = _;
    after_columns = _;
    after_test = _;
    after_order = _;
    known_columns = refl;
    known_test = refl;
    known_order = refl;
    columns_are = refl;
    filters_are = refl;
    is_grouped = refl;
    keys_are = refl;
    draft_is = λ at. refl;
  };
  accepted = λ tree. (refl, refl);
  is_query = λ tree. refl;
}

pub lists_runs : Asks Runs LIST_RUNS.now
    (place (codes "payday") 3 ∷ place (codes "fit") 4 ∷ place (codes "ss") 5 ∷ place
    (codes "medicare") 6 ∷ [])
    (test_on (codes "account") 1 Is (Value 1) ∷ test_on (codes "payday") 3 IsAtLeast (Value 2)
    ∷ test_on (codes "payday") 3 IsAtMost (Value 3) ∷ test_on (codes "voided") 7 Is Zero ∷ [])
    (place (codes "payday") 3 ∷ place (codes "run") 2 ∷ [])
unfolding everything
lists_runs = record {
  reads = record { read = _; is = refl; said = refl; untimed = refl; whole = refl };
  opens = record { whole = refl; first = refl };
  resolves = λ tree low. record {
    filters = _;
    grouped = false;
    keys = _;
    after_columns = _;
    after_test = _;
    after_order = _;
    known_columns = refl;
    known_test = refl;
    known_order = refl;
    columns_are = refl;
    filters_are = refl;
    is_grouped = refl;
    keys_are = refl;
    draft_is = λ at. refl;
  };
  accepted = λ tree. (refl, refl);
  is_query = λ tree. refl;
}

pub reads_payment : Asks Payments READ_PAYMENT.now
    (place (codes "paid") 3 ∷ place (codes "for_day") 4 ∷ place (codes "cents") 5 ∷ place
    (codes "voided") 6 ∷ [])
    (test_on (codes "account") 1 Is (Value 1) ∷ test_on (codes "payment") 2 Is (Value 2) ∷ [])
    []
unfolding everything
reads_payment = record {
  reads = record { read = _; is = refl; said = refl; untimed = refl; whole = refl };
  opens = record { whole = refl; first = refl };
  resolves = λ tree low. record {
    filters = _;
    grouped = false;
    keys = _;
    after_columns = _;
    after_test = _;
    after_order = _;
    known_columns = refl;
    known_test = refl;
    known_order = refl;
    columns_are = refl;
    filters_are = refl;
    is_grouped = refl;
    keys_are = refl;
    draft_is = λ at. refl;
  };
  accepted = λ tree. (refl, refl);
  is_query = λ tree. refl;
}

pub lists_payments : Asks Payments LIST_PAYMENTS.now
    (place (codes "for_day") 4 ∷ place (codes "paid") 3 ∷ place (codes "cents") 5 ∷ [])
    (test_on (codes "account") 1 Is (Value 1) ∷ test_on (codes "for_day") 4 IsAtLeast (Value 2)
    ∷ test_on (codes "for_day") 4 IsAtMost (Value 3) ∷ test_on (codes "voided") 6 Is Zero ∷ [])
    (place (codes "for_day") 4 ∷ place (codes "payment") 2 ∷ [])
unfolding everything
lists_payments = record {
  reads = record { read = _; is = refl; said = refl; untimed = refl; whole = refl };
  opens = record { whole = refl; first = refl };
  resolves = λ tree low. record {
    filters = _;
    grouped = false;
    keys = _;
    after_columns = _;
    after_test = _;
    after_order = _;
    known_columns = refl;
    known_test = refl;
    known_order = refl;
    columns_are = refl;
    filters_are = refl;
    is_grouped = refl;
    keys_are = refl;
    draft_is = λ at. refl;
  };
  accepted = λ tree. (refl, refl);
  is_query = λ tree. refl;
}

pub lists_obligations : Asks Obligations LIST_OBLIGATIONS.now
    (place (codes "first_day") 2 ∷ place (codes "last_day") 3 ∷ place (codes "rule") 4 ∷ place
    (codes "cents") 5 ∷ place (codes "due") 6 ∷ [])
    (test_on (codes "account") 1 Is (Value 1) ∷ test_on (codes "first_day") 2 IsAtLeast (Value 2)
    ∷ test_on (codes "first_day") 2 IsAtMost (Value 3) ∷ [])
    (place (codes "first_day") 2 ∷ [])
unfolding everything
lists_obligations = record {
  reads = record { read = _; is = refl; said = refl; untimed = refl; whole = refl };
  opens = record { whole = refl; first = refl };
  resolves = λ tree low. record {
    filters = _;
    grouped = false;
    keys = _;
    after_columns = _;
    after_test = _;
    after_order = _;
    known_columns = refl;
    known_test = refl;
    known_order = refl;
    columns_are = refl;
    filters_are = refl;
    is_grouped = refl;
    keys_are = refl;
    draft_is = λ at. refl;
  };
  accepted = λ tree. (refl, refl);
  is_query = λ tree. refl;
}

pub lists_due_over : Asks Obligations LIST_DUE_OVER.now
    (place (codes "account") 1 ∷ place (codes "first_day") 2 ∷ place (codes "last_day") 3 ∷ place
    (codes "rule") 4 ∷ place (codes "cents") 5 ∷ place (codes "due") 6 ∷ [])
    (test_on (codes "first_day") 2 IsBelow (Value 1) ∷ test_on (codes "due") 6 IsAtLeast (Value 1)
    ∷ [])
    (place (codes "account") 1 ∷ place (codes "first_day") 2 ∷ [])
unfolding everything
lists_due_over = record {
  reads = record { read = _; is = refl; said = refl; untimed = refl; whole = refl };
  opens = record { whole = refl; first = refl };
  resolves = λ tree low. record {
    filters = _;
    grouped = false;
    keys = _;
    after_columns = _;
    after_test = _;
    after_order = _;
    known_columns = refl;
    known_test = refl;
    known_order = refl;
    columns_are = refl;
    filters_are = refl;
    is_grouped = refl;
    keys_are = refl;
    draft_is = λ at. refl;
  };
  accepted = λ tree. (refl, refl);
  is_query = λ tree. refl;
}

pub lists_due_between : Asks Obligations LIST_DUE_BETWEEN.now
    (place (codes "account") 1 ∷ place (codes "first_day") 2 ∷ place (codes "last_day") 3 ∷ place
    (codes "rule") 4 ∷ place (codes "cents") 5 ∷ place (codes "due") 6 ∷ [])
    (test_on (codes "due") 6 IsAtLeast (Value 1) ∷ test_on (codes "due") 6 IsAtMost (Value 2) ∷ [])
    (place (codes "account") 1 ∷ place (codes "first_day") 2 ∷ [])
unfolding everything
lists_due_between = record {
  reads = record { read = _; is = refl; said = refl; untimed = refl; whole = refl };
  opens = record { whole = refl; first = refl };
  resolves = λ tree low. record {
    filters = _;
    grouped = false;
    keys = _;
    after_columns = _;
    after_test = _;
    after_order = _;
    known_columns = refl;
    known_test = refl;
    known_order = refl;
    columns_are = refl;
    filters_are = refl;
    is_grouped = refl;
    keys_are = refl;
    draft_is = λ at. refl;
  };
  accepted = λ tree. (refl, refl);
  is_query = λ tree. refl;
}

pub lists_enrolled : Asks Accounts LIST_ENROLLED.now
    (place (codes "name") 1 ∷ place (codes "start") 2 ∷ place (codes "carried") 3 ∷ [])
    []
    (place (codes "name") 1 ∷ [])
unfolding everything
lists_enrolled = record {
  reads = record { read = _; is = refl; said = refl; untimed = refl; whole = refl };
  opens = record { whole = refl; first = refl };
  resolves = λ tree low. record {
    filters = _;
    grouped = false;
    keys = _;
    after_columns = _;
    after_test = _;
    after_order = _;
    known_columns = refl;
    known_test = refl;
    known_order = refl;
    columns_are = refl;
    filters_are = refl;
    is_grouped = refl;
    keys_are = refl;
    draft_is = λ at. refl;
  };
  accepted = λ tree. (refl, refl);
  is_query = λ tree. refl;
}

pub lists_forms : Asks Forms LIST_FORMS.now
    (place (codes "account") 1 ∷ place (codes "form") 2 ∷ [])
    []
    (place (codes "account") 1 ∷ [])
unfolding everything
lists_forms = record {
  reads = record { read = _; is = refl; said = refl; untimed = refl; whole = refl };
  opens = record { whole = refl; first = refl };
  resolves = λ tree low. record {
    filters = _;
    grouped = false;
    keys = _;
    after_columns = _;
    after_test = _;
    after_order = _;
    known_columns = refl;
    known_test = refl;
    known_order = refl;
    columns_are = refl;
    filters_are = refl;
    is_grouped = refl;
    keys_are = refl;
    draft_is = λ at. refl;
  };
  accepted = λ tree. (refl, refl);
  is_query = λ tree. refl;
}

pub lists_reported : Asks ReportedQuarters LIST_REPORTED.now
    (place (codes "cal_year") 2 ∷ place (codes "quarter") 3 ∷ place (codes "cents") 4 ∷ [])
    (test_on (codes "account") 1 Is (Value 1) ∷ [])
    (place (codes "cal_year") 2 ∷ place (codes "quarter") 3 ∷ [])
unfolding everything
lists_reported = record {
  reads = record { read = _; is = refl; said = refl; untimed = refl; whole = refl };
  opens = record { whole = refl; first = refl };
  resolves = λ tree low. record {
    filters = _;
    grouped = false;
    keys = _;
    after_columns = _;
    after_test = _;
    after_order = _;
    known_columns = refl;
    known_test = refl;
    known_order = refl;
    columns_are = refl;
    filters_are = refl;
    is_grouped = refl;
    keys_are = refl;
    draft_is = λ at. refl;
  };
  accepted = λ tree. (refl, refl);
  is_query = λ tree. refl;
}

pub lists_reported_years : Asks ReportedYears LIST_REPORTED_YEARS.now
    (place (codes "cal_year") 2 ∷ place (codes "cents") 3 ∷ [])
    (test_on (codes "account") 1 Is (Value 1) ∷ [])
    (place (codes "cal_year") 2 ∷ [])
unfolding everything
lists_reported_years = record {
  reads = record { read = _; is = refl; said = refl; untimed = refl; whole = refl };
  opens = record { whole = refl; first = refl };
  resolves = λ tree low. record {
    filters = _;
    grouped = false;
    keys = _;
    after_columns = _;
    after_test = _;
    after_order = _;
    known_columns = refl;
    known_test = refl;
    known_order = refl;
    columns_are = refl;
    filters_are = refl;
    is_grouped = refl;
    keys_are = refl;
    draft_is = λ at. refl;
  };
  accepted = λ tree. (refl, refl);
  is_query = λ tree. refl;
}

pub lists_kept_runs : Asks Runs LIST_KEPT_RUNS.now
    (place (codes "run") 2 ∷ place (codes "payday") 3 ∷ place (codes "fit") 4 ∷ place (codes "ss") 5
    ∷ place (codes "medicare") 6 ∷ place (codes "voided") 7 ∷ [])
    (test_on (codes "account") 1 Is (Value 1) ∷ test_on (codes "payday") 3 IsAtLeast (Value 2)
    ∷ test_on (codes "payday") 3 IsAtMost (Value 3) ∷ [])
    (place (codes "payday") 3 ∷ place (codes "run") 2 ∷ [])
unfolding everything
lists_kept_runs = record {
  reads = record { read = _; is = refl; said = refl; untimed = refl; whole = refl };
  opens = record { whole = refl; first = refl };
  resolves = λ tree low. record {
    filters = _;
    grouped = false;
    keys = _;
    after_columns = _;
    after_test = _;
    after_order = _;
    known_columns = refl;
    known_test = refl;
    known_order = refl;
    columns_are = refl;
    filters_are = refl;
    is_grouped = refl;
    keys_are = refl;
    draft_is = λ at. refl;
  };
  accepted = λ tree. (refl, refl);
  is_query = λ tree. refl;
}

pub lists_kept_payments : Asks Payments LIST_KEPT_PAYMENTS.now
    (place (codes "payment") 2 ∷ place (codes "paid") 3 ∷ place (codes "for_day") 4
    ∷ place (codes "cents") 5 ∷ place (codes "voided") 6 ∷ [])
    (test_on (codes "account") 1 Is (Value 1) ∷ test_on (codes "for_day") 4 IsAtLeast (Value 2)
    ∷ test_on (codes "for_day") 4 IsAtMost (Value 3) ∷ [])
    (place (codes "for_day") 4 ∷ place (codes "payment") 2 ∷ [])
unfolding everything
lists_kept_payments = record {
  reads = record { read = _; is = refl; said = refl; untimed = refl; whole = refl };
  opens = record { whole = refl; first = refl };
  resolves = λ tree low. record {
    filters = _;
    grouped = false;
    keys = _;
    after_columns = _;
    after_test = _;
    after_order = _;
    known_columns = refl;
    known_test = refl;
    known_order = refl;
    columns_are = refl;
    filters_are = refl;
    is_grouped = refl;
    keys_are = refl;
    draft_is = λ at. refl;
  };
  accepted = λ tree. (refl, refl);
  is_query = λ tree. refl;
}

pub lists_corrections : Asks CorrectedQuarters LIST_CORRECTIONS.now
    (place (codes "number") 4 ∷ place (codes "cents") 5 ∷ [])
    (test_on (codes "account") 1 Is (Value 1) ∷ test_on (codes "cal_year") 2 Is (Value 2) ∷ test_on
    (codes "quarter") 3 Is (Value 3) ∷ [])
    (place (codes "number") 4 ∷ [])
unfolding everything
lists_corrections = record {
  reads = record { read = _; is = refl; said = refl; untimed = refl; whole = refl };
  opens = record { whole = refl; first = refl };
  resolves = λ tree low. record {
    filters = _;
    grouped = false;
    keys = _;
    after_columns = _;
    after_test = _;
    after_order = _;
    known_columns = refl;
    known_test = refl;
    known_order = refl;
    columns_are = refl;
    filters_are = refl;
    is_grouped = refl;
    keys_are = refl;
    draft_is = λ at. refl;
  };
  accepted = λ tree. (refl, refl);
  is_query = λ tree. refl;
}

pub lists_year_corrections : Asks CorrectedYears LIST_YEAR_CORRECTIONS.now
    (place (codes "number") 3 ∷ place (codes "cents") 4 ∷ [])
    (test_on (codes "account") 1 Is (Value 1) ∷ test_on (codes "cal_year") 2 Is (Value 2) ∷ [])
    (place (codes "number") 3 ∷ [])
unfolding everything
lists_year_corrections = record {
  reads = record { read = _; is = refl; said = refl; untimed = refl; whole = refl };
  opens = record { whole = refl; first = refl };
  resolves = λ tree low. record {
    filters = _;
    grouped = false;
    keys = _;
    after_columns = _;
    after_test = _;
    after_order = _;
    known_columns = refl;
    known_test = refl;
    known_order = refl;
    columns_are = refl;
    filters_are = refl;
    is_grouped = refl;
    keys_are = refl;
    draft_is = λ at. refl;
  };
  accepted = λ tree. (refl, refl);
  is_query = λ tree. refl;
}

pub lists_account_corrections : Asks CorrectedAccounts LIST_ACCOUNT_CORRECTIONS.now
    (place (codes "number") 2 ∷ place (codes "start") 3 ∷ place (codes "carried") 4 ∷ [])
    (test_on (codes "account") 1 Is (Value 1) ∷ [])
    (place (codes "number") 2 ∷ [])
unfolding everything
lists_account_corrections = record {
  reads = record { read = _; is = refl; said = refl; untimed = refl; whole = refl };
  opens = record { whole = refl; first = refl };
  resolves = λ tree low. record {
    filters = _;
    grouped = false;
    keys = _;
    after_columns = _;
    after_test = _;
    after_order = _;
    known_columns = refl;
    known_test = refl;
    known_order = refl;
    columns_are = refl;
    filters_are = refl;
    is_grouped = refl;
    keys_are = refl;
    draft_is = λ at. refl;
  };
  accepted = λ tree. (refl, refl);
  is_query = λ tree. refl;
}

pub lists_changed_holidays : Asks ChangedHolidays LIST_CHANGED_HOLIDAYS.now
    (place (codes "day") 1 ∷ place (codes "number") 2 ∷ place (codes "is_holiday") 3 ∷ [])
    (test_on (codes "cal_year") 4 Is (Value 1) ∷ [])
    (place (codes "day") 1 ∷ place (codes "number") 2 ∷ [])
unfolding everything
lists_changed_holidays = record {
  reads = record { read = _; is = refl; said = refl; untimed = refl; whole = refl };
  opens = record { whole = refl; first = refl };
  resolves = λ tree low. record {
    filters = _;
    grouped = false;
    keys = _;
    after_columns = _;
    after_test = _;
    after_order = _;
    known_columns = refl;
    known_test = refl;
    known_order = refl;
    columns_are = refl;
    filters_are = refl;
    is_grouped = refl;
    keys_are = refl;
    draft_is = λ at. refl;
  };
  accepted = λ tree. (refl, refl);
  is_query = λ tree. refl;
}

pub counts_runs : Counts Runs COUNT_RUNS.now (test_on (codes "account") 1 Is (Value 1) ∷ [])
unfolding everything
counts_runs = record {
  reads = record { read = _; is = refl; said = refl; untimed = refl; whole = refl };
  opens = record { whole = refl; first = refl };
  resolves = λ tree. record {
    filters = _;
    grouped = true;
    keys = _;
    after_columns = _;
    after_test =
        _;
    after_order = _;
    known_columns = refl;
    known_test = refl;
    known_order = refl;
    columns_are = refl;
    filters_are = refl;
    is_grouped = refl;
    keys_are = refl;
    draft_is = λ at. refl;
  };
  accepted = λ tree. (refl, refl);
  is_query = λ tree. refl;
}

pub counts_payments : Counts Payments COUNT_PAYMENTS.now
    (test_on (codes "account") 1 Is (Value 1) ∷ [])
unfolding everything
counts_payments = record {
  reads = record { read = _; is = refl; said = refl; untimed = refl; whole = refl };
  opens = record { whole = refl; first = refl };
  resolves = λ tree. record {
    filters = _;
    grouped = true;
    keys = _;
    after_columns = _;
    after_test =
        _;
    after_order = _;
    known_columns = refl;
    known_test = refl;
    known_order = refl;
    columns_are = refl;
    filters_are = refl;
    is_grouped = refl;
    keys_are = refl;
    draft_is = λ at. refl;
  };
  accepted = λ tree. (refl, refl);
  is_query = λ tree. refl;
}
