-- What the texts compute to that list the rows of a table in the order in which they were added, or
-- count all of its rows.
use Rattle.std.proofs.Common.{List, [], ◌∷◌, codes, map, true, false, refl, Ok, Err}
use Rattle.sqlite_tied.specs.Compute.{everything}
use Rattle.sqlite_resolve.specs.declared.state.State.{State}
use Rattle.sqlite_resolve.specs.Lowering.{Checked, fresh, max_budget}
use Rattle.sqlite_resolve.specs.Body.{outputs, tests}
use Rattle.sqlite_resolve.specs.Order.{sorts}
use Rattle.sqlite_resolve.specs.Expr.{lower}
use Rattle.ftd_sql.specs.declared.TableName.{TableName}
use Rattle.ftd_sql.specs.declared.TableName.TheVariants.{Accounts, Forms, CorrectedAccounts}
use Rattle.ftd_sql.specs.declared.TableName.TheVariants.{ReportedQuarters, ReportedYears}
use Rattle.ftd_sql.specs.declared.TableName.TheVariants.{CorrectedQuarters, CorrectedYears}
use Rattle.ftd_sql.specs.declared.TableName.TheVariants.{CalendarYears, Holidays, AddedHolidays}
use Rattle.ftd_sql.specs.declared.TableName.TheVariants.{ChangedHolidays, Years, Runs, Payments}
use Rattle.ftd_sql.specs.declared.TableName.TheVariants.{Obligations}
use Rattle.ftd_sql.specs.Names.{name_of}
use Rattle.ftd_sql.specs.Layout.{table_of}
use Rattle.ftd_sql.specs.declared.texts.TheConstants.{LIST_ACCOUNTS_BY_ROW, LIST_FORMS_BY_ROW}
use Rattle.ftd_sql.specs.declared.texts.TheConstants.{LIST_ACCOUNT_CORRECTIONS_BY_ROW}
use Rattle.ftd_sql.specs.declared.texts.TheConstants.{LIST_REPORTED_BY_ROW}
use Rattle.ftd_sql.specs.declared.texts.TheConstants.{LIST_REPORTED_YEARS_BY_ROW}
use Rattle.ftd_sql.specs.declared.texts.TheConstants.{LIST_CORRECTIONS_BY_ROW}
use Rattle.ftd_sql.specs.declared.texts.TheConstants.{LIST_YEAR_CORRECTIONS_BY_ROW}
use Rattle.ftd_sql.specs.declared.texts.TheConstants.{LIST_CALENDAR_YEARS_BY_ROW}
use Rattle.ftd_sql.specs.declared.texts.TheConstants.{LIST_HOLIDAYS_BY_ROW}
use Rattle.ftd_sql.specs.declared.texts.TheConstants.{LIST_ADDED_HOLIDAYS_BY_ROW}
use Rattle.ftd_sql.specs.declared.texts.TheConstants.{LIST_CHANGED_HOLIDAYS_BY_ROW}
use Rattle.ftd_sql.specs.declared.texts.TheConstants.{LIST_YEARS_BY_ROW, LIST_RUNS_BY_ROW}
use Rattle.ftd_sql.specs.declared.texts.TheConstants.{LIST_PAYMENTS_BY_ROW, LIST_OBLIGATIONS_BY_ROW}
use Rattle.ftd_sql.specs.declared.texts.TheConstants.{COUNT_ALL_FORMS}
use Rattle.ftd_sql.specs.declared.texts.TheConstants.{COUNT_ALL_ACCOUNT_CORRECTIONS}
use Rattle.ftd_sql.specs.declared.texts.TheConstants.{COUNT_ALL_REPORTED, COUNT_ALL_REPORTED_YEARS}
use Rattle.ftd_sql.specs.declared.texts.TheConstants.{COUNT_ALL_CORRECTIONS}
use Rattle.ftd_sql.specs.declared.texts.TheConstants.{COUNT_ALL_YEAR_CORRECTIONS, COUNT_ALL_YEARS}
use Rattle.ftd_sql.specs.declared.texts.TheConstants.{COUNT_ALL_RUNS, COUNT_ALL_PAYMENTS}
use Rattle.ftd_sql.specs.declared.texts.TheConstants.{COUNT_ALL_OBLIGATIONS}
use Rattle.ftd_sql.proofs.Phrase.{here, alone}
use Rattle.ftd_sql.proofs.Selects.{bound, show, said, sort}
use Rattle.ftd_sql.proofs.Shapes.{Place, Test, place, test_on, by_rowid, Value, Is, where_of}
use Rattle.ftd_sql.proofs.Shapes.{shown_of, order_of, outs_of, keys_of}
use Rattle.ftd_sql.proofs.Reading.{Asks, Counts}

-- the rows of one account
abbrev pub of_account : List Test
of_account = test_on (codes "account") 1 Is (Value 1) ∷ []

-- ---- the state after the statement is lowered, which is the same wherever the table's tree is

abbrev state_of : {A : Type 0} → Checked (A × State) → State
state_of (Ok x) = x.1
state_of (Err e) = fresh 2 max_budget

abbrev after_columns : TableName → List Place → State
after_columns n columns =
    state_of (outputs lower (here (alone (table_of n 0)) 0 (name_of n) [] true)
    (bound 0 (name_of n) ∷ []) (map show (shown_of columns)) (fresh 2 max_budget))

abbrev after_tests : TableName → List Place → List Test → State
after_tests n columns conditions =
    state_of (tests lower (here (alone (table_of n 0)) 0 (name_of n) (outs_of columns) false) []
    (said (where_of conditions)) (after_columns n columns))

abbrev after_order : TableName → List Place → List Test → State
after_order n columns conditions =
    state_of (sorts lower (here (alone (table_of n 0)) 0 (name_of n) (outs_of columns) false)
    (outs_of columns) (map sort (order_of by_rowid)) (after_tests n columns conditions))

-- ---- in the order in which the rows were added

abbrev accounts_columns : List Place
accounts_columns = place (codes "name") 1 ∷ place (codes "start") 2 ∷ place (codes "carried") 3 ∷ []

pub rows_of_accounts : Asks Accounts LIST_ACCOUNTS_BY_ROW.now accounts_columns [] by_rowid
unfolding everything
rows_of_accounts = record {
  reads = record { read = _; is = refl; said = refl; untimed = refl; whole = refl };
  opens = record { whole = refl; first = refl };
  resolves = λ tree low. record {
    filters = _;
    grouped = false;
    keys = keys_of by_rowid;
    after_columns = _;
    after_test = _;
    after_order = after_order Accounts accounts_columns [];
    known_columns = refl;
    known_test = refl;
    known_order = rw low refl;
    columns_are = refl;
    filters_are = refl;
    is_grouped = refl;
    keys_are = rw low refl;
    draft_is = λ at. refl;
  };
  accepted = λ tree. (refl, refl);
  is_query = λ tree. refl;
}

abbrev forms_columns : List Place
forms_columns = place (codes "form") 2 ∷ []

pub rows_of_forms : Asks Forms LIST_FORMS_BY_ROW.now forms_columns of_account by_rowid
unfolding everything
rows_of_forms = record {
  reads = record { read = _; is = refl; said = refl; untimed = refl; whole = refl };
  opens = record { whole = refl; first = refl };
  resolves = λ tree low. record {
    filters = _;
    grouped = false;
    keys = keys_of by_rowid;
    after_columns = _;
    after_test = _;
    after_order = after_order Forms forms_columns of_account;
    known_columns = refl;
    known_test = refl;
    known_order = rw low refl;
    columns_are = refl;
    filters_are = refl;
    is_grouped = refl;
    keys_are = rw low refl;
    draft_is = λ at. refl;
  };
  accepted = λ tree. (refl, refl);
  is_query = λ tree. refl;
}

abbrev account_corrections_columns : List Place
account_corrections_columns =
    place (codes "number") 2 ∷ place (codes "start") 3 ∷ place (codes "carried") 4 ∷ []

pub rows_of_account_corrections : Asks CorrectedAccounts LIST_ACCOUNT_CORRECTIONS_BY_ROW.now
    account_corrections_columns of_account by_rowid
unfolding everything
rows_of_account_corrections = record {
  reads = record { read = _; is = refl; said = refl; untimed = refl; whole = refl };
  opens = record { whole = refl; first = refl };
  resolves = λ tree low. record {
    filters = _;
    grouped = false;
    keys = keys_of by_rowid;
    after_columns = _;
    after_test = _;
    after_order = after_order CorrectedAccounts account_corrections_columns of_account;
    known_columns = refl;
    known_test = refl;
    known_order = rw low refl;
    columns_are = refl;
    filters_are = refl;
    is_grouped = refl;
    keys_are = rw low refl;
    draft_is = λ at. refl;
  };
  accepted = λ tree. (refl, refl);
  is_query = λ tree. refl;
}

abbrev reported_columns : List Place
reported_columns =
    place (codes "cal_year") 2 ∷ place (codes "quarter") 3 ∷ place (codes "cents") 4 ∷ []

pub rows_of_reported : Asks ReportedQuarters LIST_REPORTED_BY_ROW.now reported_columns of_account
    by_rowid
unfolding everything
rows_of_reported = record {
  reads = record { read = _; is = refl; said = refl; untimed = refl; whole = refl };
  opens = record { whole = refl; first = refl };
  resolves = λ tree low. record {
    filters = _;
    grouped = false;
    keys = keys_of by_rowid;
    after_columns = _;
    after_test = _;
    after_order = after_order ReportedQuarters reported_columns of_account;
    known_columns = refl;
    known_test = refl;
    known_order = rw low refl;
    columns_are = refl;
    filters_are = refl;
    is_grouped = refl;
    keys_are = rw low refl;
    draft_is = λ at. refl;
  };
  accepted = λ tree. (refl, refl);
  is_query = λ tree. refl;
}

abbrev reported_years_columns : List Place
reported_years_columns = place (codes "cal_year") 2 ∷ place (codes "cents") 3 ∷ []

pub rows_of_reported_years : Asks ReportedYears LIST_REPORTED_YEARS_BY_ROW.now
    reported_years_columns of_account by_rowid
unfolding everything
rows_of_reported_years = record {
  reads = record { read = _; is = refl; said = refl; untimed = refl; whole = refl };
  opens = record { whole = refl; first = refl };
  resolves = λ tree low. record {
    filters = _;
    grouped = false;
    keys = keys_of by_rowid;
    after_columns = _;
    after_test = _;
    after_order = after_order ReportedYears reported_years_columns of_account;
    known_columns = refl;
    known_test = refl;
    known_order = rw low refl;
    columns_are = refl;
    filters_are = refl;
    is_grouped = refl;
    keys_are = rw low refl;
    draft_is = λ at. refl;
  };
  accepted = λ tree. (refl, refl);
  is_query = λ tree. refl;
}

abbrev corrections_columns : List Place
corrections_columns =
    place (codes "cal_year") 2 ∷ place (codes "quarter") 3 ∷ place (codes "number") 4
    ∷ place (codes "cents") 5 ∷ []

pub rows_of_corrections : Asks CorrectedQuarters LIST_CORRECTIONS_BY_ROW.now corrections_columns
    of_account by_rowid
unfolding everything
rows_of_corrections = record {
  reads = record { read = _; is = refl; said = refl; untimed = refl; whole = refl };
  opens = record { whole = refl; first = refl };
  resolves = λ tree low. record {
    filters = _;
    grouped = false;
    keys = keys_of by_rowid;
    after_columns = _;
    after_test = _;
    after_order = after_order CorrectedQuarters corrections_columns of_account;
    known_columns = refl;
    known_test = refl;
    known_order = rw low refl;
    columns_are = refl;
    filters_are = refl;
    is_grouped = refl;
    keys_are = rw low refl;
    draft_is = λ at. refl;
  };
  accepted = λ tree. (refl, refl);
  is_query = λ tree. refl;
}

abbrev year_corrections_columns : List Place
year_corrections_columns =
    place (codes "cal_year") 2 ∷ place (codes "number") 3 ∷ place (codes "cents") 4 ∷ []

pub rows_of_year_corrections : Asks CorrectedYears LIST_YEAR_CORRECTIONS_BY_ROW.now
    year_corrections_columns of_account by_rowid
unfolding everything
rows_of_year_corrections = record {
  reads = record { read = _; is = refl; said = refl; untimed = refl; whole = refl };
  opens = record { whole = refl; first = refl };
  resolves = λ tree low. record {
    filters = _;
    grouped = false;
    keys = keys_of by_rowid;
    after_columns = _;
    after_test = _;
    after_order = after_order CorrectedYears year_corrections_columns of_account;
    known_columns = refl;
    known_test = refl;
    known_order = rw low refl;
    columns_are = refl;
    filters_are = refl;
    is_grouped = refl;
    keys_are = rw low refl;
    draft_is = λ at. refl;
  };
  accepted = λ tree. (refl, refl);
  is_query = λ tree. refl;
}

abbrev calendar_years_columns : List Place
calendar_years_columns = place (codes "cal_year") 1 ∷ []

pub rows_of_calendar_years : Asks CalendarYears LIST_CALENDAR_YEARS_BY_ROW.now
    calendar_years_columns [] by_rowid
unfolding everything
rows_of_calendar_years = record {
  reads = record { read = _; is = refl; said = refl; untimed = refl; whole = refl };
  opens = record { whole = refl; first = refl };
  resolves = λ tree low. record {
    filters = _;
    grouped = false;
    keys = keys_of by_rowid;
    after_columns = _;
    after_test = _;
    after_order = after_order CalendarYears calendar_years_columns [];
    known_columns = refl;
    known_test = refl;
    known_order = rw low refl;
    columns_are = refl;
    filters_are = refl;
    is_grouped = refl;
    keys_are = rw low refl;
    draft_is = λ at. refl;
  };
  accepted = λ tree. (refl, refl);
  is_query = λ tree. refl;
}

abbrev holidays_columns : List Place
holidays_columns = place (codes "day") 1 ∷ place (codes "cal_year") 2 ∷ []

pub rows_of_holidays : Asks Holidays LIST_HOLIDAYS_BY_ROW.now holidays_columns [] by_rowid
unfolding everything
rows_of_holidays = record {
  reads = record { read = _; is = refl; said = refl; untimed = refl; whole = refl };
  opens = record { whole = refl; first = refl };
  resolves = λ tree low. record {
    filters = _;
    grouped = false;
    keys = keys_of by_rowid;
    after_columns = _;
    after_test = _;
    after_order = after_order Holidays holidays_columns [];
    known_columns = refl;
    known_test = refl;
    known_order = rw low refl;
    columns_are = refl;
    filters_are = refl;
    is_grouped = refl;
    keys_are = rw low refl;
    draft_is = λ at. refl;
  };
  accepted = λ tree. (refl, refl);
  is_query = λ tree. refl;
}

abbrev added_holidays_columns : List Place
added_holidays_columns = place (codes "day") 1 ∷ place (codes "cal_year") 2 ∷ []

pub rows_of_added_holidays : Asks AddedHolidays LIST_ADDED_HOLIDAYS_BY_ROW.now
    added_holidays_columns [] by_rowid
unfolding everything
rows_of_added_holidays = record {
  reads = record { read = _; is = refl; said = refl; untimed = refl; whole = refl };
  opens = record { whole = refl; first = refl };
  resolves = λ tree low. record {
    filters = _;
    grouped = false;
    keys = keys_of by_rowid;
    after_columns = _;
    after_test = _;
    after_order = after_order AddedHolidays added_holidays_columns [];
    known_columns = refl;
    known_test = refl;
    known_order = rw low refl;
    columns_are = refl;
    filters_are = refl;
    is_grouped = refl;
    keys_are = rw low refl;
    draft_is = λ at. refl;
  };
  accepted = λ tree. (refl, refl);
  is_query = λ tree. refl;
}

abbrev holiday_changes_columns : List Place
holiday_changes_columns =
    place (codes "day") 1 ∷ place (codes "number") 2 ∷ place (codes "is_holiday") 3
    ∷ place (codes "cal_year") 4 ∷ []

pub rows_of_holiday_changes : Asks ChangedHolidays LIST_CHANGED_HOLIDAYS_BY_ROW.now
    holiday_changes_columns [] by_rowid
unfolding everything
rows_of_holiday_changes = record {
  reads = record { read = _; is = refl; said = refl; untimed = refl; whole = refl };
  opens = record { whole = refl; first = refl };
  resolves = λ tree low. record {
    filters = _;
    grouped = false;
    keys = keys_of by_rowid;
    after_columns = _;
    after_test = _;
    after_order = after_order ChangedHolidays holiday_changes_columns [];
    known_columns = refl;
    known_test = refl;
    known_order = rw low refl;
    columns_are = refl;
    filters_are = refl;
    is_grouped = refl;
    keys_are = rw low refl;
    draft_is = λ at. refl;
  };
  accepted = λ tree. (refl, refl);
  is_query = λ tree. refl;
}

abbrev years_columns : List Place
years_columns =
    place (codes "cal_year") 2 ∷ place (codes "lookback") 3 ∷ place (codes "opening") 4
    ∷ place (codes "turn") 5 ∷ []

pub rows_of_years : Asks Years LIST_YEARS_BY_ROW.now years_columns of_account by_rowid
unfolding everything
rows_of_years = record {
  reads = record { read = _; is = refl; said = refl; untimed = refl; whole = refl };
  opens = record { whole = refl; first = refl };
  resolves = λ tree low. record {
    filters = _;
    grouped = false;
    keys = keys_of by_rowid;
    after_columns = _;
    after_test = _;
    after_order = after_order Years years_columns of_account;
    known_columns = refl;
    known_test = refl;
    known_order = rw low refl;
    columns_are = refl;
    filters_are = refl;
    is_grouped = refl;
    keys_are = rw low refl;
    draft_is = λ at. refl;
  };
  accepted = λ tree. (refl, refl);
  is_query = λ tree. refl;
}

abbrev runs_columns : List Place
runs_columns =
    place (codes "run") 2 ∷ place (codes "payday") 3 ∷ place (codes "fit") 4 ∷ place (codes "ss") 5
    ∷ place (codes "medicare") 6 ∷ place (codes "voided") 7 ∷ []

pub rows_of_runs : Asks Runs LIST_RUNS_BY_ROW.now runs_columns of_account by_rowid
unfolding everything
rows_of_runs = record {
  reads = record { read = _; is = refl; said = refl; untimed = refl; whole = refl };
  opens = record { whole = refl; first = refl };
  resolves = λ tree low. record {
    filters = _;
    grouped = false;
    keys = keys_of by_rowid;
    after_columns = _;
    after_test = _;
    after_order = after_order Runs runs_columns of_account;
    known_columns = refl;
    known_test = refl;
    known_order = rw low refl;
    columns_are = refl;
    filters_are = refl;
    is_grouped = refl;
    keys_are = rw low refl;
    draft_is = λ at. refl;
  };
  accepted = λ tree. (refl, refl);
  is_query = λ tree. refl;
}

abbrev payments_columns : List Place
payments_columns =
    place (codes "payment") 2 ∷ place (codes "paid") 3 ∷ place (codes "for_day") 4
    ∷ place (codes "cents") 5 ∷ place (codes "voided") 6 ∷ []

pub rows_of_payments : Asks Payments LIST_PAYMENTS_BY_ROW.now payments_columns of_account by_rowid
unfolding everything
rows_of_payments = record {
  reads = record { read = _; is = refl; said = refl; untimed = refl; whole = refl };
  opens = record { whole = refl; first = refl };
  resolves = λ tree low. record {
    filters = _;
    grouped = false;
    keys = keys_of by_rowid;
    after_columns = _;
    after_test = _;
    after_order = after_order Payments payments_columns of_account;
    known_columns = refl;
    known_test = refl;
    known_order = rw low refl;
    columns_are = refl;
    filters_are = refl;
    is_grouped = refl;
    keys_are = rw low refl;
    draft_is = λ at. refl;
  };
  accepted = λ tree. (refl, refl);
  is_query = λ tree. refl;
}

abbrev obligations_columns : List Place
obligations_columns =
    place (codes "first_day") 2 ∷ place (codes "last_day") 3 ∷ place (codes "rule") 4
    ∷ place (codes "cents") 5 ∷ place (codes "due") 6 ∷ []

pub rows_of_obligations : Asks Obligations LIST_OBLIGATIONS_BY_ROW.now obligations_columns
    of_account by_rowid
unfolding everything
rows_of_obligations = record {
  reads = record { read = _; is = refl; said = refl; untimed = refl; whole = refl };
  opens = record { whole = refl; first = refl };
  resolves = λ tree low. record {
    filters = _;
    grouped = false;
    keys = keys_of by_rowid;
    after_columns = _;
    after_test = _;
    after_order = after_order Obligations obligations_columns of_account;
    known_columns = refl;
    known_test = refl;
    known_order = rw low refl;
    columns_are = refl;
    filters_are = refl;
    is_grouped = refl;
    keys_are = rw low refl;
    draft_is = λ at. refl;
  };
  accepted = λ tree. (refl, refl);
  is_query = λ tree. refl;
}

-- ---- counted

pub counts_all_forms : Counts Forms COUNT_ALL_FORMS.now []
unfolding everything
counts_all_forms = record {
  reads = record { read = _; is = refl; said = refl; untimed = refl; whole = refl };
  opens = record { whole = refl; first = refl };
  resolves = λ tree. record {
    filters = _;
    grouped = true;
    keys = _;
    after_columns = _;
    after_test = _;
    after_order = _;
    known_columns = refl;
    known_test = refl;
    known_order = refl;
    columns_are = refl;
    filters_are = refl;
    is_grouped = refl;
    keys_are = refl;
    draft_is = λ at. refl;
  };
  accepted = λ tree. (refl, refl);
  is_query = λ tree. refl;
}

pub counts_all_account_corrections : Counts CorrectedAccounts COUNT_ALL_ACCOUNT_CORRECTIONS.now []
unfolding everything
counts_all_account_corrections = record {
  reads = record { read = _; is = refl; said = refl; untimed = refl; whole = refl };
  opens = record { whole = refl; first = refl };
  resolves = λ tree. record {
    filters = _;
    grouped = true;
    keys = _;
    after_columns = _;
    after_test = _;
    after_order = _;
    known_columns = refl;
    known_test = refl;
    known_order = refl;
    columns_are = refl;
    filters_are = refl;
    is_grouped = refl;
    keys_are = refl;
    draft_is = λ at. refl;
  };
  accepted = λ tree. (refl, refl);
  is_query = λ tree. refl;
}

pub counts_all_reported : Counts ReportedQuarters COUNT_ALL_REPORTED.now []
unfolding everything
counts_all_reported = record {
  reads = record { read = _; is = refl; said = refl; untimed = refl; whole = refl };
  opens = record { whole = refl; first = refl };
  resolves = λ tree. record {
    filters = _;
    grouped = true;
    keys = _;
    after_columns = _;
    after_test = _;
    after_order = _;
    known_columns = refl;
    known_test = refl;
    known_order = refl;
    columns_are = refl;
    filters_are = refl;
    is_grouped = refl;
    keys_are = refl;
    draft_is = λ at. refl;
  };
  accepted = λ tree. (refl, refl);
  is_query = λ tree. refl;
}

pub counts_all_reported_years : Counts ReportedYears COUNT_ALL_REPORTED_YEARS.now []
unfolding everything
counts_all_reported_years = record {
  reads = record { read = _; is = refl; said = refl; untimed = refl; whole = refl };
  opens = record { whole = refl; first = refl };
  resolves = λ tree. record {
    filters = _;
    grouped = true;
    keys = _;
    after_columns = _;
    after_test = _;
    after_order = _;
    known_columns = refl;
    known_test = refl;
    known_order = refl;
    columns_are = refl;
    filters_are = refl;
    is_grouped = refl;
    keys_are = refl;
    draft_is = λ at. refl;
  };
  accepted = λ tree. (refl, refl);
  is_query = λ tree. refl;
}

pub counts_all_corrections : Counts CorrectedQuarters COUNT_ALL_CORRECTIONS.now []
unfolding everything
counts_all_corrections = record {
  reads = record { read = _; is = refl; said = refl; untimed = refl; whole = refl };
  opens = record { whole = refl; first = refl };
  resolves = λ tree. record {
    filters = _;
    grouped = true;
    keys = _;
    after_columns = _;
    after_test = _;
    after_order = _;
    known_columns = refl;
    known_test = refl;
    known_order = refl;
    columns_are = refl;
    filters_are = refl;
    is_grouped = refl;
    keys_are = refl;
    draft_is = λ at. refl;
  };
  accepted = λ tree. (refl, refl);
  is_query = λ tree. refl;
}

pub counts_all_year_corrections : Counts CorrectedYears COUNT_ALL_YEAR_CORRECTIONS.now []
unfolding everything
counts_all_year_corrections = record {
  reads = record { read = _; is = refl; said = refl; untimed = refl; whole = refl };
  opens = record { whole = refl; first = refl };
  resolves = λ tree. record {
    filters = _;
    grouped = true;
    keys = _;
    after_columns = _;
    after_test = _;
    after_order = _;
    known_columns = refl;
    known_test = refl;
    known_order = refl;
    columns_are = refl;
    filters_are = refl;
    is_grouped = refl;
    keys_are = refl;
    draft_is = λ at. refl;
  };
  accepted = λ tree. (refl, refl);
  is_query = λ tree. refl;
}

pub counts_all_years : Counts Years COUNT_ALL_YEARS.now []
unfolding everything
counts_all_years = record {
  reads = record { read = _; is = refl; said = refl; untimed = refl; whole = refl };
  opens = record { whole = refl; first = refl };
  resolves = λ tree. record {
    filters = _;
    grouped = true;
    keys = _;
    after_columns = _;
    after_test = _;
    after_order = _;
    known_columns = refl;
    known_test = refl;
    known_order = refl;
    columns_are = refl;
    filters_are = refl;
    is_grouped = refl;
    keys_are = refl;
    draft_is = λ at. refl;
  };
  accepted = λ tree. (refl, refl);
  is_query = λ tree. refl;
}

pub counts_all_runs : Counts Runs COUNT_ALL_RUNS.now []
unfolding everything
counts_all_runs = record {
  reads = record { read = _; is = refl; said = refl; untimed = refl; whole = refl };
  opens = record { whole = refl; first = refl };
  resolves = λ tree. record {
    filters = _;
    grouped = true;
    keys = _;
    after_columns = _;
    after_test = _;
    after_order = _;
    known_columns = refl;
    known_test = refl;
    known_order = refl;
    columns_are = refl;
    filters_are = refl;
    is_grouped = refl;
    keys_are = refl;
    draft_is = λ at. refl;
  };
  accepted = λ tree. (refl, refl);
  is_query = λ tree. refl;
}

pub counts_all_payments : Counts Payments COUNT_ALL_PAYMENTS.now []
unfolding everything
counts_all_payments = record {
  reads = record { read = _; is = refl; said = refl; untimed = refl; whole = refl };
  opens = record { whole = refl; first = refl };
  resolves = λ tree. record {
    filters = _;
    grouped = true;
    keys = _;
    after_columns = _;
    after_test = _;
    after_order = _;
    known_columns = refl;
    known_test = refl;
    known_order = refl;
    columns_are = refl;
    filters_are = refl;
    is_grouped = refl;
    keys_are = refl;
    draft_is = λ at. refl;
  };
  accepted = λ tree. (refl, refl);
  is_query = λ tree. refl;
}

pub counts_all_obligations : Counts Obligations COUNT_ALL_OBLIGATIONS.now []
unfolding everything
counts_all_obligations = record {
  reads = record { read = _; is = refl; said = refl; untimed = refl; whole = refl };
  opens = record { whole = refl; first = refl };
  resolves = λ tree. record {
    filters = _;
    grouped = true;
    keys = _;
    after_columns = _;
    after_test = _;
    after_order = _;
    known_columns = refl;
    known_test = refl;
    known_order = refl;
    columns_are = refl;
    filters_are = refl;
    is_grouped = refl;
    keys_are = refl;
    draft_is = λ at. refl;
  };
  accepted = λ tree. (refl, refl);
  is_query = λ tree. refl;
}
