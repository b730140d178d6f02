-- What each statement shows of the typed rows, or makes of them.
use Rattle.std.proofs.Common.{◌≡◌, ℕ, ℤ, pos, List, [], ◌∷◌, length, map, not, Bool, true, Ok, refl}
use Rattle.std.proofs.Common.{ap, subst, sym, ◌∙◌, ◌⊎◌, inl, inr, false}
use Rattle.std.specs.Prelude.{filter, min}
use Rattle.std.specs.List.Sorted.{IsPermutation}
use Rattle.std.specs.Ordering.{is_lt, nat_cmp, ordering_then, ordering_reverse}
use Rattle.std.specs.declared.cmp.Ordering.{Ordering}
use Rattle.std.specs.declared.cmp.Ordering.TheVariants.{Less, Equal, Greater}
use Rattle.std.specs.FinMap.{slice_cmp-IsAntisymmetric, nat_cmp-IsAntisymmetric}
use Rattle.std.proofs.lemmas.Cmp.{nat_list_cmp_total}
use Rattle.sqlite_value.proofs.OrderLemmas.{value_cmp-Text}
use Rattle.std.specs.Cmp.Lexicographic.{slice_cmp}
use Rattle.sqlite.specs.declared.types.Value.TheVariants.{Int, Text}
use Rattle.sqlite.specs.Order.{Row, value_cmp}
use Rattle.sqlite.specs.State.{State, Executes, Shown}
use Rattle.sqlite_tied.specs.Compute.{everything}
use Rattle.ftd_sql.specs.Kept.{changed}
use Rattle.ftd_sql.specs.Order.{EachToNext}
use Rattle.ftd_sql.proofs.Counting.{greatest_count}
use Rattle.ftd_sql.proofs.KeptLemmas.{text_is, cast_int, cast_int_or_null}
use Rattle.ftd_sql.proofs.Passing.{one_passes, two_pass, three_pass, four_pass}
use Rattle.ftd_sql.specs.declared.TableName.{TableName}
use Rattle.ftd_sql.specs.declared.TableName.TheVariants.{Metas, Accounts, ReportedQuarters}
use Rattle.ftd_sql.specs.declared.TableName.TheVariants.{CalendarYears, Holidays, Years, Runs}
use Rattle.ftd_sql.specs.declared.TableName.TheVariants.{Payments, Obligations, Forms}
use Rattle.ftd_sql.specs.declared.TableName.TheVariants.{ReportedYears, AddedHolidays}
use Rattle.ftd_sql.specs.declared.TableName.TheVariants.{CorrectedQuarters, CorrectedYears}
use Rattle.ftd_sql.specs.declared.TableName.TheVariants.{ChangedHolidays, CorrectedAccounts}
use Rattle.ftd_sql.specs.Places.{Holds}
use Rattle.ftd_sql.specs.Names.{name_of}
use Rattle.ftd_sql.specs.Layout.{table_of}
use Rattle.ftd_sql.specs.Rows.{RowOf, cells_of, MetaRow, AccountRow, YearRow, ObligationRow}
use Rattle.ftd_sql.specs.Standing.{Tables, with_rows, Stands, Becomes}
use Rattle.ftd_sql.specs.declared.texts.TheConstants.{LIST_METAS, READ_ACCOUNT, LIST_ACCOUNTS}
use Rattle.ftd_sql.specs.declared.texts.TheConstants.{READ_FORM, READ_REPORTED}
use Rattle.ftd_sql.specs.declared.texts.TheConstants.{READ_REPORTED_YEAR, READ_CALENDAR_YEAR}
use Rattle.ftd_sql.specs.declared.texts.TheConstants.{READ_RUN, READ_PAYMENT, LIST_HOLIDAYS}
use Rattle.ftd_sql.specs.declared.texts.TheConstants.{LIST_ADDED_HOLIDAYS, LIST_YEARS, LIST_RUNS}
use Rattle.ftd_sql.specs.declared.texts.TheConstants.{LIST_PAYMENTS, LIST_OBLIGATIONS}
use Rattle.ftd_sql.specs.declared.texts.TheConstants.{LIST_DUE_OVER, COUNT_RUNS}
use Rattle.ftd_sql.specs.declared.texts.TheConstants.{LIST_DUE_BETWEEN, LIST_ENROLLED}
use Rattle.ftd_sql.specs.declared.texts.TheConstants.{LIST_FORMS, LIST_REPORTED}
use Rattle.ftd_sql.specs.declared.texts.TheConstants.{LIST_REPORTED_YEARS, LIST_KEPT_RUNS}
use Rattle.ftd_sql.specs.declared.texts.TheConstants.{LIST_KEPT_PAYMENTS, COUNT_PAYMENTS}
use Rattle.ftd_sql.specs.declared.texts.TheConstants.{SET_VERSION, SET_YEAR, VOID_RUN}
use Rattle.ftd_sql.specs.declared.texts.TheConstants.{VOID_PAYMENT, SET_OBLIGATION, SET_DUE}
use Rattle.ftd_sql.specs.declared.texts.TheConstants.{REMOVE_OBLIGATIONS, LIST_CORRECTIONS}
use Rattle.ftd_sql.specs.declared.texts.TheConstants.{LIST_YEAR_CORRECTIONS}
use Rattle.ftd_sql.specs.declared.texts.TheConstants.{LIST_ACCOUNT_CORRECTIONS}
use Rattle.ftd_sql.specs.declared.texts.TheConstants.{LIST_CHANGED_HOLIDAYS}
use Rattle.ftd_sql.specs.Given.{name_given, number_given, key_given, pair_given, days_given}
use Rattle.ftd_sql.specs.Answers.{meta_shown, account_shown, name_shown, form_shown}
use Rattle.ftd_sql.specs.Answers.{reported_shown}
use Rattle.ftd_sql.specs.Answers.{reported_year_shown, calendar_year_shown, holiday_shown}
use Rattle.ftd_sql.specs.Answers.{year_shown, run_shown, live_run_shown, payment_shown}
use Rattle.ftd_sql.specs.Answers.{live_payment_shown, obligation_shown, account_obligation_shown}
use Rattle.ftd_sql.specs.Tests.{is_tag, is_account, is_form_of, is_reported, is_reported_year}
use Rattle.ftd_sql.specs.Tests.{is_calendar_year, is_holiday_of, is_year, is_year_of, is_run}
use Rattle.ftd_sql.specs.Tests.{is_run_of, is_live_run_between, is_payment, is_payment_of}
use Rattle.ftd_sql.specs.Tests.{is_live_payment_between, is_obligation_between, is_obligation}
use Rattle.ftd_sql.specs.Tests.{is_due_over, voided_run, voided_payment, with_figures}
use Rattle.ftd_sql.specs.Tests.{with_terms, is_due_between, with_due, with_version}
use Rattle.ftd_sql.specs.Orders.{HolidaysRise, YearsRise, RunsRise, PaymentsRise}
use Rattle.ftd_sql.specs.Orders.{ObligationsRise, AccountsRise}
use Rattle.ftd_sql.proofs.Passing.{whole_is, below_is, at_least_is, at_most_is, one_rises}
use Rattle.ftd_sql.proofs.Passing.{two_rise, three_rise, text_then_number}
use Rattle.ftd_sql.proofs.Reading.{shows, lists, counts}
use Rattle.ftd_sql.proofs.Writing.{changes, changes_nothing, removes}
use Rattle.ftd_sql.proofs.Asking.{lists_metas, reads_account, lists_accounts, reads_form}
use Rattle.ftd_sql.proofs.Asking.{reads_reported, reads_reported_year, reads_calendar_year}
use Rattle.ftd_sql.proofs.Asking.{reads_run, reads_payment, lists_holidays, lists_added_holidays}
use Rattle.ftd_sql.proofs.Asking.{lists_years, lists_runs, lists_payments, lists_obligations}
use Rattle.ftd_sql.proofs.Asking.{lists_due_over, lists_due_between, counts_runs}
use Rattle.ftd_sql.proofs.Asking.{counts_payments, lists_enrolled, lists_forms, lists_reported}
use Rattle.ftd_sql.proofs.Asking.{lists_reported_years, lists_kept_runs, lists_kept_payments}
use Rattle.ftd_sql.specs.Answers.{enrolled_shown, account_form_shown, quarter_total_shown}
use Rattle.ftd_sql.specs.Answers.{year_total_shown, kept_run_shown, kept_payment_shown}
use Rattle.ftd_sql.specs.Tests.{is_any_account, is_any_form, is_reported_of}
use Rattle.ftd_sql.specs.Tests.{is_reported_year_of, is_run_between, is_payment_between}
use Rattle.ftd_sql.specs.Orders.{NamesRise, FormsRise, QuartersRise, ReportedYearsRise}
use Rattle.ftd_sql.proofs.Asking.{lists_corrections, lists_year_corrections}
use Rattle.ftd_sql.proofs.Asking.{lists_account_corrections}
use Rattle.ftd_sql.proofs.Asking.{lists_changed_holidays}
use Rattle.ftd_sql.specs.Answers.{correction_shown}
use Rattle.ftd_sql.specs.Answers.{correction_of_year_shown}
use Rattle.ftd_sql.specs.Answers.{account_correction_shown, holiday_change_shown}
use Rattle.ftd_sql.specs.Tests.{is_correction, is_year_correction}
use Rattle.ftd_sql.specs.Tests.{is_account_correction_of}
use Rattle.ftd_sql.specs.Tests.{is_holiday_change_of}
use Rattle.ftd_sql.specs.Orders.{CorrectionsRise, YearCorrectionsRise}
use Rattle.ftd_sql.specs.Orders.{AccountCorrectionsRise}
use Rattle.ftd_sql.specs.Orders.{HolidayChangesRise}
use Rattle.ftd_sql.proofs.Changing.{sets_version, sets_year, voids_run, voids_payment}
use Rattle.ftd_sql.proofs.Changing.{sets_obligation, sets_due, removes_obligations}

-- the text with these values shows the rows that pass the test
abbrev pub ShowsTested : (n : TableName) → List ℕ → Row → (RowOf n → Bool) → (RowOf n → Row)
    → Type 1
ShowsTested n text params test shown = (old new : State) (rows : List Row) (t : Tables)
    → Stands old.now t → Shown text params old new rows
    → IsPermutation (map shown (filter test (t n))) rows

-- and in an order
abbrev pub ListsTested : (n : TableName) → List ℕ → Row → (RowOf n → Bool) → (RowOf n → Row)
    → (RowOf n → RowOf n → Type 0) → Type 1
ListsTested n text params test shown R = (old new : State) (rows : List Row) (t : Tables)
    → Stands old.now t → Shown text params old new rows
    → (ys : List (RowOf n)) × IsPermutation (filter test (t n)) ys × (rows ≡ map shown ys)
    × EachToNext R ys

-- the text with these values shows how many rows pass the test
abbrev pub IsCounted : (n : TableName) → List ℕ → Row → (RowOf n → Bool) → Type 1
IsCounted n text params test = (old new : State) (rows : List Row) (t : Tables) → Stands old.now t
    → Shown text params old new rows
    → rows ≡ (Int (pos (min (length (filter test (t n))) greatest_count)) ∷ []) ∷ []

-- the text with these values changes the one row that passes the test, or finds none
abbrev pub ChangesOne : (n : TableName) → List ℕ → Row → (RowOf n → Bool) → (RowOf n → RowOf n)
    → Type 1
ChangesOne n text params test f = (old new : State) (t : Tables) → Stands old.now t
    → (Executes text params old new (Ok 1) → Becomes old.now new.now
    (with_rows n (map (changed test f) (t n)) t) × ((x : RowOf n) × (filter test (t n) ≡ x ∷ [])))
    × (Executes text params old new (Ok 0) → Becomes old.now new.now (with_rows n (t n) t)
    × (filter test (t n) ≡ []))

-- ---- by a key, or all

filter_all : {X : Type 0} (xs : List X) → filter (λ x. true) xs ≡ xs
filter_all [] = refl
filter_all (x ∷ xs) = ap (λ more. x ∷ more) (filter_all xs)

pub shows_metas : (old new : State) (rows : List Row) (metas : List MetaRow) {acted : Bool}
    → Holds acted old.now (name_of Metas) (table_of Metas) (cells_of Metas) metas
    → Shown LIST_METAS.now [] old new rows → IsPermutation (map meta_shown metas) rows
unfolding everything
shows_metas old new rows metas l h =
    subst (λ ms. IsPermutation (map meta_shown ms) rows) (filter_all metas)
    (shows Metas LIST_METAS.now _ _ _ lists_metas [] (λ m. true) meta_shown (λ p. refl)
    (λ p. refl) old new rows metas l h)

pub shows_account : (name : List ℕ) → ShowsTested Accounts READ_ACCOUNT.now (name_given name)
    (is_account name) account_shown
unfolding everything
shows_account name old new rows t stands h =
    shows Accounts READ_ACCOUNT.now _ _ _ reads_account (name_given name)
    (is_account name) account_shown (λ p. one_passes _ _ (text_is p.1.name name))
    (λ p. refl) old new rows (t Accounts) (stands Accounts) h

-- the names of all accounts, in whatever order
pub lists_names : (old new : State) (rows : List Row) (t : Tables) → Stands old.now t
    → Shown LIST_ACCOUNTS.now [] old new rows → (ys : List AccountRow) × IsPermutation
    (t Accounts) ys × (rows ≡ map name_shown ys)
unfolding everything
lists_names old new rows t stands h =
    let found = lists Accounts LIST_ACCOUNTS.now _ _ _ lists_accounts [] (λ a. true) name_shown
    (λ p. refl) (λ p. refl) old new rows (t Accounts) (stands Accounts) h (λ a b. Unit {0})
    (λ tree a b i j h. tt) in
    (found.0, subst (λ xs. IsPermutation xs found.0) (filter_all (t Accounts)) found.1, found.2)

pub shows_form : (account : List ℕ) → ShowsTested Forms READ_FORM.now (name_given account)
    (is_form_of account) form_shown
unfolding everything
shows_form account old new rows t stands h =
    shows Forms READ_FORM.now _ _ _ reads_form (name_given account) (is_form_of account) form_shown
    (λ p. one_passes _ _ (text_is p.1.account account)) (λ p. refl) old new rows (t Forms)
    (stands Forms) h

pub shows_reported : (account : List ℕ) (year quarter : ℤ)
    → ShowsTested ReportedQuarters READ_REPORTED.now (pair_given account year quarter)
    (is_reported account year quarter) reported_shown
unfolding everything
shows_reported account year quarter old new rows t stands h =
    shows ReportedQuarters READ_REPORTED.now _ _ _ reads_reported (pair_given account year quarter)
    (is_reported account year quarter) reported_shown
    (λ p. three_pass _ _ _ _ _ _ (text_is p.1.account account) (whole_is p.1.year year)
    (whole_is p.1.quarter quarter)) (λ p. refl) old new rows (t ReportedQuarters)
    (stands ReportedQuarters) h

pub shows_reported_year : (account : List ℕ) (year : ℤ)
    → ShowsTested ReportedYears READ_REPORTED_YEAR.now (key_given account year)
    (is_reported_year account year) reported_year_shown
unfolding everything
shows_reported_year account year old new rows t stands h =
    shows ReportedYears READ_REPORTED_YEAR.now _ _ _ reads_reported_year (key_given account year)
    (is_reported_year account year) reported_year_shown
    (λ p. two_pass _ _ _ _ (text_is p.1.account account) (whole_is p.1.year year))
    (λ p. refl) old new rows (t ReportedYears) (stands ReportedYears) h

pub shows_calendar_year : (year : ℤ) → ShowsTested CalendarYears READ_CALENDAR_YEAR.now
    (number_given year) (is_calendar_year year) calendar_year_shown
unfolding everything
shows_calendar_year year old new rows t stands h =
    shows CalendarYears READ_CALENDAR_YEAR.now _ _ _ reads_calendar_year (number_given year)
    (is_calendar_year year) calendar_year_shown (λ p. one_passes _ _ (whole_is p.1.year year))
    (λ p. refl) old new rows (t CalendarYears) (stands CalendarYears) h

pub shows_run : (account : List ℕ) (number : ℤ) → ShowsTested Runs READ_RUN.now
    (key_given account number) (is_run account number) run_shown
unfolding everything
shows_run account number old new rows t stands h =
    shows Runs READ_RUN.now _ _ _ reads_run (key_given account number) (is_run account number)
    run_shown (λ p. two_pass _ _ _ _ (text_is p.1.account account) (whole_is p.1.number number))
    (λ p. refl) old new rows (t Runs) (stands Runs) h

pub shows_payment : (account : List ℕ) (number : ℤ) → ShowsTested Payments READ_PAYMENT.now
    (key_given account number) (is_payment account number) payment_shown
unfolding everything
shows_payment account number old new rows t stands h =
    shows Payments READ_PAYMENT.now _ _ _ reads_payment (key_given account number)
    (is_payment account number) payment_shown (λ p. two_pass _ _ _ _ (text_is p.1.account account)
    (whole_is p.1.number number)) (λ p. refl) old new rows (t Payments) (stands Payments) h

-- ---- in an order

pub holidays_in_order : (year : ℤ) → ListsTested Holidays LIST_HOLIDAYS.now (number_given year)
    (is_holiday_of year) holiday_shown HolidaysRise
unfolding everything
holidays_in_order year old new rows t stands h =
    lists Holidays LIST_HOLIDAYS.now _ _ _ lists_holidays (number_given year) (is_holiday_of year)
    holiday_shown (λ p. one_passes _ _ (whole_is p.1.year year)) (λ p. refl) old new rows
    (t Holidays) (stands Holidays) h
    HolidaysRise (λ tree a b i j h. one_rises a.day b.day h)

pub added_holidays_in_order : (year : ℤ) → ListsTested AddedHolidays LIST_ADDED_HOLIDAYS.now
    (number_given year) (is_holiday_of year) holiday_shown HolidaysRise
unfolding everything
added_holidays_in_order year old new rows t stands h =
    lists AddedHolidays LIST_ADDED_HOLIDAYS.now _ _ _ lists_added_holidays (number_given year)
    (is_holiday_of year) holiday_shown (λ p. one_passes _ _ (whole_is p.1.year year))
    (λ p. refl) old new rows (t AddedHolidays) (stands AddedHolidays) h
    HolidaysRise (λ tree a b i j h. one_rises a.day b.day h)

pub years_in_order : (account : List ℕ) → ListsTested Years LIST_YEARS.now (name_given account)
    (is_year_of account) year_shown YearsRise
unfolding everything
years_in_order account old new rows t stands h =
    lists Years LIST_YEARS.now _ _ _ lists_years (name_given account) (is_year_of account)
    year_shown (λ p. one_passes _ _ (text_is p.1.account account)) (λ p. refl) old new rows
    (t Years) (stands Years) h
    YearsRise (λ tree a b i j h. one_rises a.year b.year h)

pub runs_in_order : (account : List ℕ) (from to : ℤ) → ListsTested Runs LIST_RUNS.now
    (pair_given account from to) (is_live_run_between account from to) live_run_shown RunsRise
unfolding everything
runs_in_order account from to old new rows t stands h =
    lists Runs LIST_RUNS.now _ _ _ lists_runs (pair_given account from to)
    (is_live_run_between account from to) live_run_shown
    (λ p. four_pass _ _ _ _ _ _ _ _ (text_is p.1.account account) (at_least_is p.1.payday from)
    (at_most_is p.1.payday to) (whole_is p.1.voided (pos 0))) (λ p. refl) old new rows (t Runs)
    (stands Runs) h
    RunsRise (λ tree a b i j h. two_rise a.payday b.payday a.number b.number h)

pub payments_in_order : (account : List ℕ) (from to : ℤ) → ListsTested Payments LIST_PAYMENTS.now
    (pair_given account from to) (is_live_payment_between account from to) live_payment_shown
    PaymentsRise
unfolding everything
payments_in_order account from to old new rows t stands h =
    lists Payments LIST_PAYMENTS.now _ _ _ lists_payments (pair_given account from to)
    (is_live_payment_between account from to) live_payment_shown
    (λ p. four_pass _ _ _ _ _ _ _ _ (text_is p.1.account account) (at_least_is p.1.for_day from)
    (at_most_is p.1.for_day to) (whole_is p.1.voided (pos 0))) (λ p. refl) old new rows (t Payments)
    (stands Payments) h
    PaymentsRise (λ tree a b i j h. two_rise a.for_day b.for_day a.number b.number h)

pub obligations_in_order : (account : List ℕ) (from to : ℤ)
    → ListsTested Obligations LIST_OBLIGATIONS.now (pair_given account from to)
    (is_obligation_between account from to) obligation_shown ObligationsRise
unfolding everything
obligations_in_order account from to old new rows t stands h =
    lists Obligations LIST_OBLIGATIONS.now _ _ _ lists_obligations (pair_given account from to)
    (is_obligation_between account from to) obligation_shown
    (λ p. three_pass _ _ _ _ _ _ (text_is p.1.account account) (at_least_is p.1.first from)
    (at_most_is p.1.first to)) (λ p. refl) old new rows (t Obligations) (stands Obligations) h
    ObligationsRise (λ tree a b i j h. one_rises a.first b.first h)

pub due_over_in_order : (day : ℤ) → ListsTested Obligations LIST_DUE_OVER.now (number_given day)
    (is_due_over day) account_obligation_shown AccountsRise
unfolding everything
due_over_in_order day old new rows t stands h =
    lists Obligations LIST_DUE_OVER.now _ _ _ lists_due_over (number_given day)
    (is_due_over day) account_obligation_shown (λ p. two_pass _ _ _ _ (below_is p.1.first day)
    (at_least_is p.1.due day)) (λ p. refl) old new rows (t Obligations) (stands Obligations) h
    AccountsRise (λ tree a b i j h. text_then_number a.account b.account a.first b.first h)

pub due_between_in_order : (from to : ℤ) → ListsTested Obligations LIST_DUE_BETWEEN.now
    (days_given from to) (is_due_between from to) account_obligation_shown AccountsRise
unfolding everything
due_between_in_order from to old new rows t stands h =
    lists Obligations LIST_DUE_BETWEEN.now _ _ _ lists_due_between (days_given from to)
    (is_due_between from to) account_obligation_shown (λ p. two_pass _ _ _ _
    (at_least_is p.1.due from) (at_most_is p.1.due to)) (λ p. refl) old new rows (t Obligations)
    (stands Obligations) h
    AccountsRise (λ tree a b i j h. text_then_number a.account b.account a.first b.first h)

-- by a text
not_after : (o : Ordering) → is_lt (ordering_then o Equal) ≡ false → (o ≡ Greater) ⊎ (o ≡ Equal)
not_after Less h = absurd cc
not_after Equal h = inr refl
not_after Greater h = inl refl

names_rise : (a b : List ℕ) → is_lt (ordering_then (value_cmp (Text b) (Text a)) Equal) ≡ false
    → (slice_cmp nat_cmp a b ≡ Less) ⊎ (a ≡ b)
names_rise a b h = elim (not_after (value_cmp (Text b) (Text a)) h) [
  | inl after ↦ inl (nat_list_cmp_total.antisymm a b ∙ ap ordering_reverse (sym (value_cmp-Text b a)
      ∙ after))
  | inr same ↦ inr (sym (slice_cmp-IsAntisymmetric nat_cmp-IsAntisymmetric b a
      (sym (value_cmp-Text b a) ∙ same)))
]

pub enrolled_in_order : ListsTested Accounts LIST_ENROLLED.now [] is_any_account enrolled_shown
    NamesRise
unfolding everything
enrolled_in_order old new rows t stands h =
    lists Accounts LIST_ENROLLED.now _ _ _ lists_enrolled [] is_any_account enrolled_shown
    (λ p. refl) (λ p. refl) old new rows (t Accounts) (stands Accounts) h
    NamesRise (λ tree a b i j h. names_rise a.name b.name h)

pub forms_in_order : ListsTested Forms LIST_FORMS.now [] is_any_form account_form_shown FormsRise
unfolding everything
forms_in_order old new rows t stands h =
    lists Forms LIST_FORMS.now _ _ _ lists_forms [] is_any_form account_form_shown
    (λ p. refl) (λ p. refl) old new rows (t Forms) (stands Forms) h
    FormsRise (λ tree a b i j h. names_rise a.account b.account h)

pub reported_in_order : (account : List ℕ) → ListsTested ReportedQuarters LIST_REPORTED.now
    (name_given account) (is_reported_of account) quarter_total_shown QuartersRise
unfolding everything
reported_in_order account old new rows t stands h =
    lists ReportedQuarters LIST_REPORTED.now _ _ _ lists_reported (name_given account)
    (is_reported_of account) quarter_total_shown
    (λ p. one_passes _ _ (text_is p.1.account account)) (λ p. refl) old new rows
    (t ReportedQuarters) (stands ReportedQuarters) h
    QuartersRise (λ tree a b i j h. two_rise a.year b.year a.quarter b.quarter h)

pub reported_years_in_order : (account : List ℕ) → ListsTested ReportedYears
    LIST_REPORTED_YEARS.now (name_given account) (is_reported_year_of account) year_total_shown
    ReportedYearsRise
unfolding everything
reported_years_in_order account old new rows t stands h =
    lists ReportedYears LIST_REPORTED_YEARS.now _ _ _ lists_reported_years (name_given account)
    (is_reported_year_of account) year_total_shown
    (λ p. one_passes _ _ (text_is p.1.account account)) (λ p. refl) old new rows
    (t ReportedYears) (stands ReportedYears) h
    ReportedYearsRise (λ tree a b i j h. one_rises a.year b.year h)

pub kept_runs_in_order : (account : List ℕ) (from to : ℤ) → ListsTested Runs LIST_KEPT_RUNS.now
    (pair_given account from to) (is_run_between account from to) kept_run_shown RunsRise
unfolding everything
kept_runs_in_order account from to old new rows t stands h =
    lists Runs LIST_KEPT_RUNS.now _ _ _ lists_kept_runs (pair_given account from to)
    (is_run_between account from to) kept_run_shown
    (λ p. three_pass _ _ _ _ _ _ (text_is p.1.account account) (at_least_is p.1.payday from)
    (at_most_is p.1.payday to)) (λ p. refl) old new rows (t Runs) (stands Runs) h
    RunsRise (λ tree a b i j h. two_rise a.payday b.payday a.number b.number h)

pub kept_payments_in_order : (account : List ℕ) (from to : ℤ)
    → ListsTested Payments LIST_KEPT_PAYMENTS.now (pair_given account from to)
    (is_payment_between account from to) kept_payment_shown PaymentsRise
unfolding everything
kept_payments_in_order account from to old new rows t stands h =
    lists Payments LIST_KEPT_PAYMENTS.now _ _ _ lists_kept_payments (pair_given account from to)
    (is_payment_between account from to) kept_payment_shown
    (λ p. three_pass _ _ _ _ _ _ (text_is p.1.account account) (at_least_is p.1.for_day from)
    (at_most_is p.1.for_day to)) (λ p. refl) old new rows (t Payments) (stands Payments) h
    PaymentsRise (λ tree a b i j h. two_rise a.for_day b.for_day a.number b.number h)

-- what was put right

pub corrections_in_order : (account : List ℕ) (year quarter : ℤ)
    → ListsTested CorrectedQuarters LIST_CORRECTIONS.now (pair_given account year quarter)
    (is_correction account year quarter) correction_shown CorrectionsRise
unfolding everything
corrections_in_order account year quarter old new rows t stands h =
    lists CorrectedQuarters LIST_CORRECTIONS.now _ _ _ lists_corrections
    (pair_given account year quarter) (is_correction account year quarter) correction_shown
    (λ p. three_pass _ _ _ _ _ _ (text_is p.1.account account) (whole_is p.1.year year)
    (whole_is p.1.quarter quarter)) (λ p. refl) old new rows (t CorrectedQuarters)
    (stands CorrectedQuarters) h
    CorrectionsRise (λ tree a b i j h. one_rises a.number b.number h)

pub year_corrections_in_order : (account : List ℕ) (year : ℤ)
    → ListsTested CorrectedYears LIST_YEAR_CORRECTIONS.now (key_given account year)
    (is_year_correction account year) correction_of_year_shown YearCorrectionsRise
unfolding everything
year_corrections_in_order account year old new rows t stands h =
    lists CorrectedYears LIST_YEAR_CORRECTIONS.now _ _ _ lists_year_corrections
    (key_given account year) (is_year_correction account year) correction_of_year_shown
    (λ p. two_pass _ _ _ _ (text_is p.1.account account) (whole_is p.1.year year)) (λ p. refl)
    old new rows (t CorrectedYears) (stands CorrectedYears) h
    YearCorrectionsRise (λ tree a b i j h. one_rises a.number b.number h)

pub account_corrections_in_order : (account : List ℕ) → ListsTested CorrectedAccounts
    LIST_ACCOUNT_CORRECTIONS.now (name_given account) (is_account_correction_of account)
    account_correction_shown AccountCorrectionsRise
unfolding everything
account_corrections_in_order account old new rows t stands h =
    lists CorrectedAccounts LIST_ACCOUNT_CORRECTIONS.now _ _ _ lists_account_corrections
    (name_given account) (is_account_correction_of account) account_correction_shown
    (λ p. one_passes _ _ (text_is p.1.account account)) (λ p. refl) old new rows
    (t CorrectedAccounts) (stands CorrectedAccounts) h
    AccountCorrectionsRise (λ tree a b i j h. one_rises a.number b.number h)

pub holiday_changes_in_order : (year : ℤ) → ListsTested ChangedHolidays LIST_CHANGED_HOLIDAYS.now
    (number_given year) (is_holiday_change_of year) holiday_change_shown HolidayChangesRise
unfolding everything
holiday_changes_in_order year old new rows t stands h =
    lists ChangedHolidays LIST_CHANGED_HOLIDAYS.now _ _ _ lists_changed_holidays
    (number_given year) (is_holiday_change_of year) holiday_change_shown
    (λ p. one_passes _ _ (whole_is p.1.year year)) (λ p. refl) old new rows
    (t ChangedHolidays) (stands ChangedHolidays) h
    HolidayChangesRise (λ tree a b i j h. two_rise a.day b.day a.number b.number h)

-- ---- counted

pub runs_counted : (account : List ℕ) → IsCounted Runs COUNT_RUNS.now (name_given account)
    (is_run_of account)
unfolding everything
runs_counted account = counts Runs COUNT_RUNS.now _ counts_runs (name_given account)
    (is_run_of account) (λ p. one_passes _ _ (text_is p.1.account account))

pub payments_counted : (account : List ℕ) → IsCounted Payments COUNT_PAYMENTS.now
    (name_given account) (is_payment_of account)
unfolding everything
payments_counted account = counts Payments COUNT_PAYMENTS.now _ counts_payments (name_given account)
    (is_payment_of account) (λ p. one_passes _ _ (text_is p.1.account account))

-- ---- changed

pub version_set : (tag : List ℕ) (version : ℤ) → ChangesOne Metas SET_VERSION.now
    (key_given tag version) (is_tag tag) (with_version version)
unfolding everything
version_set tag version old new t stands = (
  changes Metas SET_VERSION.now _ _ _ _ sets_version (key_given tag version) (is_tag tag)
      (with_version version) (λ p. one_passes _ _ (text_is p.1.tag tag))
      (λ tree p. rw (cast_int, cast_int) refl) (λ p. refl) old new t stands,
  changes_nothing Metas SET_VERSION.now _ _ _ _ sets_version (key_given tag version) (is_tag tag)
      (with_version version) (λ p. one_passes _ _ (text_is p.1.tag tag))
      (λ tree p. rw (cast_int, cast_int) refl) (λ p. refl) old new t stands,
)

pub figures_set : (y : YearRow) → ChangesOne Years SET_YEAR.now (cells_of Years y)
    (is_year y.account y.year) (with_figures y.lookback y.opening y.turn)
unfolding everything
figures_set y old new t stands = (
  changes Years SET_YEAR.now _ _ _ _ sets_year (cells_of Years y) (is_year y.account y.year)
      (with_figures y.lookback y.opening y.turn)
      (λ p. two_pass _ _ _ _ (text_is p.1.account y.account) (whole_is p.1.year y.year))
      (λ tree p. rw (cast_int, cast_int, cast_int, cast_int, cast_int_or_null y.turn) refl)
      (λ p. refl) old new t stands,
  changes_nothing Years SET_YEAR.now _ _ _ _ sets_year (cells_of Years y) (is_year y.account y.year)
      (with_figures y.lookback y.opening y.turn)
      (λ p. two_pass _ _ _ _ (text_is p.1.account y.account) (whole_is p.1.year y.year))
      (λ tree p. rw (cast_int, cast_int, cast_int, cast_int, cast_int_or_null y.turn) refl)
      (λ p. refl) old new t stands,
)

pub run_voided : (account : List ℕ) (number : ℤ) → ChangesOne Runs VOID_RUN.now
    (key_given account number) (is_run account number) voided_run
unfolding everything
run_voided account number old new t stands = (
  changes Runs VOID_RUN.now _ _ _ _ voids_run (key_given account number) (is_run account number)
      voided_run (λ p. two_pass _ _ _ _ (text_is p.1.account account) (whole_is p.1.number number))
      (λ tree p. rw (cast_int, cast_int, cast_int, cast_int, cast_int, cast_int, cast_int) refl)
      (λ p. refl) old new t stands,
  changes_nothing Runs VOID_RUN.now _ _ _ _ voids_run (key_given account number)
      (is_run account number) voided_run (λ p. two_pass _ _ _ _ (text_is p.1.account account)
      (whole_is p.1.number number)) (λ tree p. rw (
        cast_int,
        cast_int,
        cast_int,
        cast_int,
        cast_int,
        cast_int,
        cast_int,
      ) refl) (λ p. refl) old new t stands,
)

pub payment_voided : (account : List ℕ) (number : ℤ) → ChangesOne Payments VOID_PAYMENT.now
    (key_given account number) (is_payment account number) voided_payment
unfolding everything
payment_voided account number old new t stands = (
  changes Payments VOID_PAYMENT.now _ _ _ _ voids_payment (key_given account number)
      (is_payment account number) voided_payment
      (λ p. two_pass _ _ _ _ (text_is p.1.account account) (whole_is p.1.number number))
      (λ tree p. rw (cast_int, cast_int, cast_int, cast_int, cast_int, cast_int) refl)
      (λ p. refl) old new t stands,
  changes_nothing Payments VOID_PAYMENT.now _ _ _ _ voids_payment (key_given account number)
      (is_payment account number) voided_payment
      (λ p. two_pass _ _ _ _ (text_is p.1.account account) (whole_is p.1.number number))
      (λ tree p. rw (cast_int, cast_int, cast_int, cast_int, cast_int, cast_int) refl)
      (λ p. refl) old new t stands,
)

pub obligation_set : (o : ObligationRow) → ChangesOne Obligations SET_OBLIGATION.now
    (cells_of Obligations o) (is_obligation o.account o.first) (with_terms o)
unfolding everything
obligation_set o old new t stands = (
  changes Obligations SET_OBLIGATION.now _ _ _ _ sets_obligation (cells_of Obligations o)
      (is_obligation o.account o.first) (with_terms o)
      (λ p. two_pass _ _ _ _ (text_is p.1.account o.account) (whole_is p.1.first o.first))
      (λ tree p. rw (cast_int, cast_int, cast_int, cast_int, cast_int, cast_int) refl)
      (λ p. refl) old new t stands,
  changes_nothing Obligations SET_OBLIGATION.now _ _ _ _ sets_obligation (cells_of Obligations o)
      (is_obligation o.account o.first) (with_terms o)
      (λ p. two_pass _ _ _ _ (text_is p.1.account o.account) (whole_is p.1.first o.first))
      (λ tree p. rw (cast_int, cast_int, cast_int, cast_int, cast_int, cast_int) refl)
      (λ p. refl) old new t stands,
)

pub due_set : (account : List ℕ) (first due : ℤ) → ChangesOne Obligations SET_DUE.now
    (pair_given account first due) (is_obligation account first) (with_due due)
unfolding everything
due_set account first due old new t stands = (
  changes Obligations SET_DUE.now _ _ _ _ sets_due (pair_given account first due)
      (is_obligation account first) (with_due due)
      (λ p. two_pass _ _ _ _ (text_is p.1.account account) (whole_is p.1.first first))
      (λ tree p. rw (cast_int, cast_int, cast_int, cast_int, cast_int, cast_int) refl)
      (λ p. refl) old new t stands,
  changes_nothing Obligations SET_DUE.now _ _ _ _ sets_due (pair_given account first due)
      (is_obligation account first) (with_due due)
      (λ p. two_pass _ _ _ _ (text_is p.1.account account) (whole_is p.1.first first))
      (λ tree p. rw (cast_int, cast_int, cast_int, cast_int, cast_int, cast_int) refl)
      (λ p. refl) old new t stands,
)

-- ---- taken out

pub obligations_removed : (account : List ℕ) (from to : ℤ) (old new : State) (count : ℕ)
    (t : Tables) → Stands old.now t → Executes REMOVE_OBLIGATIONS.now (pair_given account from to)
    old new (Ok count)
    → Becomes old.now new.now
    (with_rows Obligations (filter (λ o. not (is_obligation_between account from to o))
    (t Obligations)) t)
unfolding everything
obligations_removed account from to = removes Obligations REMOVE_OBLIGATIONS.now _ _
    removes_obligations (pair_given account from to) (is_obligation_between account from to)
    (λ p. three_pass _ _ _ _ _ _ (text_is p.1.account account) (at_least_is p.1.first from)
    (at_most_is p.1.first to))
