-- The other lists that are told as CSV are read back.
use Rattle.std.proofs.Common.{◌≡◌, ◌∙◌, refl, ap, ℕ, ◌^◌, ◌<◌, ◌≤◌, Bool, true, List}
use Rattle.std.proofs.Common.{map, filter, not, arith}
use Rattle.std.specs.Fmt.{decimal}
use Rattle.csv.specs.Reading.{strip_bom}
use Rattle.ftd_days.specs.Calendar.{last_day}
use Rattle.ftd_rules.specs.Accounts.{is_account_name}
use Rattle.ftd_rules.specs.declared.DaySum.{DaySum}
use Rattle.ftd_machine.specs.declared.kept.KeptAccount.{KeptAccount}
use Rattle.ftd_machine.specs.declared.kept.KeptHoliday.{KeptHoliday}
use Rattle.ftd_machine.specs.declared.kept.KeptRows.TheVariants as rows
use Rattle.ftd_machine.specs.declared.kept.KeptRun.{KeptRun}
use Rattle.ftd_machine.specs.declared.kept.KeptTotal.{KeptTotal}
use Rattle.ftd_machine.specs.declared.kept.KeptYear.{KeptYear}
use Rattle.ftd_machine.specs.declared.lists.UnappliedRow.{UnappliedRow}
use Rattle.ftd_answers.specs.Agendas.{form_number}
use Rattle.ftd_answers.specs.Dues.{b_csv, day_fields}
use Rattle.ftd_answers.specs.Fields.{as_day, as_number, cells, columns, none_void, or_none, yes_no}
use Rattle.ftd_answers.specs.KeptForms.{account_fields, holiday_fields, period_shown, rows_csv}
use Rattle.ftd_answers.specs.KeptForms.{run_fields, runs_csv, total_fields, year_fields}
use Rattle.ftd_answers.specs.Listings.{kind_name}
use Rattle.ftd_answers.specs.Unapplied.{over_of, unapplied_csv, unapplied_fields}
use Rattle.ftd_read_back.specs.Cells.{table_read}
use Rattle.ftd_read_back.specs.Kept.{account_cells, account_read, holiday_cells, holiday_read}
use Rattle.ftd_read_back.specs.Kept.{liable_cells, liable_read, run_cells, run_read, total_cells}
use Rattle.ftd_read_back.specs.Kept.{total_read, unapplied_cells, unapplied_read, year_cells}
use Rattle.ftd_read_back.specs.Kept.{year_read}
use Rattle.ftd_read_back.specs.Rows.{AreAccountsInRange, AreDaySumsInRange, AreHolidaysInRange}
use Rattle.ftd_read_back.specs.Rows.{AreRunsInRange, AreTotalsInRange, AreUnappliedInRange}
use Rattle.ftd_read_back.specs.Rows.{AreYearsInRange, IsAccountInRange, IsDaySumInRange}
use Rattle.ftd_read_back.specs.Rows.{IsRunInRange, IsTotalInRange, IsUnappliedInRange}
use Rattle.ftd_read_back.specs.Rows.{IsYearInRange}
use Rattle.ftd_read_back.proofs.Spelled.{cents_reread, day_or_none_reread, day_reread}
use Rattle.ftd_read_back.proofs.Spelled.{flag_reread, form_reread, kind_reread}
use Rattle.ftd_read_back.proofs.Spelled.{number_or_none_reread, number_reread, period_reread}
use Rattle.ftd_read_back.proofs.Tables.{cents, day, none_left_out}
use Rattle.ftd_read_back.proofs.Values.{unquoted, plain_day_or_none, plain_flag, plain_form}
use Rattle.ftd_read_back.proofs.Values.{plain_kind, plain_name, plain_number}
use Rattle.ftd_read_back.proofs.Values.{plain_number_or_none, plain_period}
use Rattle.ftd_read_back.proofs.Written.{IsRead, IsUnquoted, list_read, unquoted_row}

-- a number, and whether something is so
count : (n : ℕ) → IsUnquoted (decimal n)
count n = unquoted (decimal n) (plain_number n)

flag : (b : Bool) → IsUnquoted (yes_no b)
flag b = unquoted (yes_no b) (plain_flag b)

-- ---- the pay runs of an account

run_row : (account : List ℕ) (x : KeptRun) → is_account_name account ≡ true → IsRunInRange x
    → IsRead (λ y. y.voided) (run_fields account) run_read (run_cells account) x
run_row account x name is = (
  unquoted_row (cells (run_fields account) x) (
    unquoted account (plain_name account name),
    (
      count x.number,
      (
        day x.run.payday,
        (cents x.run.fit.0, (cents x.run.ss.0, (cents x.run.medicare.0, tt))),
      ),
    ),
  ) (omega arith),
  rw (
    number_reread x.number is.number,
    day_reread x.run.payday is.payday,
    cents_reread x.run.fit.0 is.fit,
    cents_reread x.run.ss.0 is.ss,
    cents_reread x.run.medicare.0 is.medicare,
  ) refl,
)

pub run_table : (account : List ℕ) (quarter : ℕ) (listed : List KeptRun)
    → is_account_name account ≡ true → AreRunsInRange listed
    → table_read run_read (rows_csv (rows.Runs account quarter listed))
    ≡ map (run_cells account) (filter (λ x. not x.voided) listed)
unfolding rows_csv runs_csv strip_bom
run_table account quarter listed name are =
    list_read (λ (y : KeptRun). y.voided) (run_fields account) run_read (run_cells account) listed
    (unquoted_row (columns (run_fields account)) (refl, (refl, (refl, (refl, (refl, (refl, tt))))))
    (omega arith))
    refl (λ x has. run_row account x name (are x has))

-- ---- accounts

account_row : (x : KeptAccount) → IsAccountInRange x
    → IsRead none_void account_fields account_read account_cells x
account_row x is = (
  unquoted_row (cells account_fields x) (
    unquoted x.name (plain_name x.name is.name),
    (
      day x.account.start,
      (
        flag x.account.carried,
        (unquoted (form_number x.account.form) (plain_form x.account.form), tt),
      ),
    ),
  ) (omega arith),
  rw (
    day_reread x.account.start is.start,
    flag_reread x.account.carried,
    form_reread x.account.form,
  ) refl,
)

pub account_table : (listed : List KeptAccount) → AreAccountsInRange listed
    → table_read account_read (rows_csv (rows.Accounts listed)) ≡ map account_cells listed
unfolding rows_csv strip_bom
account_table listed are =
    list_read none_void account_fields account_read account_cells listed
    (unquoted_row (columns account_fields) (refl, (refl, (refl, (refl, tt)))) (omega arith))
    refl (λ x has. account_row x (are x has))
    ∙ ap (λ (xs : List KeptAccount). map account_cells xs) (none_left_out listed)

-- ---- the open years of an account

year_row : (account : List ℕ) (x : KeptYear) → is_account_name account ≡ true → IsYearInRange x
    → IsRead none_void (year_fields account) year_read (year_cells account) x
year_row account x name is = (
  unquoted_row (cells (year_fields account) x) (
    unquoted account (plain_name account name),
    (
      count x.line.year,
      (
        cents x.line.lookback.0,
        (
          unquoted (kind_name x.line.opening) (plain_kind x.line.opening),
          (
            flag x.line.carried,
            (
              unquoted (or_none as_day x.line.turn).plain (plain_day_or_none x.line.turn),
              (cents x.first_lookback.0, tt),
            ),
          ),
        ),
      ),
    ),
  ) (omega arith),
  rw (
    number_reread x.line.year is.year,
    cents_reread x.line.lookback.0 is.lookback,
    kind_reread x.line.opening,
    flag_reread x.line.carried,
    day_or_none_reread x.line.turn is.turn,
    cents_reread x.first_lookback.0 is.first_lookback,
  ) refl,
)

pub year_table : (account : List ℕ) (listed : List KeptYear) → is_account_name account ≡ true
    → AreYearsInRange listed
    → table_read year_read (rows_csv (rows.Years account listed)) ≡ map (year_cells account) listed
unfolding rows_csv strip_bom
year_table account listed name are =
    list_read none_void (year_fields account) year_read (year_cells account) listed
    (unquoted_row (columns (year_fields account))
    (refl, (refl, (refl, (refl, (refl, (refl, (refl, tt))))))) (omega arith))
    refl (λ x has. year_row account x name (are x has))
    ∙ ap (λ (xs : List KeptYear). map (year_cells account) xs) (none_left_out listed)

-- ---- the reported totals of an account

total_row : (account : List ℕ) (x : KeptTotal) → is_account_name account ≡ true → IsTotalInRange x
    → IsRead none_void (total_fields account) total_read (total_cells account) x
total_row account x name is = (
  unquoted_row (cells (total_fields account) x) (
    unquoted account (plain_name account name),
    (unquoted (period_shown x.period).plain (plain_period x.period), (cents x.cents.0, tt)),
  )
      (omega arith),
  rw (period_reread x.period is.period, cents_reread x.cents.0 is.amount) refl,
)

pub total_table : (account : List ℕ) (listed : List KeptTotal) → is_account_name account ≡ true
    → AreTotalsInRange listed
    → table_read total_read (rows_csv (rows.Reported account listed))
    ≡ map (total_cells account) listed
unfolding rows_csv strip_bom
total_table account listed name are =
    list_read none_void (total_fields account) total_read (total_cells account) listed
    (unquoted_row (columns (total_fields account)) (refl, (refl, (refl, tt))) (omega arith))
    refl (λ x has. total_row account x name (are x has))
    ∙ ap (λ (xs : List KeptTotal). map (total_cells account) xs) (none_left_out listed)

-- ---- the holidays of a year

holiday_row : (x : KeptHoliday) → x.day ≤ last_day
    → IsRead none_void holiday_fields holiday_read holiday_cells x
holiday_row x early = (
  unquoted_row (cells holiday_fields x) (day x.day, (flag x.added, (flag x.is_holiday, tt)))
      (omega arith),
  rw (day_reread x.day early, flag_reread x.added, flag_reread x.is_holiday) refl,
)

pub holiday_table : (year : ℕ) (listed : List KeptHoliday) → AreHolidaysInRange listed
    → table_read holiday_read (rows_csv (rows.Holidays year listed)) ≡ map holiday_cells listed
unfolding rows_csv strip_bom
holiday_table year listed are =
    list_read none_void holiday_fields holiday_read holiday_cells listed
    (unquoted_row (columns holiday_fields) (refl, (refl, (refl, tt))) (omega arith))
    refl (λ x has. holiday_row x (are x has))
    ∙ ap (λ (xs : List KeptHoliday). map holiday_cells xs) (none_left_out listed)

-- ---- money that counts for nothing

pub over_small : (x : UnappliedRow) → IsUnappliedInRange x → over_of x < 2 ^ 64
over_small x is = let most = is.paid in omega arith

unapplied_row : (x : UnappliedRow) → IsUnappliedInRange x
    → IsRead none_void unapplied_fields unapplied_read unapplied_cells x
unapplied_row x is =
    let over = over_small x is in (
      unquoted_row (cells unapplied_fields x) (
        unquoted x.account (plain_name x.account is.name),
        (
          unquoted (or_none as_number x.payment).plain (plain_number_or_none x.payment),
          (
            day x.first,
            (
              day x.last,
              (
                cents x.amount.0,
                (
                  cents x.paid.0,
                  (cents (over_of x), tt),
                ),
              ),
            ),
          ),
        ),
      ) (omega arith),
      rw (
        number_or_none_reread x.payment is.payment,
        day_reread x.first is.first,
        day_reread x.last is.last,
        cents_reread x.amount.0 is.amount,
        cents_reread x.paid.0 is.paid,
        cents_reread (over_of x) over,
      ) refl,
    )

pub unapplied_table : (listed : List UnappliedRow) → AreUnappliedInRange listed
    → table_read unapplied_read (unapplied_csv listed) ≡ map unapplied_cells listed
unfolding unapplied_csv strip_bom
unapplied_table listed are =
    list_read none_void unapplied_fields unapplied_read unapplied_cells listed
    (unquoted_row (columns unapplied_fields)
    (refl, (refl, (refl, (refl, (refl, (refl, (refl, tt))))))) (omega arith))
    refl (λ x has. unapplied_row x (are x has))
    ∙ ap (λ (xs : List UnappliedRow). map unapplied_cells xs) (none_left_out listed)

-- ---- Schedule B by day

liable_row : (account : List ℕ) (x : DaySum) → is_account_name account ≡ true → IsDaySumInRange x
    → IsRead none_void (day_fields account) liable_read (liable_cells account) x
liable_row account x name is = (
  unquoted_row (cells (day_fields account) x)
      (unquoted account (plain_name account name), (day x.day, (cents x.cents.0, tt)))
      (omega arith),
  rw (day_reread x.day is.day, cents_reread x.cents.0 is.amount) refl,
)

pub liable_table : (account : List ℕ) (listed : List DaySum) → is_account_name account ≡ true
    → AreDaySumsInRange listed
    → table_read liable_read (b_csv account listed) ≡ map (liable_cells account) listed
unfolding b_csv strip_bom
liable_table account listed name are =
    list_read none_void (day_fields account) liable_read (liable_cells account) listed
    (unquoted_row (columns (day_fields account)) (refl, (refl, (refl, tt))) (omega arith))
    refl (λ x has. liable_row account x name (are x has))
    ∙ ap (λ (xs : List DaySum). map (liable_cells account) xs) (none_left_out listed)
