-- The other lists that are told as JSON are read back.
use Rattle.std.proofs.Common.{◌≡◌, ◌∙◌, refl, ap, ℕ, ◌^◌, ◌<◌, ◌≤◌, true, List, [], ◌∷◌, map}
use Rattle.std.proofs.Common.{Some, arith}
use Rattle.std.specs.Prelude.{codes}
use Rattle.std.specs.List.{sum_by}
use Rattle.json.specs.Print.{escape_byte}
use Rattle.json.proofs.Printed.Decimals.{IsNumber-decimal}
use Rattle.serde_json.proofs.Numbers.{number_of-decimal}
use Rattle.serde_json.specs.Data.{Data, array, object, Items, boolean, number, unsigned}
use Rattle.serde_json.specs.Read.{read}
use Rattle.ftd_days.specs.Calendar.{last_day}
use Rattle.ftd_days.specs.Text.{cents_text, day_text, quarter_text}
use Rattle.ftd_days.specs.declared.cents.Cents.{Cents}
use Rattle.ftd_rules.specs.Accounts.{is_account_name}
use Rattle.ftd_rules.specs.Liability.{cents_of}
use Rattle.ftd_rules.specs.declared.DaySum.{DaySum}
use Rattle.ftd_machine.specs.declared.entries.ReturnPeriod.{ReturnPeriod}
use Rattle.ftd_machine.specs.declared.entries.ReturnPeriod.TheVariants.{Quarter, Year}
use Rattle.ftd_machine.specs.declared.kept.KeptAccount.{KeptAccount}
use Rattle.ftd_machine.specs.declared.kept.KeptHoliday.{KeptHoliday}
use Rattle.ftd_machine.specs.declared.kept.KeptRows.TheVariants as rows
use Rattle.ftd_machine.specs.declared.kept.KeptRun.{KeptRun}
use Rattle.ftd_machine.specs.declared.kept.KeptTotal.{KeptTotal}
use Rattle.ftd_machine.specs.declared.kept.KeptYear.{KeptYear}
use Rattle.ftd_machine.specs.declared.lists.UnappliedRow.{UnappliedRow}
use Rattle.ftd_answers.specs.Agendas.{form_number}
use Rattle.ftd_answers.specs.Dues.{b_json, day_fields, sum_member}
use Rattle.ftd_answers.specs.KeptForms.{account_fields, holiday_fields, rows_json, run_fields}
use Rattle.ftd_answers.specs.KeptForms.{total_fields, year_fields}
use Rattle.ftd_answers.specs.Listings.{kind_name}
use Rattle.ftd_answers.specs.Unapplied.{over_of, unapplied_fields, unapplied_json}
use Rattle.ftd_read_back.specs.Objects.{elements, objects_read, sum_read}
use Rattle.ftd_read_back.specs.Kept.{account_cells, account_object_read, holiday_cells}
use Rattle.ftd_read_back.specs.Kept.{holiday_object_read, liable_cells, liable_object_read}
use Rattle.ftd_read_back.specs.Kept.{run_object, run_object_read, total_object}
use Rattle.ftd_read_back.specs.Kept.{total_object_read, unapplied_cells, unapplied_object_read}
use Rattle.ftd_read_back.specs.Kept.{year_cells, year_object_read}
use Rattle.ftd_read_back.specs.Rows.{AreAccountsInRange, AreDaySumsInRange, AreHolidaysInRange}
use Rattle.ftd_read_back.specs.Rows.{AreRunsInRange, AreTotalsInRange, AreUnappliedInRange}
use Rattle.ftd_read_back.specs.Rows.{AreYearsInRange, IsAccountInRange, IsDaySumInRange}
use Rattle.ftd_read_back.specs.Rows.{IsPeriodInRange, IsRunInRange}
use Rattle.ftd_read_back.specs.Rows.{IsUnappliedInRange, IsYearInRange}
use Rattle.ftd_read_back.proofs.KeptTables.{over_small}
use Rattle.ftd_read_back.proofs.Listed.{AreNames, IsObject, Pairs, list_is, members_from, objects}
use Rattle.ftd_read_back.proofs.Listed.{rows_of, sorted, sum_under, text_value}
use Rattle.ftd_read_back.proofs.Members.{cents_kept, day_as_read, day_flat, day_in, day_kept}
use Rattle.ftd_read_back.proofs.Members.{day_told, day_value, flag_text, number_as_read}
use Rattle.ftd_read_back.proofs.Members.{number_flat, number_in_value, number_told, number_value}
use Rattle.ftd_read_back.proofs.Spelled.{cents_reread, day_reread, form_reread, kind_reread}
use Rattle.ftd_read_back.proofs.Spelled.{quarter_reread}
use Rattle.ftd_read_back.proofs.Values.{unescaped, plain_form, plain_kind, plain_name}
use Rattle.ftd_read_back.proofs.Values.{plain_quarter}

-- ---- accounts

abbrev account_pairs : KeptAccount → Pairs
account_pairs x =
    text_value (codes "account") x.name ∷ text_value (codes "start") (day_text x.account.start)
    ∷ (codes "carried", boolean x.account.carried)
    ∷ text_value (codes "form") (form_number x.account.form) ∷ []

account_names : (x : KeptAccount) → AreNames (account_pairs x)
unfolding escape_byte
account_names x = (refl, (refl, (refl, (refl, tt))))

account_row : (x : KeptAccount) → IsAccountInRange x
    → IsObject account_fields account_pairs account_object_read account_cells x
account_row x is = (
  rw (
    unescaped x.name (plain_name x.name is.name),
    day_kept x.account.start,
    flag_text x.account.carried,
    unescaped (form_number x.account.form) (plain_form x.account.form),
  ) refl,
  account_names x,
  (omega arith, (tt, (tt, (tt, (tt, tt))))),
  (
    sorted (object (members_from (account_pairs x))),
    refl,
    rw (day_reread x.account.start is.start, form_reread x.account.form) refl,
  ),
)

pub account_objects : (listed : List KeptAccount) → AreAccountsInRange listed
    → objects_read account_object_read (rows_json (rows.Accounts listed))
    ≡ Some (map account_cells listed)
unfolding rows_json
account_objects listed are =
    objects account_fields account_pairs account_object_read account_cells listed
    (λ x has. account_row x (are x has))

-- ---- the holidays of a year

abbrev holiday_pairs : KeptHoliday → Pairs
holiday_pairs x =
    text_value (codes "day") (day_text x.day) ∷ (codes "added", boolean x.added)
    ∷ (codes "holiday", boolean x.is_holiday) ∷ []

holiday_names : (x : KeptHoliday) → AreNames (holiday_pairs x)
unfolding escape_byte
holiday_names x = (refl, (refl, (refl, tt)))

holiday_row : (x : KeptHoliday) → x.day ≤ last_day
    → IsObject holiday_fields holiday_pairs holiday_object_read holiday_cells x
holiday_row x early = (
  rw (day_kept x.day, flag_text x.added, flag_text x.is_holiday) refl,
  holiday_names x,
  (omega arith, (tt, (tt, (tt, tt)))),
  (sorted (object (members_from (holiday_pairs x))), refl, rw (day_reread x.day early) refl),
)

pub holiday_objects : (year : ℕ) (listed : List KeptHoliday) → AreHolidaysInRange listed
    → objects_read holiday_object_read (rows_json (rows.Holidays year listed))
    ≡ Some (map holiday_cells listed)
unfolding rows_json
holiday_objects year listed are =
    objects holiday_fields holiday_pairs holiday_object_read holiday_cells listed
    (λ x has. holiday_row x (are x has))

-- ---- money that counts for nothing

abbrev unapplied_pairs : UnappliedRow → Pairs
unapplied_pairs x =
    text_value (codes "account") x.account ∷ (codes "payment", number_value x.payment)
    ∷ text_value (codes "first") (day_text x.first) ∷ text_value (codes "last") (day_text x.last)
    ∷ text_value (codes "amount") (cents_text x.amount.0)
    ∷ text_value (codes "paid") (cents_text x.paid.0)
    ∷ text_value (codes "over") (cents_text (over_of x)) ∷ []

unapplied_names : (x : UnappliedRow) → AreNames (unapplied_pairs x)
unfolding escape_byte
unapplied_names x = (refl, (refl, (refl, (refl, (refl, (refl, (refl, tt)))))))

-- as it is read
abbrev unapplied_as : UnappliedRow → Data
unapplied_as x =
    object (members_from (text_value (codes "account") x.account
    ∷ text_value (codes "amount") (cents_text x.amount.0)
    ∷ text_value (codes "first") (day_text x.first) ∷ text_value (codes "last") (day_text x.last)
    ∷ text_value (codes "over") (cents_text (over_of x))
    ∷ text_value (codes "paid") (cents_text x.paid.0)
    ∷ (codes "payment", number_value x.payment) ∷ []))

unapplied_row : (x : UnappliedRow) → IsUnappliedInRange x
    → IsObject unapplied_fields unapplied_pairs unapplied_object_read unapplied_cells x
unapplied_row x is =
    let over = over_small x is in
    let low = number_flat x.payment is.payment in (
      rw (
        unescaped x.account (plain_name x.account is.name),
        number_told x.payment,
        day_kept x.first,
        day_kept x.last,
        cents_kept x.amount.0,
        cents_kept x.paid.0,
        cents_kept (over_of x),
      ) refl,
      unapplied_names x,
      (omega arith, (tt, (low.1, (tt, (tt, (tt, (tt, (tt, tt)))))))),
      (
        unapplied_as x,
        rw (number_as_read x.payment is.payment) refl,
        rw (
          number_in_value x.payment,
          day_reread x.first is.first,
          day_reread x.last is.last,
          cents_reread x.amount.0 is.amount,
          cents_reread x.paid.0 is.paid,
          cents_reread (over_of x) over,
        ) refl,
      ),
    )

pub unapplied_objects : (listed : List UnappliedRow) → AreUnappliedInRange listed
    → objects_read unapplied_object_read (unapplied_json listed)
    ≡ Some (map unapplied_cells listed)
unfolding unapplied_json
unapplied_objects listed are =
    objects unapplied_fields unapplied_pairs unapplied_object_read unapplied_cells listed
    (λ x has. unapplied_row x (are x has))

module _ (account : List ℕ) (name : is_account_name account ≡ true) where
  -- ---- the pay runs of an account

  abbrev run_pairs : KeptRun → Pairs
  run_pairs x =
      text_value (codes "account") account ∷ (codes "run", number (unsigned x.number))
      ∷ text_value (codes "payday") (day_text x.run.payday)
      ∷ text_value (codes "fit") (cents_text x.run.fit.0)
      ∷ text_value (codes "ss") (cents_text x.run.ss.0)
      ∷ text_value (codes "medicare") (cents_text x.run.medicare.0)
      ∷ (codes "void", boolean x.voided) ∷ []

  run_names : (x : KeptRun) → AreNames (run_pairs x)
  unfolding escape_byte
  run_names x = (refl, (refl, (refl, (refl, (refl, (refl, (refl, tt)))))))

  abbrev run_as : KeptRun → Data
  run_as x =
      object (members_from (text_value (codes "account") account
      ∷ text_value (codes "fit") (cents_text x.run.fit.0)
      ∷ text_value (codes "medicare") (cents_text x.run.medicare.0)
      ∷ text_value (codes "payday") (day_text x.run.payday)
      ∷ (codes "run", number (unsigned x.number))
      ∷ text_value (codes "ss") (cents_text x.run.ss.0) ∷ (codes "void", boolean x.voided) ∷ []))

  run_row : (x : KeptRun) → IsRunInRange x
      → IsObject (run_fields account) run_pairs run_object_read (run_object account) x
  run_row x is = (
    rw (
      unescaped account (plain_name account name),
      day_kept x.run.payday,
      cents_kept x.run.fit.0,
      cents_kept x.run.ss.0,
      cents_kept x.run.medicare.0,
      flag_text x.voided,
    ) refl,
    run_names x,
    (
      omega arith,
      (tt, (IsNumber-decimal x.number is.number, (tt, (tt, (tt, (tt, (tt, tt))))))),
    ),
    (
      run_as x,
      rw (number_of-decimal x.number is.number) refl,
      rw (
        day_reread x.run.payday is.payday,
        cents_reread x.run.fit.0 is.fit,
        cents_reread x.run.ss.0 is.ss,
        cents_reread x.run.medicare.0 is.medicare,
      ) refl,
    ),
  )

  pub run_objects : (quarter : ℕ) (listed : List KeptRun) → AreRunsInRange listed
      → objects_read run_object_read (rows_json (rows.Runs account quarter listed))
      ≡ Some (map (run_object account) listed)
  unfolding rows_json
  run_objects quarter listed are =
      objects (run_fields account) run_pairs run_object_read (run_object account) listed
      (λ x has. run_row x (are x has))

  -- ---- the open years of an account

  abbrev year_pairs : KeptYear → Pairs
  year_pairs x =
      text_value (codes "account") account ∷ (codes "year", number (unsigned x.line.year))
      ∷ text_value (codes "lookback") (cents_text x.line.lookback.0)
      ∷ text_value (codes "opening") (kind_name x.line.opening)
      ∷ (codes "carried", boolean x.line.carried) ∷ (codes "turned", day_value x.line.turn)
      ∷ text_value (codes "first_lookback") (cents_text x.first_lookback.0) ∷ []

  year_names : (x : KeptYear) → AreNames (year_pairs x)
  unfolding escape_byte
  year_names x = (refl, (refl, (refl, (refl, (refl, (refl, (refl, tt)))))))

  abbrev year_as : KeptYear → Data
  year_as x =
      object (members_from (text_value (codes "account") account
      ∷ (codes "carried", boolean x.line.carried)
      ∷ text_value (codes "first_lookback") (cents_text x.first_lookback.0)
      ∷ text_value (codes "lookback") (cents_text x.line.lookback.0)
      ∷ text_value (codes "opening") (kind_name x.line.opening)
      ∷ (codes "turned", day_value x.line.turn)
      ∷ (codes "year", number (unsigned x.line.year)) ∷ []))

  year_row : (x : KeptYear) → IsYearInRange x
      → IsObject (year_fields account) year_pairs year_object_read (year_cells account) x
  year_row x is =
      let low = day_flat x.line.turn in (
        rw (
          unescaped account (plain_name account name),
          cents_kept x.line.lookback.0,
          unescaped (kind_name x.line.opening) (plain_kind x.line.opening),
          flag_text x.line.carried,
          day_told x.line.turn,
          cents_kept x.first_lookback.0,
        ) refl,
        year_names x,
        (
          omega arith,
          (tt, (IsNumber-decimal x.line.year is.year, (tt, (tt, (tt, (low.1, (tt, tt))))))),
        ),
        (
          year_as x,
          rw (number_of-decimal x.line.year is.year, day_as_read x.line.turn) refl,
          rw (
            cents_reread x.line.lookback.0 is.lookback,
            kind_reread x.line.opening,
            day_in x.line.turn is.turn,
            cents_reread x.first_lookback.0 is.first_lookback,
          ) refl,
        ),
      )

  pub year_objects : (listed : List KeptYear) → AreYearsInRange listed
      → objects_read year_object_read (rows_json (rows.Years account listed))
      ≡ Some (map (year_cells account) listed)
  unfolding rows_json
  year_objects listed are =
      objects (year_fields account) year_pairs year_object_read (year_cells account) listed
      (λ x has. year_row x (are x has))

  -- ---- the reported totals of an account

  abbrev period_pair : ReturnPeriod → List ℕ × Data
  period_pair (Quarter quarter) = text_value (codes "quarter") (quarter_text quarter)
  period_pair (Year year) = (codes "year", number (unsigned year))

  abbrev total_pairs : KeptTotal → Pairs
  total_pairs x =
      text_value (codes "account") account ∷ period_pair x.period
      ∷ text_value (codes "amount") (cents_text x.cents.0)
      ∷ text_value (codes "first") (cents_text x.first.0) ∷ []

  total_names : (period : ReturnPeriod) (cents first : Cents)
      → AreNames (total_pairs (record { period = period; cents = cents; first = first }))
  unfolding escape_byte
  total_names (Quarter quarter) cents first = (refl, (refl, (refl, (refl, tt))))
  total_names (Year year) cents first = (refl, (refl, (refl, (refl, tt))))

  abbrev total_as : KeptTotal → Data
  total_as x =
      object (members_from (text_value (codes "account") account
      ∷ text_value (codes "amount") (cents_text x.cents.0)
      ∷ text_value (codes "first") (cents_text x.first.0) ∷ period_pair x.period ∷ []))

  total_row : (period : ReturnPeriod) (cents first : Cents) → IsPeriodInRange period
      → cents.0 < 2 ^ 64 → first.0 < 2 ^ 64
      → IsObject (total_fields account) total_pairs total_object_read (total_object account)
      (record { period = period; cents = cents; first = first })
  total_row (Quarter quarter) cents first small amount begun =
      let x : KeptTotal = record { period = Quarter quarter; cents = cents; first = first } in (
        rw (
          unescaped account (plain_name account name),
          unescaped (quarter_text quarter) (plain_quarter quarter),
          cents_kept cents.0,
          cents_kept first.0,
        ) refl,
        total_names (Quarter quarter) cents first,
        (omega arith, (tt, (tt, (tt, (tt, tt))))),
        (
          total_as x,
          refl,
          rw (
            quarter_reread quarter small,
            cents_reread cents.0 amount,
            cents_reread first.0 begun,
          ) refl,
        ),
      )
  total_row (Year year) cents first small amount begun =
      let x : KeptTotal = record { period = Year year; cents = cents; first = first } in (
        rw (
          unescaped account (plain_name account name),
          cents_kept cents.0,
          cents_kept first.0,
        ) refl,
        total_names (Year year) cents first,
        (omega arith, (tt, (IsNumber-decimal year small, (tt, (tt, tt))))),
        (
          total_as x,
          rw (number_of-decimal year small) refl,
          rw (cents_reread cents.0 amount, cents_reread first.0 begun) refl,
        ),
      )

  pub total_objects : (listed : List KeptTotal) → AreTotalsInRange listed
      → objects_read total_object_read (rows_json (rows.Reported account listed))
      ≡ Some (map (total_object account) listed)
  unfolding rows_json
  total_objects listed are =
      objects (total_fields account) total_pairs total_object_read (total_object account) listed
      (λ x has.
      (let is = are x has in total_row x.period x.cents x.first is.period is.amount is.first))

  -- ---- Schedule B by day

  abbrev liable_pairs : DaySum → Pairs
  liable_pairs x =
      text_value (codes "account") account ∷ text_value (codes "day") (day_text x.day)
      ∷ text_value (codes "amount") (cents_text x.cents.0) ∷ []

  liable_names : (x : DaySum) → AreNames (liable_pairs x)
  unfolding escape_byte
  liable_names x = (refl, (refl, (refl, tt)))

  liable_row : (x : DaySum) → IsDaySumInRange x
      → IsObject (day_fields account) liable_pairs liable_object_read (liable_cells account) x
  liable_row x is = (
    rw (
      unescaped account (plain_name account name),
      day_kept x.day,
      cents_kept x.cents.0,
    ) refl,
    liable_names x,
    (omega arith, (tt, (tt, (tt, tt)))),
    (
      sorted (object (members_from (liable_pairs x))),
      refl,
      rw (day_reread x.day is.day, cents_reread x.cents.0 is.amount) refl,
    ),
  )

  -- their sum stands behind the days
  abbrev liable_sums : List DaySum → Pairs
  liable_sums listed = text_value (codes "amount") (cents_text (sum_by cents_of listed)) ∷ []

  abbrev liable_as : List DaySum → Items → Data
  liable_as listed items =
      object (members_from (text_value (codes "amount") (cents_text (sum_by cents_of listed))
      ∷ (codes "rows", array items) ∷ []))

  liable_sum_names : (listed : List DaySum) → AreNames (liable_sums listed)
  unfolding escape_byte
  liable_sum_names listed = (refl, tt)

  liable_is : (listed : List DaySum) → AreDaySumsInRange listed
      → (items : Items) × (read (b_json account listed) ≡ Some (liable_as listed items))
      × (map liable_object_read (elements items) ≡ map (liable_cells account) listed)
  unfolding b_json
  liable_is listed are =
      let total : ℕ = sum_by cents_of listed in
      list_is (day_fields account) liable_pairs liable_object_read (liable_cells account)
      (liable_sums listed) (sum_member (codes "amount") total ∷ []) (liable_as listed) listed
      (λ x has. liable_row x (are x has)) (
        rw (cents_kept total) refl,
        liable_sum_names listed,
        omega arith,
        (tt, tt),
        λ inside items is. (rw is refl),
      )

  pub liable_objects : (listed : List DaySum) → AreDaySumsInRange listed
      → objects_read liable_object_read (b_json account listed)
      ≡ Some (map (liable_cells account) listed)
  liable_objects listed are =
      let own = liable_is listed are in
      ap (rows_of liable_object_read) own.1 ∙ ap Some own.2

  pub liable_amount : (listed : List DaySum) → AreDaySumsInRange listed
      → sum_by cents_of listed < 2 ^ 64
      → sum_read (codes "amount") (b_json account listed) ≡ Some (sum_by cents_of listed)
  liable_amount listed are small =
      ap (sum_under (codes "amount")) (liable_is listed are).1
      ∙ cents_reread (sum_by cents_of listed) small
