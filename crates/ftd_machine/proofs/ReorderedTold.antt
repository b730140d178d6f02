-- The same entries of an account in another order: each question about the account is answered the
-- same.
use Rattle.std.proofs.Common.{◌≡◌, ◌∙◌, refl, sym, ap, subst, ℕ, ◌-◌, ◌≤◌, List}
use Rattle.std.proofs.Common.{map, Option, None, Some}
use Rattle.std.specs.Prelude.{option_map}
use Rattle.ftd_days.specs.Business.{is_holiday}
use Rattle.ftd_days.specs.Calendar.{last_day, quarter_of}
use Rattle.ftd_rules.specs.declared.DaySum.{DaySum}
use Rattle.ftd_rules.specs.declared.Form.{Form}
use Rattle.ftd_rules.specs.declared.Form.TheVariants.{F941, F943}
use Rattle.ftd_rules.specs.declared.Obligation.{Obligation}
use Rattle.ftd_rules.specs.declared.verdict.Case.{Case}
use Rattle.ftd_rules.specs.declared.verdict.DueRow.{DueRow}
use Rattle.ftd_rules.specs.Liability.{liability}
use Rattle.ftd_rules.specs.Payments.{paid_by}
use Rattle.ftd_rules.specs.Periods.{return_period_first, return_period_last}
use Rattle.ftd_rules.specs.Returns.{IsSmallQuarter}
use Rattle.ftd_machine.specs.Asking.{IsCaseOf, IsDueList, IsDueRow, IsLiableDay, IsReturnPaid}
use Rattle.ftd_machine.specs.Asking.{IsScheduleB, IsSmall, IsStatus, has_next_day}
use Rattle.ftd_machine.specs.Asking.{paid_for_return, preceding, return_period, return_total}
use Rattle.ftd_machine.specs.Checks.{Answer}
use Rattle.ftd_machine.specs.Explaining.{Explains, IsExplained, IsExplanation, IsPaydayOf}
use Rattle.ftd_machine.specs.Explaining.{IsPaymentOf}
use Rattle.ftd_machine.specs.History.{form_of, live_payments, live_sums}
use Rattle.ftd_machine.specs.Kept.{ArePayments, AreRuns, AreTotals, AreYears, IsPaymentIn, IsRunIn}
use Rattle.ftd_machine.specs.Kept.{IsTotal, as_first_reported, line_of}
use Rattle.ftd_machine.specs.Posting.{IsPosted}
use Rattle.ftd_machine.specs.State.{Entries, corrections_at}
use Rattle.ftd_machine.specs.State.{latest, reported_at}
use Rattle.ftd_machine.specs.Told.{status_answer}
use Rattle.ftd_machine.specs.Unapplied.{IsUnappliedOf}
use Rattle.ftd_machine.specs.declared.entries.ReturnPeriod.{ReturnPeriod}
use Rattle.ftd_machine.specs.declared.entries.ReturnPeriod.TheVariants.{Quarter, Year}
use Rattle.ftd_machine.specs.declared.explained.Explanation.{Explanation}
use Rattle.ftd_machine.specs.declared.explained.RunningSum.{RunningSum}
use Rattle.ftd_machine.specs.declared.kept.KeptPayment.{KeptPayment}
use Rattle.ftd_machine.specs.declared.kept.KeptRun.{KeptRun}
use Rattle.ftd_machine.specs.declared.kept.KeptTotal.{KeptTotal}
use Rattle.ftd_machine.specs.declared.lists.UnappliedRow.{UnappliedRow}
use Rattle.ftd_machine.proofs.Reordered.{AreReordered, entries_back, lines_to, owed_to, owes}
use Rattle.ftd_machine.proofs.Reordered.{paid, rows_to, total_to, with_lists}
use Rattle.ftd_machine.proofs.SameDays.{counted_to, makeup_to, return_to}

-- ---- one fact of an account is one of its entries in another order

module _ (own other : Entries) (same : AreReordered own other) where
  -- the account with its entries in another order
  abbrev new : Entries
  new = with_lists own other

  -- it owes the same for each run of days
  owes_on : (first last : ℕ)
      → liability (live_sums own) first last ≡ liability (live_sums new) first last
  owes_on first last = ap (λ (L : ℕ → ℕ → ℕ). L first last) (sym (owes own other same))

  -- and the same was paid for it
  paid_on : (first last as_of day : ℕ) → paid_by (live_payments own) first last as_of day
      ≡ paid_by (live_payments new) first last as_of day
  paid_on first last as_of day =
      ap (λ (P : ℕ → ℕ → ℕ → ℕ → ℕ). P first last as_of day) (sym (paid own other same))

  -- ---- the return

  -- the total of a return is the same
  total_on : (n : ℕ) → return_total own n ≡ return_total new n
  total_on n =
      let form = form_of own.account in
      owes_on (return_period_first form n) (return_period_last form n)

  -- so is what was paid for it
  return_paid_on : (n day : ℕ) → paid_for_return own n day ≡ paid_for_return new n day
  return_paid_on n day =
      let form = form_of own.account in
      paid_on (return_period_first form n) (return_period_last form n) day day

  -- and the figure of the quarter before
  preceding_on : (form : Form) (quarter : ℕ)
      → preceding form own quarter ≡ preceding form new quarter
  preceding_on F941 quarter =
      let later = sym (same.corrected (quarter - 1)) in
      let first = sym (same.reported.kept (quarter - 1)) in
      λ i. option_map (λ cents. latest cents (later i)) (first i)
  preceding_on F943 quarter = refl

  -- so the same may be paid with the return
  small_to : (rows : List Obligation) (quarter : ℕ) → IsSmall own rows quarter
      → IsSmall new rows quarter
  small_to rows quarter x =
      let form = form_of own.account in
      let n = return_period form quarter in (
        x.0,
        x.1 ∙ total_on n,
        subst (λ p. IsSmallQuarter x.0 p (has_next_day form rows n)) (preceding_on form quarter)
            x.2,
      )

  -- and the same returns are paid
  return_paid_to : (quarter day : ℕ) → IsReturnPaid own quarter day → IsReturnPaid new quarter day
  return_paid_to quarter day x =
      let n = return_period (form_of own.account) quarter in
      subst (λ (a : ℕ). a ≤ paid_for_return new n day) (total_on n)
      (subst (λ (b : ℕ). return_total own n ≤ b) (return_paid_on n day) x)

  -- ---- rows

  -- a day of Schedule B is one
  liable_to : (quarter : ℕ) (x : DaySum) → IsLiableDay own quarter x → IsLiableDay new quarter x
  liable_to quarter x is = (is.0, is.1 ∙ owes_on x.day x.day, is.2)

  -- a payday of an obligation is one
  payday_to : (o : Obligation) (x : RunningSum) → IsPaydayOf own o x → IsPaydayOf new o x
  payday_to o x is =
      (is.0, is.1 ∙ owes_on x.day x.day, is.2, is.3 ∙ owes_on o.first x.day)

  -- a payment of an obligation is one
  payment_of_to : (o : Obligation) (x : KeptPayment) → IsPaymentOf own o x → IsPaymentOf new o x
  payment_of_to o x is = (same.payments.kept x.number ∙ is.0, is.1, is.2, is.3)

  -- a run of a quarter is one
  run_to : (quarter : ℕ) (x : KeptRun) → IsRunIn own quarter x → IsRunIn new quarter x
  run_to quarter x is = (same.runs.kept x.number ∙ is.0, is.1)

  -- a payment of a quarter is one
  payment_to : (owed : List Obligation) (quarter : ℕ) (x : KeptPayment)
      → IsPaymentIn owed own quarter x → IsPaymentIn owed new quarter x
  payment_to owed quarter x is = (same.payments.kept x.number ∙ is.0, is.1, is.2)

  -- ---- totals

  -- a total was first reported the same
  reported_on : (period : ReturnPeriod) → reported_at new period ≡ reported_at own period
  reported_on (Quarter quarter) = same.reported.kept quarter
  reported_on (Year year) = same.reported_years.kept year

  -- and was put right the same
  corrections_on : (period : ReturnPeriod)
      → corrections_at new period ≡ corrections_at own period
  corrections_on (Quarter quarter) = same.corrected quarter
  corrections_on (Year year) = same.corrected_years year

  -- so a total that is kept is one
  total_in_to : (form : Form) (x : KeptTotal) → IsTotal form own x → IsTotal form new x
  total_in_to form x is = record {
    of_form = is.of_form;
    in_force = (λ i. option_map (λ cents. latest cents (corrections_on x.period i))
        (reported_on x.period i)) ∙ is.in_force;
    first_reported = reported_on x.period ∙ is.first_reported;
  }

  -- ---- money that counts for nothing

  -- a row of money that counts for nothing is one
  pub unapplied_to : (owed : List Obligation) (number : Option ℕ) (x : UnappliedRow)
      → IsUnappliedOf own owed number x → IsUnappliedOf new owed number x
  unapplied_to owed None x is = record {
    obligation = is.obligation;
    is_owed = is.is_owed;
    first = is.first;
    last = is.last;
    amount = is.amount;
    paid = is.paid ∙ paid_on is.obligation.first is.obligation.last last_day last_day;
    more = is.more;
  }
  unapplied_to owed (Some number) x is = record {
    payment = is.payment;
    kept = same.payments.kept number ∙ is.kept;
    for_none = is.for_none;
    first = is.first;
    last = is.last;
    amount = is.amount;
    paid = is.paid;
  }

  -- ---- the schedule of a day

  -- the schedule of a day is the same, and why
  pub status_to : (day : ℕ) (answer : Answer) → IsStatus own day answer → IsStatus new day answer
  status_to day answer x = record {
    lines = x.lines;
    are_lines = lines_to own other same x.lines x.are_lines;
    line = x.line;
    open_year = x.open_year;
    of_day = x.of_day;
    status = x.status;
    has_status = x.has_status;
    why = x.why;
    is_why = x.is_why;
    told = x.told;
  }

-- ---- rows of a due list

module _ (h g : List ℕ) (days : (day : ℕ) → is_holiday g day ≡ is_holiday h day)
    (own other : Entries) (same : AreReordered own other) where
  -- what a verdict depends on is the same
  case_to : (rows : List Obligation) (quarter as_of : ℕ) (row : DueRow) (c : Case)
      → IsCaseOf h own rows quarter as_of row c
      → IsCaseOf g (with_lists own other) rows quarter as_of row c
  case_to rows quarter as_of row c x =
      let then = with_lists own other in
      let back = entries_back own other same in
      let o = row.obligation in
      record {
        cents = x.cents;
        due = x.due;
        makeup = x.makeup;
        return_due = return_to h g days (form_of own.account) quarter c.return_due x.return_due;
        as_of_is = x.as_of_is;
        paid_due = x.paid_due ∙ paid_on own other same o.first o.last as_of c.due;
        paid_makeup = x.paid_makeup ∙ paid_on own other same o.first o.last as_of c.makeup;
        small = (
          (λ is. small_to own other same rows quarter (x.small.0 is)),
          (λ is. x.small.1 (small_to then own back rows quarter is)),
        );
        quarter_paid = (
          (λ is. return_paid_to own other same quarter c.return_due (x.quarter_paid.0 is)),
          (λ is. x.quarter_paid.1 (return_paid_to then own back quarter c.return_due is)),
        );
      }

  -- so a row of a due list is one
  pub due_row_to : (rows : List Obligation) (quarter as_of : ℕ) (row : DueRow)
      → IsDueRow h own rows quarter as_of row
      → IsDueRow g (with_lists own other) rows quarter as_of row
  due_row_to rows quarter as_of row x =
      let o = row.obligation in
      record {
        owed = x.owed;
        begins = x.begins;
        makeup = makeup_to h g days (form_of own.account) o.rule o.last o.due row.makeup x.makeup;
        paid = x.paid ∙ paid_on own other same o.first o.last as_of as_of;
        of_case = x.of_case;
        is_case = case_to rows quarter as_of row x.of_case x.is_case;
        verdict = x.verdict;
      }

-- ---- answers

module _ (own other : Entries) (same : AreReordered own other) (name : List ℕ) where
  -- the account with its entries in another order
  abbrev then : Entries
  then = with_lists own other

  -- which has its own in another order
  back : AreReordered then own
  back = entries_back own other same

  -- Schedule B is the same
  pub schedule_to : (quarter : ℕ) (answer : Answer) → IsScheduleB own name quarter answer
      → IsScheduleB then name quarter answer
  schedule_to quarter answer x = record {
    listed = x.listed;
    by_day = x.by_day;
    all = λ row. (
      (λ has. liable_to own other same quarter row ((x.all row).0 has)),
      (λ is. (x.all row).1 (liable_to then own back quarter row is)),
    );
    told = x.told;
  }

  -- the same totals were reported first
  first_same : AreReordered (as_first_reported own) (as_first_reported other)
  first_same = record {
    reported = same.reported;
    reported_years = same.reported_years;
    runs = same.runs;
    payments = same.payments;
    corrected = λ key. refl;
    corrected_years = λ key. refl;
  }

  -- so the open years that are kept are the same
  pub years_to : (answer : Answer) → AreYears own name answer → AreYears then name answer
  years_to answer x = record {
    listed = x.listed;
    are_lines = lines_to own other same (map line_of x.listed) x.are_lines;
    first_lookbacks = λ row has.
        total_to (as_first_reported own) (as_first_reported other) first_same row.line.year
        row.first_lookback (x.first_lookbacks row has);
    told = x.told;
  }

  -- the totals that are kept are the same
  pub totals_to : (answer : Answer) → AreTotals own name answer → AreTotals then name answer
  totals_to answer x =
      let form = form_of own.account in
      record {
        listed = x.listed;
        by_period = x.by_period;
        all = λ row. (
          (λ has. total_in_to own other same form row ((x.all row).0 has)),
          (λ is. (x.all row).1 (total_in_to then own back form row is)),
        );
        told = x.told;
      }

  -- the runs that are kept are the same
  pub runs_to : (quarter : ℕ) (answer : Answer) → AreRuns own name quarter answer
      → AreRuns then name quarter answer
  runs_to quarter answer x = record {
    listed = x.listed;
    in_order = x.in_order;
    all = λ row. (
      (λ has. run_to own other same quarter row ((x.all row).0 has)),
      (λ is. (x.all row).1 (run_to then own back quarter row is)),
    );
    told = x.told;
  }

  -- ---- and those that rest on holidays too

  module _ (h g : List ℕ) (days : (day : ℕ) → is_holiday g day ≡ is_holiday h day) where
    -- the same days are holidays, the other way round
    days_back : (day : ℕ) → is_holiday h day ≡ is_holiday g day
    days_back day = sym (days day)

    -- the due list of a quarter is the same
    pub due_list_to : (quarter as_of : ℕ) (answer : Answer)
        → IsDueList h own name quarter as_of answer → IsDueList g then name quarter as_of answer
    due_list_to quarter as_of answer x = record {
      rows = x.rows;
      owed = owed_to h g own other days same x.rows x.owed;
      listed = x.listed;
      by_first_day = x.by_first_day;
      all = λ row. (
        (λ has. due_row_to h g days own other same x.rows quarter as_of row ((x.all row).0 has)),
        (λ is. (x.all row).1 (due_row_to g h days_back then own back x.rows quarter as_of row is)),
      );
      told = x.told;
    }

    -- an explanation of an obligation is one
    explains_to : (owed : List Obligation) (e : Explanation) → Explains h own owed e
        → Explains g then owed e
    explains_to owed e x =
        let o = e.obligation in
        record {
          is_owed = x.is_owed;
          schedule = status_to own other same o.first (status_answer o.first e.kind e.reason)
              x.schedule;
          paydays_rise = x.paydays_rise;
          paydays = λ row. (
            (λ has. payday_to own other same o row ((x.paydays row).0 has)),
            (λ is. (x.paydays row).1 (payday_to then own back o row is)),
          );
          days_rise = x.days_rise;
          days = λ row. (
            (λ has. counted_to h g days o row ((x.days row).0 has)),
            (λ is. (x.days row).1 (counted_to g h days_back o row is)),
          );
          return_due = return_to h g days (form_of own.account) (quarter_of o.first) e.return_due
              x.return_due;
          in_order = x.in_order;
          payments = λ row. (
            (λ has. payment_of_to own other same o row ((x.payments row).0 has)),
            (λ is. (x.payments row).1 (payment_of_to then own back o row is)),
          );
        }

    -- so the explanation of a day is one
    explained_to : (owed : List Obligation) (day : ℕ) (e : Option Explanation)
        → IsExplained h own owed day e → IsExplained g then owed day e
    explained_to owed day None x = x
    explained_to owed day (Some e) x = (explains_to owed e x.0, x.1)

    -- and is answered the same
    pub explanation_to : (day : ℕ) (answer : Answer) → IsExplanation h own name day answer
        → IsExplanation g then name day answer
    explanation_to day answer x = record {
      owed = x.owed;
      are_owed = owed_to h g own other days same x.owed x.are_owed;
      explained = x.explained;
      is_explained = explained_to x.owed day x.explained x.is_explained;
      told = x.told;
    }

    -- the payments that are kept are the same
    pub payments_to : (quarter : ℕ) (answer : Answer) → ArePayments h own name quarter answer
        → ArePayments g then name quarter answer
    payments_to quarter answer x = record {
      owed = x.owed;
      are_owed = owed_to h g own other days same x.owed x.are_owed;
      listed = x.listed;
      in_order = x.in_order;
      all = λ row. (
        (λ has. payment_to own other same x.owed quarter row ((x.all row).0 has)),
        (λ is. (x.all row).1 (payment_to then own back x.owed quarter row is)),
      );
      told = x.told;
    }

-- ---- what is told of a run that is posted or voided, or of a total that is put right

-- the obligations differ the same, where both before and after the entries stand in another order
pub posted_to : (h g : List ℕ) (own other after later : Entries) (payday : ℕ) (answer : Answer)
    → ((day : ℕ) → is_holiday g day ≡ is_holiday h day) → AreReordered own other
    → AreReordered after later → IsPosted h own after payday answer
    → IsPosted g (with_lists own other) (with_lists after later) payday answer
posted_to h g own other after later payday answer days same same_after x = record {
  rows = x.rows;
  owed = (
    x.owed.0,
    lines_to own other same x.owed.0 x.owed.1,
    rows_to h g own other days same x.owed.0 x.rows x.owed.2,
  );
  rows_after = x.rows_after;
  owed_after = (
    x.owed_after.0,
    lines_to after later same_after x.owed_after.0 x.owed_after.1,
    rows_to h g after later days same_after x.owed_after.0 x.rows_after x.owed_after.2,
  );
  difference = x.difference;
  differ = x.differ;
  years = x.years;
  told = x.told;
}
