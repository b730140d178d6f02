-- Entries of an account with the same figures in force: each question about the account, but what
-- is kept of it, is answered the same.
use Rattle.std.proofs.Common.{◌≡◌, refl, sym, subst, ℕ, ◌-◌, List, Option, None, Some}
use Rattle.ftd_days.specs.declared.cents.Cents.{Cents}
use Rattle.ftd_rules.specs.declared.Form.{Form}
use Rattle.ftd_rules.specs.declared.Form.TheVariants.{F941, F943}
use Rattle.ftd_rules.specs.declared.Obligation.{Obligation}
use Rattle.ftd_rules.specs.declared.YearLine.{YearLine}
use Rattle.ftd_rules.specs.declared.verdict.Case.{Case}
use Rattle.ftd_rules.specs.declared.verdict.DueRow.{DueRow}
use Rattle.ftd_rules.specs.Lookback.{IsLookback, IsYearLookback}
use Rattle.ftd_rules.specs.Returns.{IsSmallQuarter}
use Rattle.ftd_machine.specs.State.{Entries, figure_at}
use Rattle.ftd_machine.specs.History.{form_of, start_of, quarter_figures, year_figures}
use Rattle.ftd_machine.specs.History.{HasLookback, IsLookbackOn, AreLinesOf, AreOwed}
use Rattle.ftd_machine.specs.Asking.{IsStatus, IsCaseOf, IsDueRow, IsDueList, IsScheduleB, IsSmall}
use Rattle.ftd_machine.specs.Asking.{has_next_day, preceding, return_period}
use Rattle.ftd_machine.specs.Checks.{Answer}
use Rattle.ftd_machine.specs.Explaining.{Explains, IsExplained, IsExplanation}
use Rattle.ftd_machine.specs.Told.{status_answer}
use Rattle.ftd_machine.specs.Unapplied.{IsUnappliedOf}
use Rattle.ftd_machine.specs.declared.explained.Explanation.{Explanation}
use Rattle.ftd_machine.specs.declared.lists.UnappliedRow.{UnappliedRow}

-- the account as it is, with the figures of others, and their enrolment and its corrections
abbrev pub with_figures : Entries → Entries → Entries
with_figures own other = record own {
  enrolled = other.enrolled;
  moves = other.moves;
  reported = other.reported;
  reported_years = other.reported_years;
  corrected = other.corrected;
  corrected_years = other.corrected_years;
}

-- the same figures are in force
pub record HaveSameFigures (own other : Entries) : Type 0 where
  pub quarters : quarter_figures other ≡ quarter_figures own
  pub years : year_figures other ≡ year_figures own
  pub at : (quarter : ℕ)
      → figure_at quarter other.reported other.corrected
      ≡ figure_at quarter own.reported own.corrected

-- and the other way round
pub figures_back : (own other : Entries) → HaveSameFigures own other
    → HaveSameFigures (with_figures own other) own
figures_back own other same = record {
  quarters = sym same.quarters;
  years = sym same.years;
  at = λ quarter. sym (same.at quarter);
}

module _ (own other : Entries) (same : HaveSameFigures own other) where
  abbrev new : Entries
  new = with_figures own other

  -- ---- open years

  lookback_on_to : (form : Form) (year : ℕ) (total : Cents) → IsLookbackOn form own year total
      → IsLookbackOn form new year total
  lookback_on_to F941 year total x =
      subst (λ fs. IsLookback fs (start_of own.account) year total.0) (sym same.quarters) x
  lookback_on_to F943 year total x =
      subst (λ fs. IsYearLookback fs (start_of own.account) year total) (sym same.years) x

  pub lookback_to : (year : ℕ) (total : Cents) → HasLookback own year total
      → HasLookback new year total
  lookback_to year total x = lookback_on_to (form_of own.account) year total x

  pub lines_to : (lines : List YearLine) → AreLinesOf own lines → AreLinesOf new lines
  lines_to lines x = record {
    years = x.years;
    lookbacks = λ line has. lookback_to line.year line.lookback (x.lookbacks line has);
    carried = x.carried;
    schedules = x.schedules;
  }

  pub owed_to : (holidays : List ℕ) (rows : List Obligation) → AreOwed holidays own rows
      → AreOwed holidays new rows
  owed_to holidays rows x = (x.0, lines_to x.0 x.1, x.2)

  pub status_to : (day : ℕ) (answer : Answer) → IsStatus own day answer → IsStatus new day answer
  status_to day answer x = record {
    lines = x.lines;
    are_lines = lines_to x.lines x.are_lines;
    line = x.line;
    open_year = x.open_year;
    of_day = x.of_day;
    status = x.status;
    has_status = x.has_status;
    why = x.why;
    is_why = x.is_why;
    told = x.told;
  }

  -- ---- rows of a due list

  preceding_on : (form : Form) (quarter : ℕ)
      → preceding form own quarter ≡ preceding form new quarter
  preceding_on F941 quarter = sym (same.at (quarter - 1))
  preceding_on F943 quarter = refl

  pub small_to : (rows : List Obligation) (quarter : ℕ) → IsSmall own rows quarter
      → IsSmall new rows quarter
  small_to rows quarter x =
      let form = form_of own.account in
      let n = return_period form quarter in (
        x.0,
        x.1,
        subst (λ p. IsSmallQuarter x.0 p (has_next_day form rows n)) (preceding_on form quarter)
            x.2,
      )

  -- ---- money that counts for nothing

  pub unapplied_to : (owed : List Obligation) (number : Option ℕ) (x : UnappliedRow)
      → IsUnappliedOf own owed number x → IsUnappliedOf new owed number x
  unapplied_to owed None x is = record {
    obligation = is.obligation;
    is_owed = is.is_owed;
    first = is.first;
    last = is.last;
    amount = is.amount;
    paid = is.paid;
    more = is.more;
  }
  unapplied_to owed (Some number) x is = record {
    payment = is.payment;
    kept = is.kept;
    for_none = is.for_none;
    first = is.first;
    last = is.last;
    amount = is.amount;
    paid = is.paid;
  }

-- ---- answers

module _ (holidays : List ℕ) (own other : Entries) (same : HaveSameFigures own other) where
  case_to : (rows : List Obligation) (quarter as_of : ℕ) (row : DueRow) (c : Case)
      → IsCaseOf holidays own rows quarter as_of row c
      → IsCaseOf holidays (with_figures own other) rows quarter as_of row c
  case_to rows quarter as_of row c x = record {
    cents = x.cents;
    due = x.due;
    makeup = x.makeup;
    return_due = x.return_due;
    as_of_is = x.as_of_is;
    paid_due = x.paid_due;
    paid_makeup = x.paid_makeup;
    small = (
      (λ is. small_to own other same rows quarter (x.small.0 is)),
      (λ is. x.small.1 (small_to (with_figures own other) own (figures_back own other same) rows
          quarter is)),
    );
    quarter_paid = x.quarter_paid;
  }

  pub due_row_to : (rows : List Obligation) (quarter as_of : ℕ) (row : DueRow)
      → IsDueRow holidays own rows quarter as_of row
      → IsDueRow holidays (with_figures own other) rows quarter as_of row
  due_row_to rows quarter as_of row x = record {
    owed = x.owed;
    begins = x.begins;
    makeup = x.makeup;
    paid = x.paid;
    of_case = x.of_case;
    is_case = case_to rows quarter as_of row x.of_case x.is_case;
    verdict = x.verdict;
  }

module _ (holidays : List ℕ) (own other : Entries) (same : HaveSameFigures own other)
    (name : List ℕ) where
  pub due_list_to : (quarter as_of : ℕ) (answer : Answer)
      → IsDueList holidays own name quarter as_of answer
      → IsDueList holidays (with_figures own other) name quarter as_of answer
  due_list_to quarter as_of answer x = record {
    rows = x.rows;
    owed = owed_to own other same holidays x.rows x.owed;
    listed = x.listed;
    by_first_day = x.by_first_day;
    all = λ row. (
      (λ has. due_row_to holidays own other same x.rows quarter as_of row ((x.all row).0 has)),
      (λ is. (x.all row).1
          (due_row_to holidays (with_figures own other) own (figures_back own other same) x.rows
          quarter as_of row is)),
    );
    told = x.told;
  }

  pub schedule_to : (quarter : ℕ) (answer : Answer) → IsScheduleB own name quarter answer
      → IsScheduleB (with_figures own other) name quarter answer
  schedule_to quarter answer x = record {
    listed = x.listed;
    by_day = x.by_day;
    all = x.all;
    told = x.told;
  }

  explains_to : (owed : List Obligation) (e : Explanation) → Explains holidays own owed e
      → Explains holidays (with_figures own other) owed e
  explains_to owed e x = record {
    is_owed = x.is_owed;
    schedule = status_to own other same e.obligation.first
        (status_answer e.obligation.first e.kind e.reason) x.schedule;
    paydays_rise = x.paydays_rise;
    paydays = x.paydays;
    days_rise = x.days_rise;
    days = x.days;
    return_due = x.return_due;
    in_order = x.in_order;
    payments = x.payments;
  }

  explained_to : (owed : List Obligation) (day : ℕ) (e : Option Explanation)
      → IsExplained holidays own owed day e
      → IsExplained holidays (with_figures own other) owed day e
  explained_to owed day None x = x
  explained_to owed day (Some e) x = (explains_to owed e x.0, x.1)

  pub explanation_to : (day : ℕ) (answer : Answer) → IsExplanation holidays own name day answer
      → IsExplanation holidays (with_figures own other) name day answer
  explanation_to day answer x = record {
    owed = x.owed;
    are_owed = owed_to own other same holidays x.owed x.are_owed;
    explained = x.explained;
    is_explained = explained_to x.owed day x.explained x.is_explained;
    told = x.told;
  }
