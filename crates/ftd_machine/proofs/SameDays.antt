-- What rests on holidays rests on which days are holidays, and not on the order in which they
-- stand.
use Rattle.std.proofs.Common.{◌≡◌, ◌∙◌, inl, inr, refl, sym, ap, ℕ, zero, suc, ◌+◌, ◌-◌, List}
use Rattle.std.specs.Prelude.{◌&&◌, min, nat_lt, not}
use Rattle.ftd_days.specs.Calendar.{quarter_of, weekday_of}
use Rattle.ftd_days.specs.Business.{business_days, is_business, is_holiday, IsNthAfter, IsOnOrAfter}
use Rattle.ftd_rules.specs.declared.Form.{Form}
use Rattle.ftd_rules.specs.declared.Obligation.{Obligation}
use Rattle.ftd_rules.specs.declared.Rule.{Rule}
use Rattle.ftd_rules.specs.declared.Rule.TheVariants.{Monthly, Semiweekly, NextDay}
use Rattle.ftd_rules.specs.declared.verdict.DueRow.{DueRow}
use Rattle.ftd_rules.specs.declared.verdict.Verdict.{Verdict}
use Rattle.ftd_rules.specs.declared.verdict.Verdict.TheVariants.{Met, WithReturn, Open, MadeUp}
use Rattle.ftd_rules.specs.declared.verdict.Verdict.TheVariants.{Short, Late}
use Rattle.ftd_rules.specs.Due.{IsDue, fifteenth_after}
use Rattle.ftd_rules.specs.Returns.{IsEarlierMakeup, IsMakeup, IsReturnDue, month_after_ends}
use Rattle.ftd_machine.specs.Agenda.{IsDayFor, IsDayWithReturn}
use Rattle.ftd_machine.specs.Explaining.{IsCountedDay, IsKindOfDay}
use Rattle.ftd_machine.specs.declared.explained.CountedDay.{CountedDay}
use Rattle.ftd_machine.specs.declared.explained.DayKind.{DayKind}
use Rattle.ftd_machine.specs.declared.explained.DayKind.TheVariants.{Business, Saturday, Sunday}
use Rattle.ftd_machine.specs.declared.explained.DayKind.TheVariants.{Holiday}

module _ (h g : List ℕ) (days : (day : ℕ) → is_holiday g day ≡ is_holiday h day) where
  -- ---- business days

  -- the same days are business days
  business_same : (day : ℕ) → is_business g day ≡ is_business h day
  business_same day = ap (λ b. nat_lt (weekday_of day) 5 && not b) (days day)

  -- as many days after a day are business days
  counted_same : (day n : ℕ) → business_days g day n ≡ business_days h day n
  counted_same day zero = refl
  counted_same day (suc n) = rw (counted_same day n, business_same (day + suc n)) refl

  -- the least business day not before a day is the same
  after_to : (day result : ℕ) → IsOnOrAfter h day result → IsOnOrAfter g day result
  after_to day result x = record {
    after = x.after;
    business = business_same result ∙ x.business;
    least = λ e from to. business_same e ∙ x.least e from to;
  }

  -- and so is the least up to which some number of them lie
  nth_to : (day n result : ℕ) → IsNthAfter h day n result → IsNthAfter g day n result
  nth_to day n result x = record {
    after = x.after;
    counts = counted_same day (result - day) ∙ x.counts;
    least = λ e from is. x.least e from (sym (counted_same day (e - day)) ∙ is);
  }

  -- ---- due dates

  -- a deposit is due on the same day
  pub due_to : (rule : Rule) (last due : ℕ) → IsDue h rule last due → IsDue g rule last due
  due_to Monthly last due x = after_to (fifteenth_after last) due x
  due_to Semiweekly last due x = (x.0, x.1, nth_to x.0 3 due x.2)
  due_to NextDay last due x = nth_to last 1 due x

  -- and so is a return
  pub return_to : (form : Form) (quarter day : ℕ) → IsReturnDue form h quarter day
      → IsReturnDue form g quarter day
  return_to form quarter day x = after_to (month_after_ends form quarter) day x

  -- the earlier of the return's day and the Wednesday or Friday is the same
  earlier_to : (form : Form) (last due makeup : ℕ) → IsEarlierMakeup form h last due makeup
      → IsEarlierMakeup form g last due makeup
  earlier_to form last due makeup x = record {
    return_due = x.return_due;
    is_return = return_to form (quarter_of last) x.return_due x.is_return;
    weekday = x.weekday;
    is_weekday = x.is_weekday;
    rolled = after_to (min x.return_due x.weekday) makeup x.rolled;
  }

  -- so a shortfall is made up by the same day
  pub makeup_to : (form : Form) (rule : Rule) (last due makeup : ℕ)
      → IsMakeup form h rule last due makeup → IsMakeup form g rule last due makeup
  makeup_to form Monthly last due makeup x = return_to form (quarter_of last) makeup x
  makeup_to form Semiweekly last due makeup x = earlier_to form last due makeup x
  makeup_to form NextDay last due makeup x = earlier_to form last due makeup x

  -- ---- the day to pay by

  -- a deposit that may be paid with its return is to be paid by the same day
  with_return_to : (form : Form) (as_of : ℕ) (row : DueRow) (day : ℕ)
      → IsDayWithReturn form h as_of row day → IsDayWithReturn form g as_of row day
  with_return_to form as_of row day (inl x) =
      inl (x.0, return_to form (quarter_of row.obligation.first) day x.1)
  with_return_to form as_of row day (inr x) = inr x

  -- and so is each, whatever its verdict
  pub pay_by_to : (form : Form) (as_of : ℕ) (row : DueRow) (verdict : Verdict) (day : ℕ)
      → IsDayFor form h as_of row verdict day → IsDayFor form g as_of row verdict day
  pay_by_to form as_of row Met day x = x
  pay_by_to form as_of row WithReturn day x = with_return_to form as_of row day x
  pay_by_to form as_of row Open day x = x
  pay_by_to form as_of row MadeUp day x = x
  pay_by_to form as_of row Short day x = x
  pay_by_to form as_of row Late day x = x

  -- ---- days that are counted

  -- a day is of the same kind
  kind_to : (day : ℕ) (kind : DayKind) → IsKindOfDay h day kind → IsKindOfDay g day kind
  kind_to day Business x = business_same day ∙ x
  kind_to day Saturday x = x
  kind_to day Sunday x = x
  kind_to day Holiday x = (x.0, days day ∙ x.1)

  -- so the same days are counted to a due date
  pub counted_to : (o : Obligation) (x : CountedDay) → IsCountedDay h o x → IsCountedDay g o x
  counted_to o x is = (is.0, is.1, is.2, is.3, kind_to x.day x.kind is.4)
