-- A worked case: a deposit is explained, before and after a holiday is taken back. The 882.50 that
-- `ash`, a semiweekly schedule depositor, posted of Friday 5 January 2024 was due on Thursday 11
-- January while Monday 8 January was a holiday: of the days after that Friday, 6 January is a
-- Saturday, 7 January a Sunday, and Tuesday to Thursday are the three business days. Once 8 January
-- is taken back, Monday to Wednesday are, and the deposit is due on 10 January. The return for the
-- quarter is due on Tuesday 30 April. A day is the number of days after 1 January 1900, an amount
-- its cents.
use Rattle.std.proofs.Common.{◌≡◌, ◌↔◌, inl, inr, refl, ap, ℕ, ◌+◌, ◌<◌}
use Rattle.std.proofs.Common.{arith, false, true, List, [], ◌∷◌, Some}
use Rattle.std.proofs.lemmas.Bool.{cases_lt}
use Rattle.ftd_days.specs.Calendar.{month_of, month_from, month_start}
use Rattle.ftd_days.proofs.Intervals.{close_is}
use Rattle.ftd_rules.specs.Accounts.{is_account_name}
use Rattle.ftd_rules.specs.declared.Form.TheVariants.{F941}
use Rattle.ftd_rules.specs.declared.Kind.TheVariants as kind
use Rattle.ftd_rules.specs.declared.Rule.TheVariants as rule
use Rattle.ftd_rules.specs.declared.YearLine.{YearLine}
use Rattle.ftd_rules.specs.Due.{IsDue}
use Rattle.ftd_rules.specs.Laws.{IsFirstCounted}
use Rattle.ftd_rules.specs.Liability.{share}
use Rattle.ftd_rules.specs.Lists.{Has, KeysRise}
use Rattle.ftd_rules.specs.Returns.{IsReturnDue}
use Rattle.ftd_rules.proofs.Looking.{on_or_after_at, nth_after_at}
use Rattle.ftd_rules.proofs.Stated.{due_stated}
use Rattle.ftd_rules.proofs.Walk.{share_before, share_after}
use Rattle.ftd_machine.specs.State.{DayChange, entries_of, holidays, kept_at}
use Rattle.ftd_machine.specs.History.{HasLookback, AreLinesOf, AreOwed}
use Rattle.ftd_machine.specs.Asking.{IsStatus}
use Rattle.ftd_machine.specs.Explaining.{IsPaydayOf, IsCountedDay, day_counted}
use Rattle.ftd_machine.specs.Explaining.{Explains}
use Rattle.ftd_machine.specs.Step.{Step}
use Rattle.ftd_machine.specs.Told.{explained_answer, status_answer}
use Rattle.ftd_machine.specs.declared.explained.CountedDay.{CountedDay}
use Rattle.ftd_machine.specs.declared.explained.DayKind.{DayKind}
use Rattle.ftd_machine.specs.declared.explained.DayKind.TheVariants.{Business, Saturday, Sunday}
use Rattle.ftd_machine.specs.declared.explained.DayKind.TheVariants.{Holiday}
use Rattle.ftd_machine.specs.declared.explained.Explanation.{Explanation}
use Rattle.ftd_machine.specs.declared.explained.RunningSum.{RunningSum}
use Rattle.ftd_machine.specs.declared.kept.KeptPayment.{KeptPayment}
use Rattle.ftd_machine.specs.declared.replies.Reason.TheVariants as reason
use Rattle.ftd_machine.specs.declared.requests.Question.TheVariants as question
use Rattle.ftd_machine.specs.declared.requests.Request.TheVariants as request
use Rattle.ftd_cases.proofs.January.{cents, lookback_of_nothing, year_2024, semiweekly_lines}
use Rattle.ftd_cases.proofs.January.{on_5_january, early_january, early_january_owed}
use Rattle.ftd_cases.proofs.Listing.{only}
use Rattle.ftd_cases.proofs.DaysListed.{days_from, rises, counted_days}
use Rattle.ftd_cases.proofs.HolidayCorrected.{ash, kept, before, after}

-- ---- the year: `ash` is carried into it as semiweekly

abbrev year : YearLine
year = year_2024 0 true kind.Semiweekly

lines_of : (changes : List DayChange) → AreLinesOf (entries_of (kept changes) ash) (year ∷ [])
lines_of changes = record {
  years = refl;
  lookbacks = only
      (λ (l : YearLine). HasLookback (entries_of (kept changes) ash) l.year l.lookback) year
      lookback_of_nothing;
  carried = (refl, tt);
  schedules = semiweekly_lines 0 true (inr refl) (on_5_january 88_250 ∷ []);
}

-- ---- what is owed, before and after: by Thursday 11 January, and by Wednesday 10 January

due_on_thursday : IsDue (holidays before) rule.Semiweekly 45_294 45_300
due_on_thursday = due_stated (holidays before) rule.Semiweekly 45_294 45_300
    (nth_after_at (holidays before) 45_294 3 5 45_300 refl refl refl)

due_on_wednesday : IsDue (holidays after) rule.Semiweekly 45_294 45_299
due_on_wednesday = due_stated (holidays after) rule.Semiweekly 45_294 45_299
    (nth_after_at (holidays after) 45_294 3 4 45_299 refl refl refl)

owed_of : (changes : List DayChange) (due : ℕ)
    → IsDue (holidays (kept changes)) rule.Semiweekly 45_294 due
    → AreOwed (holidays (kept changes)) (entries_of (kept changes) ash)
    (early_january due 88_250 ∷ [])
owed_of changes due is_due = (
  year ∷ [],
  lines_of changes,
  early_january_owed (holidays (kept changes)) due 88_250 (omega arith) (omega arith) 0 true
      (inr refl) is_due,
)

-- ---- its schedule

schedule : (changes : List DayChange)
    → IsStatus (entries_of (kept changes) ash) 45_292
    (status_answer 45_292 kind.Semiweekly reason.Carried)
unfolding month_of month_from month_start
schedule changes = record {
  lines = year ∷ [];
  are_lines = lines_of changes;
  line = year;
  open_year = inl refl;
  of_day = refl;
  status = kind.Semiweekly;
  has_status = inl refl;
  why = reason.Carried;
  is_why = (
    (λ more. omega arith),
    (λ turn before. no_year_before before.0 before.1 before.2),
    refl,
  );
  told = refl;
}
  where
    no_year_before : (before : YearLine) → Has (year ∷ []) before → before.year + 1 ≡ 2024 → ⊥
    no_year_before before (inl is) next =
        let same : before.year ≡ 2024 = ap (λ (l : YearLine). l.year) is in omega arith
    no_year_before before (inr none) next = none

-- ---- its one payday

abbrev friday : RunningSum
friday = record { day = 45_294; cents = cents 88_250; total = cents 88_250 }

-- liability stands on Friday 5 January alone
only_friday : (x : RunningSum) → x.cents.0 ≡ 0 + share x.day x.day (on_5_january 88_250)
    → 0 < x.cents.0 → x.day ≡ 45_294
only_friday x amount some = elim (cases_lt x.day 45_294) [
  | inl early ↦ absurd
      (let none = share_after (on_5_january 88_250) x.day x.day (omega arith) early in omega arith)
  | inr from ↦ elim (cases_lt 45_294 x.day) [
    | inl late ↦ absurd
        (let none = share_before (on_5_january 88_250) x.day x.day late in omega arith)
    | inr to ↦ omega arith
  ]
]

paydays : (changes : List DayChange) (due : ℕ) (x : RunningSum)
    → Has (friday ∷ []) x
    ↔ IsPaydayOf (entries_of (kept changes) ash) (early_january due 88_250) x
paydays changes due x = (
  only (IsPaydayOf (entries_of (kept changes) ash) (early_january due 88_250)) friday
      ((omega arith, omega arith), refl, omega arith, refl) x,
  (λ h.
      (let day = only_friday x h.1 h.2 in
      let amount : x.cents.0 ≡ 88_250 = rw day at h.1 in
      let total : x.total.0 ≡ 88_250 = rw day at h.3 in
      inl (λ i. record {
        day = day i;
        cents = record { 0 = amount i };
        total = record { 0 = total i };
      }))),
)

-- ---- the days that are counted

-- the count begins on Saturday 6 January
from_saturday : IsFirstCounted rule.Semiweekly 45_294 45_295
from_saturday = (45_294, close_is 45_294, refl)

-- before, Monday is a holiday; after, it is the first of the three business days
abbrev kinds_before : List DayKind
kinds_before = Saturday ∷ Sunday ∷ Holiday ∷ Business ∷ Business ∷ Business ∷ []

abbrev kinds_after : List DayKind
kinds_after = Saturday ∷ Sunday ∷ Business ∷ Business ∷ Business ∷ []

-- ---- the explanations

abbrev explanation : ℕ → List CountedDay → Explanation
explanation due days = record {
  obligation = early_january due 88_250;
  kind = kind.Semiweekly;
  reason = reason.Carried;
  paydays = friday ∷ [];
  days = days;
  return_due = 45_410;
  payments = [];
}

explains : (changes : List DayChange) (due : ℕ) (days : List CountedDay)
    → IsDue (holidays (kept changes)) rule.Semiweekly 45_294 due
    → IsReturnDue F941 (holidays (kept changes)) 496 45_410
    → KeysRise day_counted days
    → ((x : CountedDay)
    → Has days x ↔ IsCountedDay (holidays (kept changes)) (early_january due 88_250) x)
    → Explains (holidays (kept changes)) (entries_of (kept changes) ash)
    (early_january due 88_250 ∷ []) (explanation due days)
unfolding month_of month_from month_start
explains changes due days is_due return_due rise counted = record {
  is_owed = inl refl;
  schedule = schedule changes;
  paydays_rise = ((λ later has. absurd has), tt);
  paydays = paydays changes due;
  days_rise = rise;
  days = counted;
  return_due = return_due;
  in_order = tt;
  payments = λ x. ((λ has. absurd has), (λ h. absurd (no_payment x h.0)));
}
  where
    no_payment : (x : KeptPayment)
        → kept_at x.number (entries_of (kept changes) ash).payments
        ≡ Some (record { value = x.payment; voided = false }) → ⊥
    no_payment x e = absurd cc

return_before : IsReturnDue F941 (holidays before) 496 45_410
unfolding month_start
return_before = on_or_after_at (holidays before) 45_410 0 45_410 refl refl refl

return_after : IsReturnDue F941 (holidays after) 496 45_410
unfolding month_start
return_after = on_or_after_at (holidays after) 45_410 0 45_410 refl refl refl

-- each day of the deposit period is answered so, as Friday 5 January
explained_before : Step before (request.Question (question.Explain ash 45_294))
    (explained_answer ash 45_294 (Some (explanation 45_300 (days_from 45_295 kinds_before)))) before
unfolding is_account_name month_of month_from month_start
explained_before = (
  refl,
  record {
    owed = early_january 45_300 88_250 ∷ [];
    are_owed = owed_of [] 45_300 due_on_thursday;
    explained = Some (explanation 45_300 (days_from 45_295 kinds_before));
    is_explained = (
      explains [] 45_300 (days_from 45_295 kinds_before) due_on_thursday return_before
          (rises 45_295 kinds_before)
          (counted_days (holidays before) (early_january 45_300 88_250) 45_295 kinds_before
          from_saturday
          (refl, (refl, ((omega arith, refl), (refl, (refl, (refl, tt)))))) refl),
      (omega arith, omega arith),
    );
    told = refl;
  },
)

explained_after : Step after (request.Question (question.Explain ash 45_294))
    (explained_answer ash 45_294 (Some (explanation 45_299 (days_from 45_295 kinds_after)))) after
unfolding is_account_name month_of month_from month_start
explained_after = (
  refl,
  record {
    owed = early_january 45_299 88_250 ∷ [];
    are_owed = owed_of (record { day = 45_297; is_holiday = false } ∷ []) 45_299 due_on_wednesday;
    explained = Some (explanation 45_299 (days_from 45_295 kinds_after));
    is_explained = (
      explains (record { day = 45_297; is_holiday = false } ∷ []) 45_299
          (days_from 45_295 kinds_after) due_on_wednesday return_after
          (rises 45_295 kinds_after)
          (counted_days (holidays after) (early_january 45_299 88_250) 45_295 kinds_after
          from_saturday
          (refl, (refl, (refl, (refl, (refl, tt))))) refl),
      (omega arith, omega arith),
    );
    told = refl;
  },
)
