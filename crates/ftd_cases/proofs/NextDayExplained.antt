-- A worked case: a next-day deposit is explained. `yew`, a monthly schedule depositor on Form 941,
-- has liability of 60,000.00 on Wednesday 8 May 2024 and of 45,000.00 on Wednesday 15 May. So on 15
-- May 105,000.00 has accumulated since the month began, which is due on Thursday 16 May, the next
-- business day, and was paid that day. The return for the quarter is due on Wednesday 31 July. A
-- day is the number of days after 1 January 1900, a quarter that of quarters after the first of
-- 1900, an amount its cents.
use Rattle.std.proofs.Common.{◌≡◌, ◌∙◌, ◌⊎◌, ◌↔◌, inl, inr, refl, sym, ap, subst, ℕ, ◌+◌, ◌<◌, ◌≤◌}
use Rattle.std.proofs.Common.{arith, false, List, [], ◌∷◌, Some}
use Rattle.std.specs.Prelude.{codes}
use Rattle.std.proofs.lemmas.Bool.{false≢true, leb-true, cases_lt, eqb-true}
use Rattle.std.proofs.lemmas.Bool.Decides.{eqb_tells}
use Rattle.std.proofs.lemmas.Option.{same_Some}
use Rattle.ftd_days.specs.Calendar.{month_of, month_from, month_start, year_start}
use Rattle.ftd_rules.specs.Accounts.{is_account_name}
use Rattle.ftd_rules.specs.declared.DaySum.{DaySum}
use Rattle.ftd_rules.specs.declared.Form.TheVariants.{F941}
use Rattle.ftd_rules.specs.declared.Kind.TheVariants as kind
use Rattle.ftd_rules.specs.declared.Obligation.{Obligation}
use Rattle.ftd_rules.specs.declared.Rule.TheVariants as rule
use Rattle.ftd_rules.specs.declared.YearLine.{YearLine}
use Rattle.ftd_rules.specs.declared.payment.Payment.{Payment}
use Rattle.ftd_rules.specs.declared.run.PayRun.{PayRun}
use Rattle.ftd_rules.specs.declared.run.Voidable.{Voidable}
use Rattle.ftd_rules.specs.Due.{IsDue}
use Rattle.ftd_rules.specs.Laws.{Covers}
use Rattle.ftd_rules.specs.Liability.{share, liability}
use Rattle.ftd_rules.specs.Lists.{Has}
use Rattle.ftd_rules.specs.Obligations.{IsObligation}
use Rattle.ftd_rules.specs.Periods.{IsPeriod}
use Rattle.ftd_rules.specs.Returns.{IsReturnDue}
use Rattle.ftd_rules.specs.Stops.{next_day_amount}
use Rattle.ftd_rules.specs.Years.{year_last, OpensSemiweekly, HasSchedule, AreLines, IsTurn}
use Rattle.ftd_rules.specs.Years.{IsSemiweeklyOn}
use Rattle.ftd_rules.specs.Private.Walk.{Divides, periods}
use Rattle.ftd_rules.specs.Private.Years.{semiweekly_from}
use Rattle.ftd_rules.proofs.Bridge.{period_is}
use Rattle.ftd_rules.proofs.Covering.{covering_one}
use Rattle.ftd_rules.proofs.Examples.{share_most}
use Rattle.ftd_rules.proofs.Looking.{on_or_after_at, nth_after_at, stops_at}
use Rattle.ftd_rules.proofs.Schedules.{year_divides}
use Rattle.ftd_rules.proofs.Stated.{due_stated, obligation_of, run_period, stops_stated, piece_owed}
use Rattle.ftd_rules.proofs.Walk.{share_before, share_after}
use Rattle.ftd_machine.specs.State.{State, Entry, nothing, entries_of, has_key, content_of, kept_at}
use Rattle.ftd_machine.specs.History.{HasLookback, AreLinesOf, AreOwed}
use Rattle.ftd_machine.specs.Asking.{IsStatus}
use Rattle.ftd_machine.specs.Explaining.{IsPaydayOf, IsPaymentOf, Explains}
use Rattle.ftd_machine.specs.Step.{Step}
use Rattle.ftd_machine.specs.Told.{explained_answer, status_answer}
use Rattle.ftd_machine.specs.declared.explained.DayKind.TheVariants.{Business}
use Rattle.ftd_machine.specs.declared.explained.Explanation.{Explanation}
use Rattle.ftd_machine.specs.declared.explained.RunningSum.{RunningSum}
use Rattle.ftd_machine.specs.declared.kept.KeptPayment.{KeptPayment}
use Rattle.ftd_machine.specs.declared.replies.Reason.TheVariants as reason
use Rattle.ftd_machine.specs.declared.requests.Question.TheVariants as question
use Rattle.ftd_machine.specs.declared.requests.Request.TheVariants as request
use Rattle.ftd_machine.proofs.Members.{found_some}
use Rattle.ftd_cases.proofs.DaysListed.{days_from, rises, counted_days}
use Rattle.ftd_cases.proofs.January.{cents, closed_days, lookback_of_nothing, year_2024}
use Rattle.ftd_cases.proofs.Listing.{each, only}

-- ---- what is kept

abbrev yew : List ℕ
yew = codes "yew"

-- income tax of a payday, and no other tax
abbrev posted : ℕ → ℕ → ℕ → Entry (Voidable PayRun)
posted number payday amount =
    let run : PayRun =
    record { payday = payday; fit = cents amount; ss = cents 0; medicare = cents 0 } in
    record { name = yew; key = number; content = record { value = run; voided = false } }

abbrev payment : Payment
payment = record { paid = 45_426; for_day = 45_418; cents = cents 10_500_000 }

abbrev kept : State
kept = record nothing {
  accounts = record {
    name = yew;
    account = record { start = 45_290; carried = false; form = F941 };
  } ∷ [];
  calendars = record { year = 2024; days = closed_days } ∷ record { year = 2025; days = [] } ∷ [];
  open_years = record { name = yew; key = 2024; content = tt } ∷ [];
  runs = posted 1 45_418 6_000_000 ∷ posted 2 45_425 4_500_000 ∷ [];
  payments = record { name = yew; key = 1; content = record { value = payment; voided = false } }
      ∷ [];
}

-- ---- the year: it opens monthly, and 15 May is its turn

abbrev on_8_may : DaySum
on_8_may = record { day = 45_418; cents = cents 6_000_000 }

abbrev on_15_may : DaySum
on_15_may = record { day = 45_425; cents = cents 4_500_000 }

abbrev sums : List DaySum
sums = on_8_may ∷ on_15_may ∷ []

abbrev turned : YearLine
turned = record (year_2024 0 false kind.Monthly) { turn = Some 45_425 }

-- before 15 May no more than the 60,000.00 of 8 May has accumulated
not_yet : (from day : ℕ) → day < 45_425 → next_day_amount ≤ liability sums from day → ⊥
not_yet from day early reached =
    let amount : liability sums from day ≡ 0 + share from day on_8_may + share from day on_15_may
    = refl in
    let most = share_most from day on_8_may in
    let none : share from day on_15_may ≡ 0 = elim (cases_lt 45_425 from) [
      | inl before ↦ share_before on_15_may from day before
      | inr from_it ↦ share_after on_15_may from day from_it early
    ] in
    omega arith

turn : IsTurn (liability sums) (year_start 2024) (year_last 2024) 45_425
unfolding month_of month_from month_start
turn = (
  record {
    not_before = omega arith;
    holds = leb-true next_day_amount _ refl;
    first = λ day from early reached. not_yet _ day early reached;
  },
  omega arith,
)

are_lines : AreLines sums (turned ∷ [])
are_lines = record {
  years = (2024, omega arith, (refl, omega arith));
  schedules = only (λ (l : YearLine). HasSchedule (turned ∷ []) (liability sums) l) turned
      (inr (refl, not_semiweekly, turn));
}
  where
    not_semiweekly : OpensSemiweekly (turned ∷ []) turned → ⊥
    not_semiweekly (inl more) = omega arith
    not_semiweekly (inr (inl carried)) = false≢true carried
    not_semiweekly (inr (inr before)) = elim before.1 [
      | inl is ↦
          (let year : before.0.year ≡ 2024 = ap (λ (l : YearLine). l.year) is in
          let next : before.0.year + 1 ≡ 2024 = before.2 in
          omega arith)
      | inr none ↦ none
    ]

lines_of : AreLinesOf (entries_of kept yew) (turned ∷ [])
lines_of = record {
  years = refl;
  lookbacks = only (λ (l : YearLine). HasLookback (entries_of kept yew) l.year l.lookback) turned
      lookback_of_nothing;
  carried = (refl, tt);
  schedules = are_lines;
}

monthly_on : (day : ℕ) → day ≤ 45_425 → IsSemiweeklyOn turned day → ⊥
monthly_on day early (inl opens) = absurd cc
monthly_on day early (inr past) = omega arith

-- ---- what is owed: 105,000.00 of 1 to 15 May

abbrev may : Obligation
may = record {
  first = 45_411;
  last = 45_425;
  rule = rule.NextDay;
  cents = cents 10_500_000;
  due = 45_426;
}

divides : Divides (periods F941 (semiweekly_from turned)) (year_start 2024) (year_last 2024)
unfolding month_start
divides = year_divides F941 turned (omega arith) (omega arith) (omega arith)

month_to_the_turn : IsPeriod F941 turned 45_411 45_425
unfolding month_of month_from month_start
month_to_the_turn = run_period F941 turned 45_411 45_425
    (period_is F941 turned 45_411 (omega arith) (omega arith) divides (omega arith) (omega arith))

due_the_next_day : IsDue closed_days rule.NextDay 45_425 45_426
due_the_next_day = due_stated closed_days rule.NextDay 45_425 45_426
    (nth_after_at closed_days 45_425 1 0 45_426 refl refl refl)

is_may : IsObligation F941 (turned ∷ []) sums closed_days may
is_may = obligation_of F941 (turned ∷ []) sums closed_days may turned 45_411 45_425 kind.Monthly
    (45_425 ∷ []) (inl refl) month_to_the_turn (monthly_on 45_411 (omega arith))
    (stops_stated _ 45_411 45_425 (45_425 ∷ [])
    (stops_at _ 45_411 45_425 15 (45_425 ∷ []) refl (omega arith, omega arith, tt) refl))
    (inl refl) refl (omega arith) due_the_next_day

-- an obligation covers the day of some liability, or has none of it
covers_or : (o : Obligation) (x : DaySum) → Covers o x.day ⊎ (share o.first o.last x ≡ 0)
covers_or o x = elim (cases_lt x.day o.first) [
  | inl early ↦ inr (share_before x o.first o.last early)
  | inr from ↦ elim (cases_lt o.last x.day) [
    | inl late ↦ inr (share_after x o.first o.last from late)
    | inr to ↦ inl (from, to)
  ]
]

only_may : (o : Obligation) → IsObligation F941 (turned ∷ []) sums closed_days o → o ≡ may
only_may o h =
    let amount : o.cents.0 ≡ 0 + share o.first o.last on_8_may + share o.first o.last on_15_may =
    h.amount in
    let some = h.positive in
    let same : (day : ℕ) → 45_411 ≤ day → day ≤ 45_425 → Covers o day → o ≡ may =
    λ day from to covers.
    covering_one F941 (turned ∷ []) sums closed_days day o may are_lines
    (piece_owed F941 (turned ∷ []) sums closed_days o h)
    (piece_owed F941 (turned ∷ []) sums closed_days may is_may) covers (from, to) in
    elim (covers_or o on_8_may) [
      | inl covers ↦ same 45_418 (omega arith) (omega arith) covers
      | inr none ↦ elim (covers_or o on_15_may) [
        | inl covers ↦ same 45_425 (omega arith) (omega arith) covers
        | inr neither ↦ absurd (omega arith)
      ]
    ]

owed : AreOwed closed_days (entries_of kept yew) (may ∷ [])
owed = (
  turned ∷ [],
  lines_of,
  record {
    by_first_day = ((λ later has. absurd has), tt);
    all = λ o. (
      only (λ p. IsObligation F941 (turned ∷ []) sums closed_days p) may is_may o,
      (λ h. inl (only_may o h)),
    );
  },
)

-- ---- its paydays

abbrev first_payday : RunningSum
first_payday = record { day = 45_418; cents = cents 6_000_000; total = cents 6_000_000 }

abbrev second_payday : RunningSum
second_payday = record { day = 45_425; cents = cents 4_500_000; total = cents 10_500_000 }

-- liability stands on these days alone
on_neither : (day : ℕ) → (day ≡ 45_418 → ⊥) → (day ≡ 45_425 → ⊥)
    → 0 + share day day on_8_may + share day day on_15_may ≡ 0
on_neither day a b =
    let first = apart day on_8_may a in
    let second = apart day on_15_may b in
    omega arith
  where
    apart : (day : ℕ) (x : DaySum) → (day ≡ x.day → ⊥) → share day day x ≡ 0
    apart day x other = elim (cases_lt x.day day) [
      | inl before ↦ share_before x day day before
      | inr from ↦ elim (cases_lt day x.day) [
        | inl after ↦ share_after x day day from after
        | inr to ↦ absurd (other (omega arith))
      ]
    ]

paydays : (x : RunningSum)
    → Has (first_payday ∷ second_payday ∷ []) x ↔ IsPaydayOf (entries_of kept yew) may x
paydays x = (
  each (IsPaydayOf (entries_of kept yew) may) (first_payday ∷ second_payday ∷ []) (
    ((omega arith, omega arith), refl, omega arith, refl),
    (((omega arith, omega arith), refl, omega arith, refl), tt),
  ) x,
  (λ h. elim (eqb_tells x.day 45_418) [
    | inl first ↦
        (let day = first.1 in
        let amount : x.cents.0 ≡ 6_000_000 = rw day at h.1 in
        let total : x.total.0 ≡ 6_000_000 = rw day at h.3 in
        inl (λ i. record {
          day = day i;
          cents = record { 0 = amount i };
          total = record { 0 = total i };
        }))
    | inr not_first ↦ elim (eqb_tells x.day 45_425) [
      | inl second ↦
          (let day = second.1 in
          let amount : x.cents.0 ≡ 4_500_000 = rw day at h.1 in
          let total : x.total.0 ≡ 10_500_000 = rw day at h.3 in
          inr (inl (λ i. record {
            day = day i;
            cents = record { 0 = amount i };
            total = record { 0 = total i };
          })))
      | inr not_second ↦ absurd
          (let none = on_neither x.day not_first.1 not_second.1 in
          let amount : x.cents.0
          ≡ 0 + share x.day x.day on_8_may + share x.day x.day on_15_may = h.1 in
          let some = h.2 in
          omega arith)
    ]
  ]),
)

-- ---- its payment

abbrev its_payment : KeptPayment
its_payment = record { number = 1; payment = payment; voided = false; obligation = Some 45_411 }

payments : (x : KeptPayment)
    → Has (its_payment ∷ []) x ↔ IsPaymentOf (entries_of kept yew) may x
payments x = (
  only (IsPaymentOf (entries_of kept yew) may) its_payment
      (refl, (omega arith, omega arith), refl, refl) x,
  (λ h.
      (let found = found_some content_of (has_key x.number) (entries_of kept yew).payments
      (record { value = x.payment; voided = false }) h.0 in
      let number : x.number ≡ 1 = elim found.1 [
        | inl is ↦ sym (eqb-true found.0.key x.number found.2)
            ∙ ap (λ (e : Entry (Voidable Payment)). e.key) is
        | inr none ↦ absurd none
      ] in
      let value : payment ≡ x.payment = ap (λ (v : Voidable Payment). v.value)
      (same_Some (record { value = payment; voided = false })
      (record { value = x.payment; voided = false })
      (subst (λ n. kept_at n (entries_of kept yew).payments
      ≡ Some (record { value = x.payment; voided = false })) number h.0)) in
      let voided = h.2 in
      let obligation = h.3 in
      inl (λ i. record {
        number = number i;
        payment = sym value i;
        voided = voided i;
        obligation = obligation i;
      }))),
)

-- ---- the explanation

schedule : IsStatus (entries_of kept yew) 45_411
    (status_answer 45_411 kind.Monthly reason.Lookback)
unfolding month_of month_from month_start
schedule = record {
  lines = turned ∷ [];
  are_lines = lines_of;
  line = turned;
  open_year = inl refl;
  of_day = refl;
  status = kind.Monthly;
  has_status = monthly_on 45_411 (omega arith);
  why = reason.Lookback;
  is_why = tt;
  told = refl;
}

return_of_the_quarter : IsReturnDue F941 closed_days 497 45_502
unfolding month_start
return_of_the_quarter = on_or_after_at closed_days 45_502 0 45_502 refl refl refl

abbrev explanation : Explanation
explanation = record {
  obligation = may;
  kind = kind.Monthly;
  reason = reason.Lookback;
  paydays = first_payday ∷ second_payday ∷ [];
  days = days_from 45_426 (Business ∷ []);
  return_due = 45_502;
  payments = its_payment ∷ [];
}

explains : Explains closed_days (entries_of kept yew) (may ∷ []) explanation
unfolding month_of month_from month_start
explains = record {
  is_owed = inl refl;
  schedule = schedule;
  paydays_rise = (
    each (λ (x : RunningSum). 45_418 < x.day) (second_payday ∷ []) (omega arith, tt),
    ((λ later has. absurd has), tt),
  );
  paydays = paydays;
  days_rise = rises 45_426 (Business ∷ []);
  days = counted_days closed_days may 45_426 (Business ∷ []) refl (refl, tt) refl;
  return_due = return_of_the_quarter;
  in_order = ((λ later has. absurd has), tt);
  payments = payments;
}

-- Friday 10 May lies in its deposit period
next_day_explained : Step kept (request.Question (question.Explain yew 45_420))
    (explained_answer yew 45_420 (Some explanation)) kept
unfolding is_account_name month_of month_from month_start
next_day_explained = (
  refl,
  record {
    owed = may ∷ [];
    are_owed = owed;
    explained = Some explanation;
    is_explained = (explains, (omega arith, omega arith));
    told = refl;
  },
)
