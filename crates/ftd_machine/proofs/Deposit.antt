-- A worked example over the definitions alone: the deposit of January 2024 of a monthly depositor
-- on Form 941. Its year is opened and a run is posted; the schedule of a day, the due list and the
-- liability by day are asked for; the run is voided. A day is the number of days after 1 January
-- 1900, a quarter that of quarters after the first of 1900, an amount its cents.
use Rattle.std.proofs.Common.{◌≡◌, inl, inr, refl, sym, ap, subst, ℕ, ◌+◌, ◌<◌, ◌≤◌, arith}
use Rattle.std.proofs.Common.{Bool, true, false, List, [], ◌∷◌, Ok, None, rules, ◌↔◌, IsTrue}
use Rattle.std.specs.Prelude.{codes}
use Rattle.std.proofs.lemmas.Bool.{false≢true, leb-true, cases_lt}
use Rattle.ftd_days.specs.Calendar.{month_of, month_from, month_start, year_start}
use Rattle.ftd_days.specs.declared.cents.Cents.{Cents}
use Rattle.ftd_rules.specs.Accounts.{is_account_name}
use Rattle.ftd_rules.specs.declared.DaySum.{DaySum}
use Rattle.ftd_rules.specs.declared.Form.TheVariants.{F941}
use Rattle.ftd_rules.specs.declared.Kind.TheVariants as kind
use Rattle.ftd_rules.specs.declared.Obligation.{Obligation}
use Rattle.ftd_rules.specs.declared.Rule.TheVariants as rule
use Rattle.ftd_rules.specs.declared.YearLine.{YearLine}
use Rattle.ftd_rules.specs.declared.run.PayRun.{PayRun}
use Rattle.ftd_rules.specs.declared.run.Voidable.{Voidable}
use Rattle.ftd_rules.specs.declared.verdict.Case.{Case}
use Rattle.ftd_rules.specs.declared.verdict.DueRow.{DueRow}
use Rattle.ftd_rules.specs.declared.verdict.Verdict.{Verdict}
use Rattle.ftd_rules.specs.declared.verdict.Verdict.TheVariants.{Met, WithReturn, Open, MadeUp}
use Rattle.ftd_rules.specs.declared.verdict.Verdict.TheVariants.{Short, Late}
use Rattle.ftd_rules.specs.Laws.{Covers}
use Rattle.ftd_rules.specs.Liability.{share, liability}
use Rattle.ftd_rules.specs.Lists.{Has}
use Rattle.ftd_rules.specs.Lookback.{IsLookback}
use Rattle.ftd_rules.specs.Obligations.{IsObligation, AreObligations}
use Rattle.ftd_rules.specs.Periods.{IsPeriod}
use Rattle.ftd_rules.specs.Returns.{IsReturnDue}
use Rattle.ftd_rules.specs.Stops.{next_day_amount}
use Rattle.ftd_rules.specs.Verdicts.{place_of, IsCase}
use Rattle.ftd_rules.specs.Years.{year_last, OpensSemiweekly, HasSchedule, AreLines, IsSemiweeklyOn}
use Rattle.ftd_rules.specs.Private.Walk.{Divides, periods}
use Rattle.ftd_rules.specs.Private.Years.{semiweekly_from}
use Rattle.ftd_rules.proofs.Bridge.{period_is}
use Rattle.ftd_rules.proofs.Covering.{covering_one}
use Rattle.ftd_rules.proofs.Looking.{on_or_after_at, stops_at}
use Rattle.ftd_rules.proofs.Schedules.{year_divides}
use Rattle.ftd_rules.proofs.Stated.{due_stated, obligation_of, run_period, stops_stated, piece_owed}
use Rattle.ftd_rules.proofs.Walk.{share_before, share_after}
use Rattle.ftd_rules.proofs.Examples.{share_most}
use Rattle.ftd_machine.specs.State.{State, Entry, nothing, entries_of}
use Rattle.ftd_machine.specs.History.{HasLookback, AreLinesOf, live_sums, year_of_line}
use Rattle.ftd_machine.specs.Posting.{AreOnlyIn, IsOnOtherSchedule, AreOnOtherSchedules}
use Rattle.ftd_machine.specs.Asking.{IsDueRow, IsLiableDay, IsReturnPaid, IsSmall}
use Rattle.ftd_machine.specs.Runs.{IsRun}
use Rattle.ftd_machine.specs.Step.{Step}
use Rattle.ftd_machine.specs.declared.replies.Reason.TheVariants as reason
use Rattle.ftd_machine.specs.Told.{days_answer, due_answer, status_answer}
use Rattle.ftd_machine.specs.declared.replies.Difference.{Difference}
use Rattle.ftd_machine.specs.declared.replies.Reply.TheVariants as reply
use Rattle.ftd_machine.specs.declared.requests.Question.TheVariants as question
use Rattle.ftd_machine.specs.declared.requests.Request.TheVariants as request
use Rattle.ftd_machine.specs.declared.requests.Entry.TheVariants as entry
use Rattle.ftd_machine.proofs.DueSome.{row_one}
use Rattle.ftd_machine.proofs.Those.{all_those, none_those}
use Rattle.ftd_machine.proofs.PostedSome.{spans_one, tells_difference}

-- ---- what is kept: `ash`, since 1 January 2024, not carried; the holidays 1 and 15 January and 19
-- February 2024

abbrev ash : List ℕ
ash = codes "ash"

abbrev cents : ℕ → Cents
cents amount = record { 0 = amount }

abbrev enrolled : State
enrolled = record nothing {
  accounts = record {
    name = ash;
    account = record { start = 45_290; carried = false; form = F941 };
  } ∷ [];
  calendars = record { year = 2024; days = 45_290 ∷ 45_304 ∷ 45_339 ∷ [] }
      ∷ record { year = 2025; days = [] } ∷ [];
}

-- 2024 is open
abbrev opened : State
opened = record enrolled { open_years = record { name = ash; key = 2024; content = tt } ∷ [] }

-- on Friday 5 January 500.00 of income tax, 310.00 of social security tax and 72.50 of Medicare tax
abbrev run : PayRun
run = record { payday = 45_294; fit = cents 50_000; ss = cents 31_000; medicare = cents 7_250 }

-- with these runs
abbrev with_runs : List (Entry (Voidable PayRun)) → State
with_runs runs = record opened { runs = runs }

abbrev only_run : Bool → List (Entry (Voidable PayRun))
only_run voided = record {
  name = ash;
  key = 1;
  content = record { value = run; voided = voided };
} ∷ []

abbrev posted : State
posted = with_runs (only_run false)

abbrev voided : State
voided = with_runs (only_run true)

abbrev closed_days : List ℕ
closed_days = 45_290 ∷ 45_304 ∷ 45_339 ∷ []

-- together 882.50
abbrev on_5_january : DaySum
on_5_january = record { day = 45_294; cents = cents 88_250 }

-- ---- the year: a lookback total of nothing makes a monthly depositor, and there is no turn

abbrev year_2024 : YearLine
year_2024 = record {
  year = 2024;
  lookback = cents 0;
  carried = false;
  opening = kind.Monthly;
  turn = None;
}

abbrev years : List YearLine
years = year_2024 ∷ []

-- each quarter of the lookback period ends before the first day
lookback_of_nothing : IsLookback [] 45_290 2024 0
unfolding month_start
lookback_of_nothing = record {
  first = cents 0;
  second = cents 0;
  third = cents 0;
  fourth = cents 0;
  count = (
    inl (leb-true _ _ refl, refl),
    inl (leb-true _ _ refl, refl),
    inl (leb-true _ _ refl, refl),
    inl (leb-true _ _ refl, refl),
  );
  adds_up = refl;
}

opens_monthly : OpensSemiweekly years year_2024 → ⊥
opens_monthly (inl more) = omega arith
opens_monthly (inr (inl carried)) = false≢true carried
opens_monthly (inr (inr before)) = elim before.1 [
  | inl is ↦
      (let year : before.0.year ≡ 2024 = ap (λ (line : YearLine). line.year) is in
      let next : before.0.year + 1 ≡ 2024 = before.2 in
      omega arith)
  | inr none ↦ none
]

monthly_all_year : (day : ℕ) → IsSemiweeklyOn year_2024 day → ⊥
monthly_all_year day (inl opens) = absurd cc
monthly_all_year day (inr past) = past

are_lines : (sums : List DaySum) → ((a b : ℕ) → liability sums a b < next_day_amount)
    → AreLines sums years
are_lines sums few = record {
  years = (2024, omega arith, (refl, omega arith));
  schedules = λ line has. elim has [
    | inl is ↦
        subst (λ (l : YearLine). HasSchedule years (liability sums) l) (sym is)
        (inr (
          refl,
          opens_monthly,
          λ day from to reaches.
              (let more : next_day_amount ≤ liability sums (month_start (month_of day)) day =
              reaches in
              let less = few (month_start (month_of day)) day in
              omega arith),
        ))
    | inr none ↦ absurd none
  ];
}

lookback_of : (line : YearLine) → Has years line → HasLookback (entries_of enrolled ash) line.year
    line.lookback
lookback_of line has = elim has [
  | inl is ↦
      subst (λ (l : YearLine). HasLookback (entries_of enrolled ash) l.year l.lookback) (sym is)
      lookback_of_nothing
  | inr none ↦ absurd none
]

-- ---- before the run, and once it is voided, nothing is owed

none_owed : AreObligations F941 years [] closed_days []
none_owed = record {
  by_first_day = tt;
  all = λ o. (
    (λ has. absurd has),
    (λ h. absurd (let amount : o.cents.0 ≡ 0 = h.amount in let some = h.positive in omega arith)),
  );
}

lines_with : (runs : List (Entry (Voidable PayRun)))
    → AreLines (live_sums (entries_of (with_runs runs) ash)) years
    → AreLinesOf (entries_of (with_runs runs) ash) years
lines_with runs schedules = record {
  years = refl;
  lookbacks = lookback_of;
  carried = (refl, tt);
  schedules = schedules;
}

lines_before : AreLinesOf (entries_of opened ash) years
lines_before = lines_with [] (are_lines [] (λ a b. omega arith))

lines_voided : AreLinesOf (entries_of voided ash) years
lines_voided = lines_with (only_run true) (are_lines [] (λ a b. omega arith))

-- ---- with the run, 882.50 of 1 to 31 January, due on Thursday 15 February

sums_after : AreLines (on_5_january ∷ []) years
sums_after = are_lines (on_5_january ∷ [])
    (λ a b. let most = share_most a b on_5_january in omega arith)

lines_after : AreLinesOf (entries_of posted ash) years
lines_after = lines_with (only_run false) sums_after

january : Obligation
january = record {
  first = 45_290;
  last = 45_320;
  rule = rule.Monthly;
  cents = cents 88_250;
  due = 45_335;
}

divides : Divides (periods F941 (semiweekly_from year_2024)) (year_start 2024) (year_last 2024)
unfolding month_start
divides = year_divides F941 year_2024 (omega arith) (omega arith) (omega arith)

month_of_january : IsPeriod F941 year_2024 45_290 45_320
unfolding month_of month_from month_start
month_of_january = run_period F941 year_2024 45_290 45_320
    (period_is F941 year_2024 45_290 (omega arith) (omega arith) divides (omega arith)
    (omega arith))

owed_for_january : IsObligation F941 years (on_5_january ∷ []) closed_days january
unfolding january month_of month_from month_start
owed_for_january = obligation_of F941 years (on_5_january ∷ []) closed_days january year_2024
    45_290 45_320 kind.Monthly [] (inl refl) month_of_january (monthly_all_year 45_290)
    (stops_stated _ 45_290 45_320 [] (stops_at _ 45_290 45_320 31 [] refl tt refl)) (inl refl) refl
    (omega arith) (due_stated closed_days rule.Monthly 45_320 45_335
    (on_or_after_at closed_days 45_335 0 45_335 refl refl refl))

-- an obligation has the payday, since it has liability
covers_the_payday : (o : Obligation) → IsObligation F941 years (on_5_january ∷ []) closed_days o
    → Covers o 45_294
covers_the_payday o h =
    let amount : o.cents.0 ≡ 0 + share o.first o.last on_5_january = h.amount in
    let some = h.positive in
    elim (cases_lt 45_294 o.first) [
      | inl early ↦
          absurd (let none = share_before on_5_january o.first o.last early in omega arith)
      | inr from ↦ elim (cases_lt o.last 45_294) [
        | inl late ↦
            absurd (let none = share_after on_5_january o.first o.last from late in omega arith)
        | inr to ↦ (from, to)
      ]
    ]

only_january : (o : Obligation) → IsObligation F941 years (on_5_january ∷ []) closed_days o
    → o ≡ january
only_january o h =
    covering_one F941 years (on_5_january ∷ []) closed_days 45_294 o january sums_after
    (piece_owed F941 years (on_5_january ∷ []) closed_days o h)
    (piece_owed F941 years (on_5_january ∷ []) closed_days january owed_for_january)
    (covers_the_payday o h) (covers_the_payday january owed_for_january)

january_owed : AreObligations F941 years (on_5_january ∷ []) closed_days (january ∷ [])
january_owed = record {
  by_first_day = ((λ later has. absurd has), tt);
  all = λ o. (
    (λ has. elim has [
      | inl is ↦
          subst (λ x. IsObligation F941 years (on_5_january ∷ []) closed_days x) (sym is)
          owed_for_january
      | inr none ↦ absurd none
    ]),
    (λ h. inl (only_january o h)),
  );
}

-- ---- what is answered

only_it : AreOnlyIn (january ∷ []) [] (january ∷ [])
only_it = all_those (λ (o : Obligation). o.first) (λ o. Has [] o → ⊥) (january ∷ [])
    ((λ later has. absurd has), tt) (λ o has none. none)

none_of_it : AreOnlyIn [] (january ∷ []) []
none_of_it = none_those (λ (o : Obligation). o.first) (λ o. Has (january ∷ []) o → ⊥) []
    (λ o has none. has)

-- no year is on another schedule
no_year : AreOnOtherSchedules years years []
no_year = none_those year_of_line (IsOnOtherSchedule years) years
    (λ line has other. other line has (refl, refl, refl))

-- the year is opened
year_opened : Step enrolled (request.Enter (entry.Year ash 2024)) (Ok reply.Done) opened
unfolding is_account_name month_of month_from month_start
year_opened = inr (cents 0, lookback_of_nothing, (refl, refl))

-- how the obligations differ where that of 1 to 31 January is added, and where it is removed
abbrev january_added : Difference
january_added = record { from = 45_290; to = 45_320; removed = []; added = january ∷ []; years = [] }

abbrev january_removed : Difference
january_removed = record { from = 45_290; to = 45_320; removed = january ∷ []; added = []; years = [] }

-- the run is posted: one obligation is added, of 1 to 31 January
run_posted : Step opened
    (request.Post ash 1 run)
    (Ok (reply.Posted january_added)) posted
unfolding january is_account_name month_of month_from month_start
run_posted = (
  refl,
  tells_difference closed_days (entries_of opened ash) (entries_of posted ash) 45_294
      january_added [] (january ∷ []) (years, lines_before, none_owed)
      (years, lines_after, january_owed) none_of_it only_it (inl (spans_one january))
      no_year,
)

-- on 5 January the account is monthly, by its lookback total
schedule_told : Step posted (request.Question (question.Status ash 45_294))
    (status_answer 45_294 kind.Monthly reason.Lookback) posted
unfolding is_account_name month_of month_from month_start
schedule_told = (
  refl,
  record {
    lines = years;
    are_lines = lines_after;
    line = year_2024;
    open_year = inl refl;
    of_day = refl;
    status = kind.Monthly;
    has_status = monthly_all_year 45_294;
    why = reason.Lookback;
    is_why = tt;
    told = refl;
  },
)

-- as of 20 February nothing was paid; the quarter is small, and its return, which is due on Tuesday
-- 30 April, may pay it
january_case : Case
january_case = record {
  cents = cents 88_250;
  due = 45_335;
  makeup = 45_410;
  return_due = 45_410;
  as_of = 45_340;
  paid_due = cents 0;
  paid_makeup = cents 0;
  small = true;
  quarter_paid = false;
}

january_row : DueRow
january_row = record {
  obligation = january;
  makeup = 45_410;
  paid = cents 0;
  verdict = WithReturn;
}

return_of_the_quarter : IsReturnDue F941 closed_days 496 45_410
unfolding month_start
return_of_the_quarter = on_or_after_at closed_days 45_410 0 45_410 refl refl refl

no_earlier_case : (other : Verdict) → place_of other < 1 → IsCase other january_case → ⊥
unfolding january_case
no_earlier_case Met less paid = omega arith
no_earlier_case WithReturn less h = omega arith
no_earlier_case Open less h = omega arith
no_earlier_case MadeUp less h = omega arith
no_earlier_case Short less h = omega arith
no_earlier_case Late less h = omega arith

is_january_row : IsDueRow closed_days (entries_of posted ash) (january ∷ []) 496 45_340 january_row
unfolding january january_case january_row month_of month_from month_start
is_january_row =
    let own = entries_of posted ash in
    let small : IsTrue january_case.small ↔ IsSmall own (january ∷ []) 496 =
    ((λ h. (cents 88_250, refl, (refl, inl (omega arith)))), (λ h. refl)) in
    let quarter_paid : IsTrue january_case.quarter_paid ↔ IsReturnPaid own 496 45_410 = (
      (λ h. absurd (false≢true h)),
      (λ reached. absurd (let less : 88_250 ≤ 0 = reached in omega arith)),
    ) in
    record {
      owed = inl refl;
      begins = refl;
      makeup = return_of_the_quarter;
      paid = refl;
      of_case = january_case;
      is_case = search (rules, return_of_the_quarter);
      verdict = record { holds = (refl, inl (omega arith)); first = no_earlier_case };
    }

due_list_told : Step posted (request.Question (question.DueList ash 496 45_340))
    (due_answer ash 496 45_340 (january_row ∷ [])) posted
unfolding january january_row is_account_name month_of month_from month_start
due_list_told = (
  refl,
  record {
    rows = january ∷ [];
    owed = (years, lines_after, january_owed);
    listed = january_row ∷ [];
    by_first_day = ((λ later has. absurd has), tt);
    all = λ row. (
      (λ has. elim has [
        | inl is ↦
            subst (IsDueRow closed_days (entries_of posted ash) (january ∷ []) 496 45_340)
            (sym is) is_january_row
        | inr none ↦ absurd none
      ]),
      (λ h. elim h.owed [
        | inl is ↦
            inl (row_one closed_days (entries_of posted ash) (january ∷ []) 496 45_340 row
            january_row is h is_january_row)
        | inr none ↦ absurd none
      ]),
    );
    told = refl;
  },
)

-- the one day of the quarter with liability is 5 January
is_liable : IsLiableDay (entries_of posted ash) 496 on_5_january
unfolding month_of month_from month_start
is_liable = (refl, refl, omega arith)

only_liable : (x : DaySum) → IsLiableDay (entries_of posted ash) 496 x → x ≡ on_5_january
only_liable x h =
    let amount : x.cents.0 ≡ 0 + share x.day x.day on_5_january = h.1 in
    let some = h.2 in
    elim (cases_lt x.day 45_294) [
      | inl early ↦
          absurd
          (let none = share_after on_5_january x.day x.day (omega arith) early in omega arith)
      | inr from ↦ elim (cases_lt 45_294 x.day) [
        | inl late ↦
            absurd (let none = share_before on_5_january x.day x.day late in omega arith)
        | inr to ↦
            let day : x.day ≡ 45_294 = omega arith in
            let all : x.cents.0 ≡ 88_250 = rw day at amount in
            λ i. record { day = day i; cents = record { 0 = all i } }
      ]
    ]

liability_told : Step posted (request.Question (question.ScheduleB ash 496))
    (days_answer ash 496 (on_5_january ∷ [])) posted
unfolding is_account_name month_of month_from month_start
liability_told = (
  refl,
  record {
    listed = on_5_january ∷ [];
    by_day = ((λ later has. absurd has), tt);
    all = λ x. (
      (λ has. elim has [
        | inl is ↦ subst (IsLiableDay (entries_of posted ash) 496) (sym is) is_liable
        | inr none ↦ absurd none
      ]),
      (λ h. inl (only_liable x h)),
    );
    told = refl;
  },
)

-- the run is voided: the obligation is removed
run_voided : Step posted (request.Void ash 1)
    (Ok (reply.Posted january_removed)) voided
unfolding january is_account_name
run_voided = (
  record { value = run; voided = false },
  refl,
  refl,
  tells_difference closed_days (entries_of posted ash) (entries_of voided ash) 45_294
      january_removed (january ∷ []) [] (years, lines_after, january_owed)
      (years, lines_voided, none_owed) only_it none_of_it (inl (spans_one january))
      no_year,
)

-- and all of it, one after the other
january_deposited : IsRun enrolled
    (request.Enter (entry.Year ash 2024)
    ∷ request.Post ash 1 run
    ∷ request.Question (question.Status ash 45_294)
    ∷ request.Question (question.DueList ash 496 45_340)
    ∷ request.Question (question.ScheduleB ash 496) ∷ request.Void ash 1 ∷ [])
    (Ok reply.Done ∷ Ok (reply.Posted january_added)
    ∷ status_answer 45_294 kind.Monthly reason.Lookback
    ∷ due_answer ash 496 45_340 (january_row ∷ []) ∷ days_answer ash 496 (on_5_january ∷ [])
    ∷ Ok (reply.Posted january_removed) ∷ []) voided
january_deposited = (
  opened,
  inl year_opened,
  (
    posted,
    inl run_posted,
    (
      posted,
      inl schedule_told,
      (posted, inl due_list_told, (posted, inl liability_told, (voided, inl run_voided, refl))),
    ),
  ),
)
