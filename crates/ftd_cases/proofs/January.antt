-- What the cases share: one payday, Friday 5 January 2024, of an account on Form 941, in a year
-- that opens monthly or semiweekly, and what is owed for it. A day is the number of days after 1
-- January 1900, a quarter that of quarters after the first of 1900, an amount its cents.
use Rattle.std.proofs.Common.{◌≡◌, inl, inr, ◌⊎◌, refl, ap, ℕ, ◌+◌, ◌<◌, ◌≤◌, arith}
use Rattle.std.proofs.Common.{Bool, true, false, List, [], ◌∷◌, None}
use Rattle.std.proofs.lemmas.Bool.{false≢true, leb-true, cases_lt}
use Rattle.ftd_days.specs.Calendar.{month_of, month_from, month_start, year_start}
use Rattle.ftd_days.specs.declared.cents.Cents.{Cents}
use Rattle.ftd_rules.specs.declared.DaySum.{DaySum}
use Rattle.ftd_rules.specs.declared.Form.{Form}
use Rattle.ftd_rules.specs.declared.Form.TheVariants.{F941}
use Rattle.ftd_rules.specs.declared.Kind.{Kind}
use Rattle.ftd_rules.specs.declared.Kind.TheVariants as kind
use Rattle.ftd_rules.specs.declared.Obligation.{Obligation}
use Rattle.ftd_rules.specs.declared.Rule.TheVariants as rule
use Rattle.ftd_rules.specs.declared.YearLine.{YearLine}
use Rattle.ftd_rules.specs.declared.run.PayRun.{PayRun}
use Rattle.ftd_rules.specs.Due.{IsDue}
use Rattle.ftd_rules.specs.Laws.{Covers}
use Rattle.ftd_rules.specs.Liability.{share, liability}
use Rattle.ftd_rules.specs.Lists.{Has}
use Rattle.ftd_rules.specs.Lookback.{IsLookback}
use Rattle.ftd_rules.specs.Obligations.{IsObligation, AreObligations}
use Rattle.ftd_rules.specs.Periods.{IsPeriod}
use Rattle.ftd_rules.specs.Returns.{IsReturnDue}
use Rattle.ftd_rules.specs.Stops.{next_day_amount, AreStops}
use Rattle.ftd_rules.specs.Years.{year_last, OpensSemiweekly, HasSchedule, AreLines, IsSemiweeklyOn}
use Rattle.ftd_rules.specs.Private.Walk.{Divides, periods}
use Rattle.ftd_rules.specs.Private.Years.{semiweekly_from}
use Rattle.ftd_rules.proofs.Bridge.{period_is}
use Rattle.ftd_rules.proofs.Covering.{covering_one}
use Rattle.ftd_rules.proofs.Examples.{share_most}
use Rattle.ftd_rules.proofs.Schedules.{year_divides}
use Rattle.ftd_rules.proofs.Looking.{on_or_after_at}
use Rattle.ftd_rules.proofs.Stated.{due_stated, obligation_of, run_period, piece_owed}
use Rattle.ftd_rules.proofs.Walk.{share_before, share_after}
use Rattle.ftd_cases.proofs.Listing.{only}

abbrev pub cents : ℕ → Cents
cents amount = record { 0 = amount }

-- 1 and 15 January and 19 February 2024
abbrev pub closed_days : List ℕ
closed_days = 45_290 ∷ 45_304 ∷ 45_339 ∷ []

-- 500.00 of income tax, 310.00 of social security tax and 72.50 of Medicare tax, together 882.50
abbrev pub run : PayRun
run = record { payday = 45_294; fit = cents 50_000; ss = cents 31_000; medicare = cents 7_250 }

-- ---- the year

-- the lookback total of an employer since 1 January 2024 is nothing: each quarter of the lookback
-- period ends before that day
pub lookback_of_nothing : IsLookback [] 45_290 2024 0
unfolding month_start
lookback_of_nothing = record {
  first = cents 0;
  second = cents 0;
  third = cents 0;
  fourth = cents 0;
  count = (
    inl (leb-true _ _ refl, refl),
    inl (leb-true _ _ refl, refl),
    inl (leb-true _ _ refl, refl),
    inl (leb-true _ _ refl, refl),
  );
  adds_up = refl;
}

abbrev pub year_2024 : ℕ → Bool → Kind → YearLine
year_2024 lookback carried opening = record {
  year = 2024;
  lookback = cents lookback;
  carried = carried;
  opening = opening;
  turn = None;
}

no_year_before : (line : YearLine) → line.year ≡ 2024 → (before : YearLine)
    → Has (line ∷ []) before → before.year + 1 ≡ line.year → ⊥
no_year_before line year before (inl is) next =
    let same : before.year ≡ line.year = ap (λ (l : YearLine). l.year) is in omega arith
no_year_before line year before (inr none) next = none

-- a lookback total of not more than 50,000.00 makes a monthly schedule depositor, and where no days
-- have 100,000.00 the year has no turn
pub monthly_lines : (lookback : ℕ) → lookback ≤ 5_000_000 → (sums : List DaySum)
    → ((a b : ℕ) → liability sums a b < next_day_amount)
    → AreLines sums (year_2024 lookback false kind.Monthly ∷ [])
monthly_lines lookback low sums few =
    let line = year_2024 lookback false kind.Monthly in record {
      years = (2024, omega arith, (refl, omega arith));
      schedules = only (λ (l : YearLine). HasSchedule (line ∷ []) (liability sums) l) line (inr (
        refl,
        (λ opens. elim opens [
          | inl more ↦ omega arith
          | inr rest ↦ elim rest [
            | inl carried ↦ false≢true carried
            | inr before ↦ no_year_before line refl before.0 before.1 before.2
          ]
        ]),
        λ day from to reaches.
            (let more : next_day_amount ≤ liability sums (month_start (month_of day)) day =
            reaches in
            let less = few (month_start (month_of day)) day in
            omega arith),
      ));
    }

-- a greater one, or an account that is carried into the year, makes a semiweekly one
pub semiweekly_lines : (lookback : ℕ) (carried : Bool)
    → (5_000_000 < lookback) ⊎ (carried ≡ true) → (sums : List DaySum)
    → AreLines sums (year_2024 lookback carried kind.Semiweekly ∷ [])
semiweekly_lines lookback carried why sums =
    let line = year_2024 lookback carried kind.Semiweekly in
    let opens : OpensSemiweekly (line ∷ []) line =
    elim why [ inl more ↦ inl more | inr is ↦ inr (inl is) ] in record {
      years = (2024, omega arith, (refl, omega arith));
      schedules = only (λ (l : YearLine). HasSchedule (line ∷ []) (liability sums) l) line
          (inl (refl, opens, refl));
    }

monthly_all_year : (lookback day : ℕ)
    → IsSemiweeklyOn (year_2024 lookback false kind.Monthly) day → ⊥
monthly_all_year lookback day (inl opens) = absurd cc
monthly_all_year lookback day (inr past) = past

-- ---- dates

-- the 15th of February is a Thursday
pub due_by_the_15th : IsDue closed_days rule.Monthly 45_320 45_335
unfolding month_of month_from month_start
due_by_the_15th = due_stated closed_days rule.Monthly 45_320 45_335
    (on_or_after_at closed_days 45_335 0 45_335 refl refl refl)

-- the return for the quarter is due on Tuesday 30 April
pub return_of_the_quarter : IsReturnDue F941 closed_days 496 45_410
unfolding month_start
return_of_the_quarter = on_or_after_at closed_days 45_410 0 45_410 refl refl refl

-- ---- the payday

abbrev pub on_5_january : ℕ → DaySum
on_5_january amount = record { day = 45_294; cents = cents amount }

pub few_on_5_january : (amount : ℕ) → amount < next_day_amount → (a b : ℕ)
    → liability (on_5_january amount ∷ []) a b < next_day_amount
few_on_5_january amount few a b =
    let most = share_most a b (on_5_january amount) in omega arith

-- where no days have 100,000.00, no deposit period has a stop
no_stops : (sums : List DaySum) → ((a b : ℕ) → liability sums a b < next_day_amount)
    → (first last : ℕ) → AreStops (liability sums) first last []
no_stops sums few first last = record {
  rise = tt;
  exact = λ t from l m start. (
    (λ has. absurd has),
    (λ reached. absurd (let less = few from t in omega arith)),
  );
}

-- ---- what is owed for one payday is one obligation

covers_the_payday : (form : Form) (lines : List YearLine) (x : DaySum) (holidays : List ℕ)
    (o : Obligation) → IsObligation form lines (x ∷ []) holidays o → Covers o x.day
covers_the_payday form lines x holidays o h =
    let amount : o.cents.0 ≡ 0 + share o.first o.last x = h.amount in
    let some = h.positive in
    elim (cases_lt x.day o.first) [
      | inl early ↦ absurd (let none = share_before x o.first o.last early in omega arith)
      | inr from ↦ elim (cases_lt o.last x.day) [
        | inl late ↦ absurd (let none = share_after x o.first o.last from late in omega arith)
        | inr to ↦ (from, to)
      ]
    ]

pub one_owed : (form : Form) (lines : List YearLine) (x : DaySum) (holidays : List ℕ)
    (o : Obligation) → AreLines (x ∷ []) lines → IsObligation form lines (x ∷ []) holidays o
    → AreObligations form lines (x ∷ []) holidays (o ∷ [])
one_owed form lines x holidays o are is = record {
  by_first_day = ((λ later has. absurd has), tt);
  all = λ p. (
    only (λ q. IsObligation form lines (x ∷ []) holidays q) o is p,
    (λ h. inl (covering_one form lines (x ∷ []) holidays x.day p o are
        (piece_owed form lines (x ∷ []) holidays p h)
        (piece_owed form lines (x ∷ []) holidays o is)
        (covers_the_payday form lines x holidays p h)
        (covers_the_payday form lines x holidays o is))),
  );
}

-- ---- the obligations: monthly for January; semiweekly for Wednesday 3 to Friday 5 January

abbrev pub january : ℕ → ℕ → Obligation
january due amount = record {
  first = 45_290;
  last = 45_320;
  rule = rule.Monthly;
  cents = cents amount;
  due = due;
}

abbrev pub early_january : ℕ → ℕ → Obligation
early_january due amount = record {
  first = 45_292;
  last = 45_294;
  rule = rule.Semiweekly;
  cents = cents amount;
  due = due;
}

month_divides : (lookback : ℕ)
    → Divides (periods F941 (semiweekly_from (year_2024 lookback false kind.Monthly)))
    (year_start 2024) (year_last 2024)
unfolding month_start
month_divides lookback =
    year_divides F941 (year_2024 lookback false kind.Monthly) (omega arith) (omega arith)
    (omega arith)

month_of_january : (lookback : ℕ)
    → IsPeriod F941 (year_2024 lookback false kind.Monthly) 45_290 45_320
unfolding month_of month_from month_start
month_of_january lookback =
    let line = year_2024 lookback false kind.Monthly in
    run_period F941 line 45_290 45_320
    (period_is F941 line 45_290 (omega arith) (omega arith) (month_divides lookback) (omega arith)
    (omega arith))

interval_divides : (lookback : ℕ) (carried : Bool)
    → Divides (periods F941 (semiweekly_from (year_2024 lookback carried kind.Semiweekly)))
    (year_start 2024) (year_last 2024)
unfolding month_start
interval_divides lookback carried =
    year_divides F941 (year_2024 lookback carried kind.Semiweekly) (omega arith) (omega arith)
    (omega arith)

interval_of_january : (lookback : ℕ) (carried : Bool)
    → IsPeriod F941 (year_2024 lookback carried kind.Semiweekly) 45_292 45_294
unfolding month_of month_from month_start
interval_of_january lookback carried =
    let line = year_2024 lookback carried kind.Semiweekly in
    run_period F941 line 45_292 45_294
    (period_is F941 line 45_292 (omega arith) (omega arith) (interval_divides lookback carried)
    (omega arith) (omega arith))

module _ (holidays : List ℕ) (due amount : ℕ) (some : 0 < amount) (few : amount < next_day_amount)
  where
    pub january_owed : (lookback : ℕ) → lookback ≤ 5_000_000
        → IsDue holidays rule.Monthly 45_320 due
        → AreObligations F941 (year_2024 lookback false kind.Monthly ∷ [])
        (on_5_january amount ∷ []) holidays (january due amount ∷ [])
    january_owed lookback low is_due =
        let line = year_2024 lookback false kind.Monthly in
        let sums = on_5_january amount ∷ [] in
        let least = few_on_5_january amount few in
        one_owed F941 (line ∷ []) (on_5_january amount) holidays (january due amount)
        (monthly_lines lookback low sums least)
        (obligation_of F941 (line ∷ []) sums holidays (january due amount) line 45_290 45_320
        kind.Monthly [] (inl refl) (month_of_january lookback) (monthly_all_year lookback 45_290)
        (no_stops sums least 45_290 45_320) (inl refl) (omega arith) some is_due)

    pub early_january_owed : (lookback : ℕ) (carried : Bool)
        → (5_000_000 < lookback) ⊎ (carried ≡ true)
        → IsDue holidays rule.Semiweekly 45_294 due
        → AreObligations F941 (year_2024 lookback carried kind.Semiweekly ∷ [])
        (on_5_january amount ∷ []) holidays (early_january due amount ∷ [])
    early_january_owed lookback carried why is_due =
        let line = year_2024 lookback carried kind.Semiweekly in
        let sums = on_5_january amount ∷ [] in
        one_owed F941 (line ∷ []) (on_5_january amount) holidays (early_january due amount)
        (semiweekly_lines lookback carried why sums)
        (obligation_of F941 (line ∷ []) sums holidays (early_january due amount) line 45_292 45_294
        kind.Semiweekly [] (inl refl) (interval_of_january lookback carried) (inl refl)
        (no_stops sums (few_on_5_january amount few) 45_292 45_294) (inl refl) (omega arith) some
        is_due)
