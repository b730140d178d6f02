-- The definitions in the words of the walk: stops, status, deposit periods, obligations and
-- lookback totals.
use Rattle.ftd_rules.specs.declared.Form.{Form}
use Rattle.std.proofs.Common.{◌≡◌, ℕ, ◌+◌, ◌<◌, ◌≤◌, ◌↔◌, ◌⊎◌, inl, inr, List, [], ◌∷◌, refl, sym}
use Rattle.std.proofs.Common.{◌∙◌, subst, arith, rules}
use Rattle.std.specs.Prelude.{nat_lt, MatchBool}
use Rattle.std.proofs.lemmas.Bool.{lt-ltb, le-ltb, cases_lt}
use Rattle.ftd_days.specs.Calendar.{month_of, year_start}
use Rattle.ftd_days.specs.Private.Intervals.{interval_start, interval_close}
use Rattle.ftd_days.specs.Business.{IsNthAfter}
use Rattle.ftd_days.proofs.Intervals.{close_is, close_only, interval_ends}
use Rattle.ftd_days.specs.declared.cents.Cents.{Cents}
use Rattle.ftd_rules.specs.declared.Kind.{Kind}
use Rattle.ftd_rules.specs.declared.Kind.TheVariants as kind
use Rattle.ftd_rules.specs.declared.Rule.{Rule}
use Rattle.ftd_rules.specs.declared.Rule.TheVariants.{Monthly, Semiweekly, NextDay}
use Rattle.ftd_rules.specs.declared.DaySum.{DaySum}
use Rattle.ftd_rules.specs.declared.YearLine.{YearLine}
use Rattle.ftd_rules.specs.declared.Obligation.{Obligation}
use Rattle.ftd_rules.specs.Lists.{Has}
use Rattle.ftd_rules.specs.Liability.{liability}
use Rattle.ftd_rules.specs.Lookback.{lookback_quarters, IsLookback}
use Rattle.ftd_rules.specs.Stops.{Rise, IsCountStart, AreStops}
use Rattle.ftd_rules.specs.Years.{year_last, IsDayOf, IsSemiweeklyOn, HasStatusOn}
use Rattle.ftd_rules.specs.Periods.{SameMonthOrInterval, SharePeriod, IsPeriod}
use Rattle.ftd_rules.specs.Obligations.{pieces, rule_of, IsObligation, AreObligations}
use Rattle.ftd_rules.specs.Due.{IsDue}
use Rattle.ftd_rules.specs.Laws.{HasStatus, IsFirstCounted, IsCountedBusiness}
use Rattle.ftd_rules.specs.Private.Due.{IsDueBy, first_counted, IsCountedBy}
use Rattle.ftd_rules.specs.Private.Stops.{counted_from, IsStops}
use Rattle.ftd_rules.specs.Private.Years.{semiweekly_from}
use Rattle.ftd_rules.specs.Private.Periods.{rule_on, ShareRun, IsStretch, HasRule}
use Rattle.ftd_rules.specs.Private.Obligations.{IsOwedPiece, AreOwedPieces}
use Rattle.ftd_rules.specs.Private.Lookback.{CountTogether}
use Rattle.ftd_rules.proofs.Schedules.{cases_turn, from_semiweekly, from_turn, from_none}
use Rattle.ftd_rules.proofs.Status.{rule_monthly, rule_semiweekly}
use Rattle.ftd_rules.proofs.Cuts.{has_above}

-- ---- stops

-- where the recursion begins to count is where the count begins
count_is : (a b : ℕ) (stops : List ℕ) (t : ℕ) → Rise a b stops
    → IsCountStart a stops t (counted_from a stops t)
count_is a b [] t h = inr ((λ s k l. k), refl)
count_is a b (x ∷ stops) t h =
    elim (cases_lt x t) [
      | inr past ↦
          rw (le-ltb x t past)
          (inr (
            (λ s k l. elim k [
              | inl e ↦ omega arith
              | inr later ↦ (let from = has_above (x + 1) b stops s h.2 later in omega arith)
            ]),
            refl,
          ))
      | inl before ↦
          let rest = count_is (x + 1) b stops t h.2 in
          rw (lt-ltb x t before)
          (elim rest [
            | inl found ↦ inl (
              found.0,
              record {
                is_stop = inr found.1.is_stop;
                before = found.1.before;
                latest = λ other k l.
                    elim k [
                      | inl e ↦
                          (let from = has_above (x + 1) b stops found.0 h.2 found.1.is_stop in
                          omega arith)
                      | inr later ↦ found.1.latest other later l
                    ];
              },
              found.2,
            )
            | inr none ↦ inl (
              x,
              record {
                is_stop = inl refl;
                before = before;
                latest = λ other k l. elim k [
                  | inl e ↦ omega arith
                  | inr later ↦ absurd (none.0 other later l)
                ];
              },
              none.1,
            )
          ])
    ]

-- and it begins at one place
count_one : (a : ℕ) (stops : List ℕ) (t from other : ℕ) → IsCountStart a stops t from
    → IsCountStart a stops t other → from ≡ other
count_one a stops t from other (inl x) (inl y) =
    let up = x.1.latest y.0 y.1.is_stop y.1.before in
    let down = y.1.latest x.0 x.1.is_stop x.1.before in
    let e = x.2 in let f = y.2 in
    omega arith
count_one a stops t from other (inl x) (inr y) = absurd (y.0 x.0 x.1.is_stop x.1.before)
count_one a stops t from other (inr x) (inl y) = absurd (x.0 y.0 y.1.is_stop y.1.before)
count_one a stops t from other (inr x) (inr y) = x.1 ∙ sym y.1

pub stops_stated : (L : ℕ → ℕ → ℕ) (a b : ℕ) (stops : List ℕ) → IsStops L a b stops
    → AreStops L a b stops
stops_stated L a b stops h = record {
  rise = h.rise;
  exact = λ t from l m start.
      (let one : from ≡ counted_from a stops t = count_one a stops t from (counted_from a stops t)
      start (count_is a b stops t h.rise) in
      rw one (h.exact t l m));
}

pub stops_counted : (L : ℕ → ℕ → ℕ) (a b : ℕ) (stops : List ℕ) → AreStops L a b stops
    → IsStops L a b stops
stops_counted L a b stops h = record {
  rise = h.rise;
  exact = λ t l m. h.exact t (counted_from a stops t) l m (count_is a b stops t h.rise);
}

-- ---- status

pub cases_kind : (k : Kind) → (k ≡ kind.Semiweekly) ⊎ (k ≡ kind.Monthly)
cases_kind kind.Semiweekly = inl refl
cases_kind kind.Monthly = inr refl

pub semiweekly_is : (line : YearLine) (day : ℕ) → year_start line.year ≤ day
    → day ≤ year_last line.year → IsSemiweeklyOn line day ↔ (semiweekly_from line ≤ day)
semiweekly_is line day l m = (
  (λ h. elim h [
    | inl opens ↦ (let e = from_semiweekly line opens in omega arith)
    | inr turned ↦ elim (cases_turn line.turn) [
      | inl none ↦ absurd (let k = rw none at turned in k)
      | inr some ↦
          let past : some.0 < day = (let k = rw some.1 at turned in k) in
          elim (cases_kind line.opening) [
            | inl semi ↦ (let e = from_semiweekly line semi in omega arith)
            | inr monthly ↦ (let e = from_turn line some.0 monthly some.1 in omega arith)
          ]
    ]
  ]),
  (λ h. elim (cases_kind line.opening) [
    | inl semi ↦ inl semi
    | inr monthly ↦ elim (cases_turn line.turn) [
      | inl none ↦ absurd (let e = from_none line monthly none in omega arith)
      | inr some ↦ (let e = from_turn line some.0 monthly some.1 in
          let past : some.0 < day = omega arith in inr (rw some.1 past))
    ]
  ]),
)

pub status_is : (line : YearLine) (day : ℕ) (status : Kind) → year_start line.year ≤ day
    → day ≤ year_last line.year
    → HasStatusOn line day status ↔ (rule_on (semiweekly_from line) day ≡ rule_of status)
status_is line day kind.Semiweekly l m =
    let is = semiweekly_is line day l m in (
      (λ h. rule_semiweekly (semiweekly_from line) day (is.0 h)),
      (λ h. elim (cases_lt day (semiweekly_from line)) [
        | inl early ↦ absurd (let k = rule_monthly (semiweekly_from line) day early in cc)
        | inr late ↦ is.1 late
      ]),
    )
status_is line day kind.Monthly l m =
    let is = semiweekly_is line day l m in (
      (λ h. elim (cases_lt day (semiweekly_from line)) [
        | inl early ↦ rule_monthly (semiweekly_from line) day early
        | inr late ↦ absurd (h (is.1 late))
      ]),
      (λ h s. let k = rule_semiweekly (semiweekly_from line) day (is.0 s) in absurd cc),
    )

pub status_some : (line : YearLine) (day : ℕ) → year_start line.year ≤ day
    → day ≤ year_last line.year → (status : Kind) × HasStatusOn line day status
status_some line day l m =
    elim (cases_lt day (semiweekly_from line)) [
      | inl early ↦ (
        kind.Monthly,
        (status_is line day kind.Monthly l m).1
            (rule_monthly (semiweekly_from line) day early),
      )
      | inr late ↦ (
        kind.Semiweekly,
        (status_is line day kind.Semiweekly l m).1
            (rule_semiweekly (semiweekly_from line) day late),
      )
    ]

pub status_ruled : (lines : List YearLine) (day : ℕ) (status : Kind)
    → HasStatus lines day status ↔ HasRule lines day (rule_of status)
status_ruled lines day status = (
  (λ h. (h.0, h.1, h.2, h.3, (status_is h.0 day status h.2 h.3).0 h.4)),
  (λ h. (h.0, h.1, h.2, h.3, (status_is h.0 day status h.2 h.3).1 h.4)),
)

-- ---- deposit periods

run_is : (line : YearLine) (a b : ℕ) (status : Kind) → year_start line.year ≤ a
    → a ≤ year_last line.year → HasStatusOn line a status → SameMonthOrInterval status a b
    → MatchBool (nat_lt a (semiweekly_from line)) (month_of b ≡ month_of a)
    (interval_start b ≡ interval_start a)
run_is line a b kind.Monthly l m h same =
    elim (cases_lt a (semiweekly_from line)) [
      | inl early ↦ rw (lt-ltb a (semiweekly_from line) early) same
      | inr late ↦ absurd (h ((semiweekly_is line a l m).1 late))
    ]
run_is line a b kind.Semiweekly l m h same =
    let late = (semiweekly_is line a l m).0 h in
    let one : interval_close b ≡ interval_close a = sym (close_only b same.0 same.2)
    ∙ close_only a same.0 same.1 in
    rw (le-ltb a (semiweekly_from line) late) ((interval_ends a b).0 one)

pub share_run : (form : Form) (line : YearLine) (a b : ℕ) → IsDayOf line a → IsDayOf line b
    → SharePeriod form line a b → ShareRun form (semiweekly_from line) a b
share_run form line a b in_a in_b h = (
  h.return_period,
  (status_is line b h.status in_b.0 in_b.1).0 h.second
      ∙ sym ((status_is line a h.status in_a.0 in_a.1).0 h.first),
  run_is line a b h.status in_a.0 in_a.1 h.first h.month_or_interval,
)

-- two days of a status share a period, where they share its month or interval
share_at : (form : Form) (line : YearLine) (a b : ℕ) (status : Kind) → IsDayOf line a
    → IsDayOf line b → ShareRun form (semiweekly_from line) a b
    → rule_on (semiweekly_from line) a ≡ rule_of status → SameMonthOrInterval status a b
    → SharePeriod form line a b
share_at form line a b status in_a in_b h its same = record {
  return_period = h.0;
  status = status;
  first = (status_is line a status in_a.0 in_a.1).1 its;
  second = (status_is line b status in_b.0 in_b.1).1 (h.1 ∙ its);
  month_or_interval = same;
}

pub run_shared : (form : Form) (line : YearLine) (a b : ℕ) → IsDayOf line a → IsDayOf line b
    → ShareRun form (semiweekly_from line) a b → SharePeriod form line a b
run_shared form line a b in_a in_b h =
    elim (cases_lt a (semiweekly_from line)) [
      | inl early ↦ share_at form line a b kind.Monthly in_a in_b h
          (rule_monthly (semiweekly_from line) a early)
          (rw (lt-ltb a (semiweekly_from line) early) at h.2)
      | inr late ↦
          let starts = rw (le-ltb a (semiweekly_from line) late) at h.2 in
          share_at form line a b kind.Semiweekly in_a in_b h
          (rule_semiweekly (semiweekly_from line) a late)
          (interval_close a, close_is a, rw (← ((interval_ends a b).1 starts)) (close_is b))
    ]

-- the days of a year that share something with day a are those from a to b
abbrev Stretch : YearLine → ℕ → ℕ → (ℕ → Type 0) → Type 0
Stretch line a b Shares =
    (a ≤ b) × (year_start line.year ≤ a) × (b ≤ year_last line.year)
    × ((day : ℕ) → year_start line.year ≤ day → day ≤ year_last line.year
    → Shares day ↔ ((a ≤ day) × (day ≤ b)))

-- and so by another test that means the same
same_stretch : (line : YearLine) (a b : ℕ) (P Q : ℕ → Type 0)
    → ((day : ℕ) → IsDayOf line a → IsDayOf line day → P day ↔ Q day)
    → Stretch line a b P → Stretch line a b Q
same_stretch line a b P Q same h =
    let some = h.0 in let from = h.1 in let to = h.2 in (
      some,
      from,
      to,
      λ day l m.
          let its = same day (from, omega arith) (l, m) in
          let e = h.3 day l m in ((λ q. e.0 (its.1 q)), (λ w. its.0 (e.1 w))),
    )

pub period_run : (form : Form) (line : YearLine) (a b : ℕ) → IsPeriod form line a b
    → IsStretch form line a b
period_run form line a b h = same_stretch line a b (SharePeriod form line a)
    (ShareRun form (semiweekly_from line) a)
    (λ day i j. (share_run form line a day i j, run_shared form line a day i j)) h

pub run_period : (form : Form) (line : YearLine) (a b : ℕ) → IsStretch form line a b
    → IsPeriod form line a b
run_period form line a b h = same_stretch line a b (ShareRun form (semiweekly_from line) a)
    (SharePeriod form line a)
    (λ day i j. (run_shared form line a day i j, share_run form line a day i j)) h

-- ---- due dates

pub due_by : (holidays : List ℕ) (rule : Rule) (last due : ℕ) → IsDue holidays rule last due
    → IsDueBy holidays rule last due
due_by holidays Monthly last due h = h
due_by holidays Semiweekly last due h = let one = close_only last h.0 h.1 in
    subst (λ (z : ℕ). IsNthAfter holidays z 3 due) one h.2
due_by holidays NextDay last due h = h

pub due_stated : (holidays : List ℕ) (rule : Rule) (last due : ℕ) → IsDueBy holidays rule last due
    → IsDue holidays rule last due
due_stated holidays Monthly last due h = h
due_stated holidays Semiweekly last due h = (interval_close last, close_is last, h)
due_stated holidays NextDay last due h = h

first_is : (rule : Rule) (last day : ℕ)
    → ((first : ℕ) × IsFirstCounted rule last first × (first ≤ day))
    ↔ (first_counted rule last ≤ day)
first_is Monthly last day = (
  (λ h. let e = h.1 in let l = h.2 in
      omega arith),
  (λ l. (first_counted Monthly last, refl, l)),
)
first_is Semiweekly last day = (
  (λ h. let l = h.2 in let e = h.1.2 in let one = close_only last h.1.0 h.1.1 in omega arith),
  (λ l. (interval_close last + 1, (interval_close last, close_is last, refl), l)),
)
first_is NextDay last day = (
  (λ h. let e = h.1 in let l = h.2 in
      omega arith),
  (λ l. (last + 1, refl, l)),
)

pub counted_stated : (holidays : List ℕ) (rule : Rule) (last due day : ℕ)
    → IsCountedBy holidays rule last due day ↔ IsCountedBusiness holidays rule last due day
counted_stated holidays rule last due day =
    let is = first_is rule last day in
    ((λ h. (h.0, is.1 h.1, h.2)), (λ h. (h.0, is.0 h.1, h.2)))

-- ---- obligations

unfoldable pub piece_owed : (form : Form) (lines : List YearLine) (sums : List DaySum) (holidays : List ℕ)
    (o : Obligation) → IsObligation form lines sums holidays o
    → IsOwedPiece form lines sums holidays o
piece_owed form lines sums holidays o h =
    let some = h.period.0 in let from = h.period.1 in let to = h.period.2 in
    let rule : rule_of h.status ≡ rule_on (semiweekly_from h.line) h.period_first =
    sym ((status_is h.line h.period_first h.status from (omega arith)).0 h.has_status) in
    record {
      line = _;
      open_year = h.open_year;
      first = _;
      last = _;
      period = period_run form h.line h.period_first h.period_last h.period;
      stops = _;
      are_stops = stops_counted (liability sums) h.period_first h.period_last h.stops h.are_stops;
      piece = subst (λ (r : Rule). Has (pieces r h.period_first h.period_last h.stops)
          (o.first, o.last, o.rule)) rule h.piece;
      amount = h.amount;
      positive = h.positive;
      due = due_by holidays o.rule o.last o.due h.due;
    }

pub owed_stated : (form : Form) (lines : List YearLine) (sums : List DaySum) (holidays : List ℕ)
    (o : Obligation) → IsOwedPiece form lines sums holidays o
    → IsObligation form lines sums holidays o
owed_stated form lines sums holidays o h =
    let some = h.period.0 in let from = h.period.1 in let to = h.period.2 in
    let status = status_some h.line h.first from (omega arith) in
    let rule : rule_on (semiweekly_from h.line) h.first ≡ rule_of status.0 =
    (status_is h.line h.first status.0 from (omega arith)).0 status.1 in
    record {
      line = h.line;
      open_year = h.open_year;
      period_first = h.first;
      period_last = h.last;
      period = run_period form h.line h.first h.last h.period;
      status = status.0;
      has_status = status.1;
      stops = h.stops;
      are_stops = stops_stated (liability sums) h.first h.last h.stops h.are_stops;
      piece = subst (λ (r : Rule). Has (pieces r h.first h.last h.stops) (o.first, o.last, o.rule))
          rule h.piece;
      amount = h.amount;
      positive = h.positive;
      due = due_stated holidays o.rule o.last o.due h.due;
    }

-- an obligation is owed for a piece of a deposit period
pub obligation_of : (form : Form) (lines : List YearLine) (sums : List DaySum) (holidays : List ℕ)
    (o : Obligation) (line : YearLine) (a b : ℕ) (status : Kind) (stops : List ℕ) → Has lines line
    → IsPeriod form line a b → HasStatusOn line a status → AreStops (liability sums) a b stops
    → Has (pieces (rule_of status) a b stops) (o.first, o.last, o.rule)
    → o.cents.0 ≡ liability sums o.first o.last → 0 < o.cents.0
    → IsDue holidays o.rule o.last o.due → IsObligation form lines sums holidays o
obligation_of form lines sums holidays o line a b status stops has period on are_stops piece amount
    positive due = search rules

pub rows_owed : (form : Form) (lines : List YearLine) (sums : List DaySum) (holidays : List ℕ)
    (rows : List Obligation) → AreObligations form lines sums holidays rows
    → AreOwedPieces form lines sums holidays rows
rows_owed form lines sums holidays rows h = search (rules, h.all, piece_owed, owed_stated)

pub rows_stated : (form : Form) (lines : List YearLine) (sums : List DaySum) (holidays : List ℕ)
    (rows : List Obligation) → AreOwedPieces form lines sums holidays rows
    → AreObligations form lines sums holidays rows
rows_stated form lines sums holidays rows h =
    grind (arith, h.all, piece_owed, owed_stated)

-- ---- lookback totals

pub lookback_together : (reported : List (ℕ × Cents)) (start year total : ℕ)
    → IsLookback reported start year total → CountTogether reported start (lookback_quarters year)
    total
lookback_together reported start year total h =
    let all = h.adds_up in (
      h.first,
      h.second.0 + h.third.0 + h.fourth.0,
      h.count.0,
      (
        h.second,
        h.third.0 + h.fourth.0,
        h.count.1,
        (h.third, h.fourth.0, h.count.2, (h.fourth, 0, h.count.3, refl, omega arith), refl),
        omega arith,
      ),
      omega arith,
    )

pub together_stated : (reported : List (ℕ × Cents)) (start year total : ℕ)
    → CountTogether reported start (lookback_quarters year) total
    → IsLookback reported start year total
together_stated reported start year total h =
    let b = h.3 in
    let c = b.3 in
    let d = c.3 in
    let e0 = h.4 in let e1 = b.4 in let e2 = c.4 in let e3 = d.4 in let none = d.3 in
    record {
      first = h.0;
      second = b.0;
      third = c.0;
      fourth = d.0;
      count = (h.2, b.2, c.2, d.2);
      adds_up = omega arith;
    }
