-- The rest of a year whose turn differs.
use Rattle.ftd_rules.specs.declared.Form.{Form}
use Rattle.std.proofs.Common.{◌≡◌, ℕ, ◌+◌, ◌-◌, ◌<◌, ◌≤◌, inl, inr, List, ◌++◌, refl, sym, ap, ◌∙◌}
use Rattle.std.proofs.Common.{subst, arith}
use Rattle.std.specs.Prelude.{Option, Some, MatchOption}
use Rattle.std.specs.List.{All}
use Rattle.std.proofs.lemmas.Bool.{cases_order, lt-ltb}
use Rattle.ftd_days.specs.Calendar.{last_day, month_of, month_start, year_start}
use Rattle.ftd_days.specs.Business.{holidays_end}
use Rattle.ftd_days.specs.Holidays.{holidays_of}
use Rattle.ftd_days.proofs.Months.{month_of_is, month_start-mono, month_start-end}
use Rattle.ftd_rules.specs.declared.DaySum.{DaySum}
use Rattle.ftd_rules.specs.declared.YearLine.{YearLine}
use Rattle.ftd_rules.specs.declared.Obligation.{Obligation}
use Rattle.ftd_rules.specs.declared.Kind.TheVariants as kind
use Rattle.ftd_rules.specs.Liability.{liability, SumsRise}
use Rattle.ftd_rules.specs.Lists.{Has}
use Rattle.ftd_rules.specs.Years.{IsTurnOf, HasTurn, year_last}
use Rattle.ftd_rules.specs.Private.Years.{semiweekly_from}
use Rattle.ftd_rules.specs.Private.Walk.{due_date, AreOwed, Divides, periods, period_first}
use Rattle.ftd_rules.proofs.Status.{month_at_least}
use Rattle.ftd_rules.proofs.Schedules.{year_facts, year_divides, month_in_year, cases_turn, turn_is}
use Rattle.ftd_rules.proofs.Schedules.{from_turn, from_none}
use Rattle.ftd_rules.proofs.Turning.{month_total}
use Rattle.ftd_buckets.specs.declared.Window.{Window}
use Rattle.ftd_buckets.specs.declared.state.Progress.{Progress}
use Rattle.ftd_buckets.specs.declared.state.Stage.TheVariants as stage
use Rattle.ftd_buckets.specs.Histories.{History, TurnsWithin}
use Rattle.ftd_buckets.specs.Patches.{AreRows, AreSumsOf}
use Rattle.ftd_buckets.specs.Ready.{repairing, ReadyRest}
use Rattle.ftd_buckets.specs.Private.Ready.{with_turn, IsWhole}
use Rattle.ftd_buckets.specs.Private.Turned.{IsMonthStart}
use Rattle.ftd_buckets.specs.Standing.{Stands, StandsIn}
use Rattle.ftd_buckets.specs.Private.Answered.{IsSettledYear}
use Rattle.ftd_buckets.proofs.Turns.{line_same, line_year}
use Rattle.ftd_buckets.proofs.Chain.{year_change}
use Rattle.ftd_buckets.proofs.Places.{rows_are}
use Rattle.ftd_buckets.proofs.Years.{rows_append}
use Rattle.ftd_buckets.proofs.Joined.{sums_append, divides_from, first_first, joined_same}

-- what is known of the rest: where its open period begins, and the turn that is found
pub record Found (form : Form) (line : YearLine) (asked : Window) (held : List DaySum) (first : ℕ)
    (turn : Option ℕ) (all : List DaySum) (now : Option ℕ) : Type 0 where
  pub begin : 2001 ≤ line.year
  pub end : line.year ≤ 2098
  pub ready : ReadyRest form line asked held first turn
  pub now_is : MatchOption turn (IsTurnOf (liability all) first asked.to now) (λ t. now ≡ Some t)

-- the first day of the open period lies in the year, before the rest
pub open_within : (form : Form) → (line : YearLine) (asked : Window) (held : List DaySum)
    (first : ℕ) (turn : Option ℕ) → 2001 ≤ line.year → line.year ≤ 2098
    → ReadyRest form line asked held first turn
    → (year_start line.year ≤ first) × (first < asked.from)
open_within form line asked held first turn l m h =
    let f = year_facts line.year l m in
    let f0 = f.0 in let f2 = f.2 in
    let from = h.from in let some = h.some in let to = h.to in
    let b : ℕ = asked.from - 1 in
    elim (cases_turn turn) [
      | inl none ↦
          let first_is = rw none at h.is_first in
          let k = month_in_year line.year b (omega arith) (omega arith) in
          let k0 = k.0 in let k1 = k.1 in
          (omega arith, omega arith)
      | inr is ↦
          let t = is.0 in
          let w = rw is.1 at h.within in
          let first_is = rw is.1 at h.is_first in
          let w0 = w.0 in let w1 = w.1 in
          let n : YearLine = with_turn line (Some t) in
          let e : semiweekly_from n ≡ t + 1 = from_turn n t h.monthly refl in
          let x = year_divides form n l m (omega arith) b (omega arith) (omega arith) in
          let x0 = x.0 in let x1 = x.1 in
          let y0 = rw e at x0 in let y1 = rw e at x1 in
          (omega arith, omega arith)
    ]

-- the sums that are held with those of the rest
pub all_rise : (form : Form) → (line : YearLine) (asked : Window) (held : List DaySum) (first : ℕ)
    (turn : Option ℕ) (sums : List DaySum) → 2001 ≤ line.year → line.year ≤ 2098
    → ReadyRest form line asked held first turn
    → SumsRise asked.from asked.to sums → SumsRise first asked.to (held ++ sums)
all_rise form line asked held first turn sums l m h rise =
    let w = open_within form line asked held first turn l m h in
    let w1 = w.1 in
    let from = h.from in let some = h.some in
    let b : ℕ = asked.from - 1 in
    let e : asked.from ≡ b + 1 = omega arith in
    sums_append first b asked.to held sums (omega arith) (omega arith) h.rise (rw e at rise)

pub rest_turn : (form : Form) → (line : YearLine) (asked : Window) (held : List DaySum) (first : ℕ)
    (turn : Option ℕ) (all : List DaySum) (now : Option ℕ)
    → Found form line asked held first turn all now → TurnsWithin (with_turn line now)
rest_turn form line asked held first turn all now h =
    let w = open_within form line asked held first turn h.begin h.end h.ready in
    let w0 = w.0 in
    let some = h.ready.some in let to = h.ready.to in
    elim (cases_turn turn) [
      | inl none ↦
          let found = rw none at h.now_is in
          elim (cases_turn now) [
            | inl never ↦ rw never tt
            | inr is ↦ (let its = rw is.1 at found in let i0 = its.0.not_before in let i1 = its.1 in
                rw is.1 (h.ready.monthly, omega arith, omega arith))
          ]
      | inr is ↦
          let e = rw is.1 at h.now_is in
          let k = rw is.1 at h.ready.within in
          let k0 = k.0 in let k1 = k.1 in
          rw e (h.ready.monthly, k0, omega arith)
    ]

-- the rest is whole deposit periods under the turn that is found
pub rest_whole : (form : Form) → (line : YearLine) (asked : Window) (held : List DaySum) (first : ℕ)
    (turn : Option ℕ) (all : List DaySum) (now : Option ℕ)
    → Found form line asked held first turn all now
    → IsWhole form (with_turn line now) first asked.to
rest_whole form line asked held first turn all now h =
    let n : YearLine = with_turn line now in
    let w = open_within form line asked held first turn h.begin h.end h.ready in
    let w0 = w.0 in let w1 = w.1 in
    let some = h.ready.some in let to = h.ready.to in let from = h.ready.from in
    let y = line_year n h.begin h.end (rest_turn form line asked held first turn all now h) in
    let f = year_facts line.year h.begin h.end in
    let f2 = f.2 in
    let divides = year_divides form n h.begin h.end y.0.2 in
    let b : ℕ = asked.from - 1 in
    let starts : period_first form (semiweekly_from n) first ≡ first =
    elim (cases_turn turn) [
      | inl none ↦
          let first_is = rw none at h.ready.is_first in
          let found = rw none at h.now_is in
          let monthly : first < semiweekly_from n =
          elim (cases_turn now) [
            | inl never ↦ (let e = from_none n h.ready.monthly never in omega arith)
            | inr is ↦ (let its = rw is.1 at found in let i0 = its.0.not_before in
                let e = from_turn n is.0 h.ready.monthly is.1 in omega arith)
          ] in
          let end = month_start-end in
          let in_b = month_of_is b (omega arith) in
          let b0 = in_b.0 in let b1 = in_b.1 in
          let in_f = month_of_is first (omega arith) in
          let i0 = in_f.0 in
          let at_least = month_at_least first (month_of b) (omega arith) (omega arith) in
          let mono = month_start-mono (month_of b) (month_of first) at_least in
          let e : period_first form (semiweekly_from n) first ≡ month_start (month_of first) =
          rw (lt-ltb first (semiweekly_from n) monthly) refl in
          omega arith
      | inr is ↦
          let e = rw is.1 at h.now_is in
          let first_is : first ≡ period_first form (is.0 + 1) b = rw is.1 at h.ready.is_first in
          let s : semiweekly_from n ≡ is.0 + 1 = from_turn n is.0 h.ready.monthly e in
          let same : first ≡ period_first form (semiweekly_from n) b = first_is
          ∙ ap (λ z. period_first form z b) (sym s) in
          let k = first_first (periods form (semiweekly_from n)) (year_start line.year)
          (year_last line.year) b divides (omega arith) (omega arith) in
          ap (λ z. period_first form (semiweekly_from n) z) same ∙ (k ∙ sym same)
    ] in
    let D : ℕ → Type 0 = λ z. Divides (periods form (semiweekly_from n)) first z in
    record {
      from = w0;
      to = omega arith;
      some = omega arith;
      divides = subst D (sym to) (divides_from (periods form (semiweekly_from n))
          (year_start line.year) (year_last line.year) first divides w0 starts);
    }

-- the first turn from a month's first day on is the turn of the year, if that is not before it
pub turn_found : (M F : ℕ → ℕ → ℕ) (line : YearLine) (first : ℕ) (now : Option ℕ)
    → year_last line.year ≤ last_day → HasTurn M line → IsMonthStart first
    → year_start line.year ≤ first
    → ((t : ℕ) → line.turn ≡ Some t → first ≤ t) → ((u t : ℕ) → first ≤ u → t ≤ year_last line.year
    → M u t ≡ F u t) → IsTurnOf F first (year_last line.year) now → line.turn ≡ now
turn_found M F line first now top h begins from late agree found =
    let total : (v : ℕ) → first ≤ v → v ≤ year_last line.year → month_total M v ≡ month_total F v =
    λ v l m. (let k = month_at_least v begins.0 (omega arith) (omega arith) in
    let mono = month_start-mono begins.0 (month_of v) k in
    let b1 = begins.1 in
    agree (month_start (month_of v)) v (omega arith) m) in
    elim (cases_turn line.turn) [
      | inl none ↦
          let calm = rw none at h in
          elim (cases_turn now) [
            | inl never ↦ none ∙ sym never
            | inr is ↦
                absurd (let its = rw is.1 at found in let i0 = its.0.not_before in
                let i1 = its.1 in let i2 = its.0.holds in let e = total is.0 i0 i1 in
                calm is.0 (omega arith) i1 (omega arith))
          ]
      | inr some ↦
          let at = turn_is M line some.0 some.1 h in
          let a1 = at.1 in let a2 = at.0.holds in
          let l = late some.0 some.1 in
          let e = total some.0 l a1 in
          elim (cases_turn now) [
            | inl never ↦ absurd (let calm = rw never at found in calm some.0 l a1 (omega arith))
            | inr is ↦
                let its = rw is.1 at found in
                let i0 = its.0.not_before in let i1 = its.1 in let i2 = its.0.holds in
                let g = total is.0 i0 i1 in
                elim (cases_order some.0 is.0) [
                  | inl same ↦ some.1 ∙ (ap Some same ∙ sym is.1)
                  | inr (inl less) ↦ absurd (its.0.first some.0 l less (omega arith))
                  | inr (inr more) ↦ absurd (at.0.first is.0 (omega arith) more (omega arith))
                ]
          ]
    ]

-- once the rest is fed, the year is settled
pub rest_settled : (form : Form) → (day : ℕ) (holidays : List ℕ) (before after : History)
    (s t : Progress) (first : ℕ) (turn now : Option ℕ) (sums : List DaySum)
    (added : List Obligation)
    → All (λ d. d < holidays_end) (holidays_of s.holidays.now)
    → (st : Stands form day holidays before after (repairing s (stage.Rest first turn)))
    → AreSumsOf after s.asked sums
    → SumsRise s.asked.from s.asked.to sums
    → Found form st.old s.asked s.held.items first turn (s.held.items ++ sums) now
    → AreOwed (due_date (holidays_of s.holidays.now)) (liability (s.held.items ++ sums))
    (periods form (semiweekly_from (with_turn st.old now))) first (s.asked.to + 1) added
    → t.lines.now ≡ s.lines.now → holidays_of t.holidays.now ≡ holidays_of s.holidays.now
    → t.from ≡ s.from → t.years.items ≡ s.years.items → t.rows.items ≡ s.rows.items ++ added
    → IsSettledYear form day holidays before after t (with_turn st.old now)
rest_settled form day holidays before after s t first turn now sums added known0 st agree0 rise
    found owed0 lines calendar from years rows =
    let c = st.common.change in
    let old = st.old in
    let M = liability after.sums in
    let all : List DaySum = s.held.items ++ sums in
    let n : YearLine = with_turn old now in
    let known : All (λ d. d < holidays_end) holidays =
    subst (λ (z : List ℕ). All (λ d. d < holidays_end) z) st.calendar known0 in
    let f = year_facts old.year found.begin found.end in
    let f2 = f.2 in
    let w = open_within form old s.asked s.held.items first turn found.begin found.end
    found.ready in
    let w0 = w.0 in let w1 = w.1 in
    let a_from = st.at.from in
    let a_to = st.at.to in
    let some = st.at.some in
    let b : ℕ = st.at.period.to in
    let held_rise : SumsRise first b s.held.items = (let e : s.asked.from - 1 ≡ b = omega arith in
    rw e at found.ready.rise) in
    let sums_rise : SumsRise (b + 1) (year_last old.year) sums = rw (a_from, a_to) at rise in
    let agree : (u v : ℕ) → first ≤ u → v ≤ year_last old.year → M u v ≡ liability all u v =
    joined_same after.sums first b (year_last old.year) s.held.items sums (omega arith)
    (omega arith) held_rise sums_rise st.at.sums
    (λ u v k m. agree0 u v (omega arith) (omega arith)) in
    let change = year_change day before after c old st.new st.common.year.is_old
    st.common.year.is_new st.common.year.same st.at.of_day.0 st.at.of_day.1 in
    let same = st.common.year.same in
    let opening : st.new.opening ≡ kind.Monthly = sym change.opening ∙ found.ready.monthly in
    let has_turn : HasTurn M st.new =
    elim change.is_new [
      | inl semi ↦ absurd (let z : ◌≡◌ kind.Semiweekly kind.Monthly = sym semi.0 ∙ opening in cc)
      | inr m ↦ m.1
    ] in
    let turn_is_now : st.new.turn ≡ now =
    elim (cases_turn turn) [
      | inl none ↦
          let is = rw none at found.now_is in
          let after_it = rw none at st.at.is_turn in
          let first_is = rw none at found.ready.is_first in
          let late : (v : ℕ) → st.new.turn ≡ Some v → first ≤ v =
          λ v e. (let k = rw e at after_it in omega arith) in
          let F = liability all in
          let ends : ℕ → Type 0 = λ z. (u v : ℕ) → first ≤ u → v ≤ year_last z → M u v ≡ F u v in
          let Q : ℕ → Type 0 = λ z. IsTurnOf F first z now in
          let found_now : IsTurnOf F first (year_last st.new.year) now =
          subst Q (a_to ∙ ap year_last same) is in
          let T : ℕ → Type 0 = λ z. year_last z ≤ last_day in
          let S : ℕ → Type 0 = λ z. year_start z ≤ first in
          let top : year_last old.year ≤ last_day = omega arith in
          turn_found M F st.new first now (subst T same top) has_turn (
            month_of (s.asked.from - 1),
            first_is,
          ) (subst S same w0) late (subst ends same agree) found_now
      | inr is ↦ (let e = rw is.1 at found.now_is in let g = rw is.1 at st.at.is_turn in g ∙ sym e)
    ] in
    let one : st.new ≡ n = line_same n st.new change.same change.opening turn_is_now in
    let has : Has after.lines n = subst (λ (z : YearLine). Has after.lines z) one
    st.common.year.is_new in
    let common = subst (λ (z : YearLine). StandsIn form day holidays before after s.lines.now s.from
    s.years.items old z) one st.common in
    let whole = rest_whole form old s.asked s.held.items first turn all now found in
    let agree_to : (u v : ℕ) → first ≤ u → v ≤ s.asked.to → M u v ≡ liability all u v =
    λ u v k m. agree u v k (omega arith) in
    let owed =
    subst (λ (v : List ℕ). AreOwed (due_date v) (liability all) (periods form (semiweekly_from n))
    first (s.asked.to + 1) added) st.calendar owed0 in
    let here0 = rows_are form after holidays n all first s.asked.to added known c.is_after has
    whole.from whole.to whole.divides agree_to owed in
    let here : AreRows form after holidays first (year_last old.year + 1) added =
    rw a_to at here0 in
    record {
      old = old;
      common = rw (lines, from, years) common;
      calendar = calendar ∙ st.calendar;
      known = known;
      differs = λ e. st.at.differs (ap (λ (v : YearLine). v.turn) (sym (one ∙ e)));
      day_before = st.at.of_day.1;
      rows = rw (from, rows) (rows_append form after holidays s.from first (year_last old.year + 1)
          s.rows.items added st.at.reached (omega arith) st.at.rows here);
    }
