-- The deposit period of the changed day, cut where its year turns after the change.
use Rattle.ftd_rules.specs.declared.Form.{Form}
use Rattle.std.proofs.Common.{◌≡◌, ℕ, ◌+◌, ◌-◌, ◌<◌, ◌≤◌, inl, inr, List, ◌++◌, refl, sym, ap, ◌∙◌}
use Rattle.std.proofs.Common.{subst, arith, rules, take, drop, ◌∷◌, slice_index_or}
use Rattle.std.specs.Prelude.{Option, None, Some}
use Rattle.std.specs.List.{All}
use Rattle.std.proofs.lemmas.Bool.{lt-ltb}
use Rattle.std.proofs.lemmas.List.{take-append-drop}
use Rattle.ftd_days.specs.Calendar.{month_of, month_start, year_start}
use Rattle.ftd_days.specs.Business.{holidays_end}
use Rattle.ftd_days.specs.Holidays.{holidays_of}
use Rattle.ftd_days.proofs.Months.{month_of_only, month_start-end}
use Rattle.ftd_rules.specs.declared.DaySum.{DaySum}
use Rattle.ftd_rules.specs.declared.Rule.{Rule}
use Rattle.ftd_rules.specs.declared.YearLine.{YearLine}
use Rattle.ftd_rules.specs.declared.Obligation.{Obligation}
use Rattle.ftd_rules.specs.declared.Kind.TheVariants as kind
use Rattle.ftd_rules.specs.Liability.{liability, SumsRise}
use Rattle.ftd_rules.specs.Lists.{Has}
use Rattle.ftd_rules.specs.Years.{year_last}
use Rattle.ftd_rules.specs.Private.Years.{semiweekly_from}
use Rattle.ftd_rules.specs.Periods.{IsPeriod}
use Rattle.ftd_rules.specs.Private.Walk.{due_date, Periods, AreOwed, Divides, periods, period_first}
use Rattle.ftd_rules.specs.Private.Walk.{period_last, years_end}
use Rattle.ftd_rules.proofs.Walk.{liability_none}
use Rattle.ftd_rules.proofs.Along.{upto, cut_here, cut_later, liability-append, liability_over}
use Rattle.ftd_rules.proofs.Schedules.{year_facts, year_divides, cases_turn, turn_is, from_turn}
use Rattle.ftd_rules.proofs.Schedules.{from_none}
use Rattle.ftd_rules.proofs.Pieces.{IsYear, by_first_day}
use Rattle.ftd_rules.proofs.Covering.{line_is}
use Rattle.ftd_buckets.specs.declared.Window.{Window}
use Rattle.ftd_buckets.specs.declared.state.Progress.{Progress}
use Rattle.ftd_buckets.specs.declared.state.Stage.TheVariants as stage
use Rattle.ftd_buckets.specs.declared.turn.TurnNow.TheVariants as now
use Rattle.ftd_buckets.specs.Histories.{History, TurnsWithin}
use Rattle.ftd_buckets.specs.Windows.{IsPeriodOf, IsNext}
use Rattle.ftd_buckets.specs.Patches.{AreRows, AreSumsOf}
use Rattle.ftd_buckets.specs.Ready.{Repairing, repairing, open_from, ReadyRest, IsReady}
use Rattle.ftd_buckets.specs.Private.Ready.{with_turn, IsWhole}
use Rattle.ftd_buckets.specs.Private.Turned.{IsTurnNow, IsWithin}
use Rattle.ftd_buckets.specs.Standing.{Stands, StandsIn}
use Rattle.ftd_buckets.specs.Private.Answered.{IsSettledYear}
use Rattle.ftd_buckets.proofs.Turns.{line_same, line_year, period_facts, monthly_facts}
use Rattle.ftd_buckets.proofs.Begun.{day_period, ready_line, line_read}
use Rattle.ftd_buckets.proofs.Chain.{year_change}
use Rattle.ftd_buckets.proofs.Places.{rise_within, rows_are}
use Rattle.ftd_buckets.proofs.Joined.{divides_from, divides_before, first_first}

-- a deposit period is whole
pub whole_period : (form : Form) → (line : YearLine) (a b : ℕ) → IsYear line
    → IsPeriod form line a b → IsWhole form line a b
whole_period form line a b y p =
    let k = period_facts form line a b y p in
    let k2 = k.2 in let k3 = k.3 in let k4 = k.4 in
    let s = semiweekly_from line in
    let divides = year_divides form line y.0 y.1 y.2 in
    let x = divides a k3 (omega arith) in
    record {
      from = k3;
      to = k4;
      some = omega arith;
      divides = λ d l m.
          let same = x.4 d (let e = k.0 in omega arith) (let e = k.1 in omega arith) in
          let z = divides d (omega arith) (omega arith) in
          let s0 = same.0 in let s1 = same.1 in let e0 = k.0 in let e1 = k.1 in
          (omega arith, z.1, z.2, omega arith, z.4);
    }

pub ready_whole : (s : Progress) → (h : IsReady (repairing s stage.Period))
    → IsWhole s.form h.line s.asked.from s.asked.to
ready_whole s h =
    let l = ready_line (repairing s stage.Period) h in
    whole_period s.form h.line s.asked.from s.asked.to (line_year h.line l.0 l.1 l.2).0 h.at.0

pub read_whole : (s : Progress) → (h : IsReady (repairing s stage.Period)) → (d : YearLine)
    → IsWhole s.form (slice_index_or s.lines.now 0 d) s.asked.from s.asked.to
read_whole s h d = subst (λ (z : YearLine). IsWhole s.form z s.asked.from s.asked.to)
    (sym (line_read h d)) (ready_whole s h)

-- the period of a year that was monthly there, and turns otherwise now
pub record Split (form : Form) (line : YearLine) (a b : ℕ) (turn : Option ℕ) : Type 0 where
  pub year : IsYear line
  pub period : IsPeriod form line a b
  pub within : IsWithin line a b (now.Changed turn)

pub split_turn : (form : Form) → (line : YearLine) (a b : ℕ) (turn : Option ℕ)
    → Split form line a b turn → TurnsWithin (with_turn line turn)
split_turn form line a b turn h =
    let k = period_facts form line a b h.year h.period in
    let k3 = k.3 in let k4 = k.4 in
    elim (cases_turn turn) [
      | inl none ↦ rw none tt
      | inr is ↦ (let w = rw is.1 at h.within.2 in let w0 = w.0 in let w1 = w.1 in
          rw is.1 (h.within.0, omega arith, omega arith))
    ]

-- under the new turn too, it begins a period
pub record Cut (form : Form) (line : YearLine) (a b : ℕ) (turn : Option ℕ) : Type 0 where
  pub from : year_start line.year ≤ a
  pub some : a ≤ b
  pub to : b ≤ year_last line.year
  pub year : IsYear (with_turn line turn)
  pub monthly : a < semiweekly_from (with_turn line turn)
  pub month : a ≡ month_start (month_of a)
  pub month_ends : b < month_start (month_of a + 1)
  pub starts : period_first form (semiweekly_from (with_turn line turn)) a ≡ a
  pub divides : Divides (periods form (semiweekly_from (with_turn line turn))) a
      (year_last line.year)

pub cut_of : (form : Form) → (line : YearLine) (a b : ℕ) (turn : Option ℕ)
    → Split form line a b turn → Cut form line a b turn
cut_of form line a b turn h =
    let n : YearLine = with_turn line turn in
    let k = period_facts form line a b h.year h.period in
    let k2 = k.2 in let k3 = k.3 in let k4 = k.4 in
    let m = monthly_facts form line a b h.year h.period h.within.1 in
    let y = (line_year n h.year.0 h.year.1 (split_turn form line a b turn h)).0 in
    let monthly : a < semiweekly_from n =
    elim (cases_turn turn) [
      | inl none ↦ (let e = from_none n h.within.0 none in omega arith)
      | inr is ↦ (let w = rw is.1 at h.within.2 in let w0 = w.0 in
          let e = from_turn n is.0 h.within.0 is.1 in omega arith)
    ] in
    let first : period_first form (semiweekly_from n) a ≡ month_start (month_of a) =
    rw (lt-ltb a (semiweekly_from n) monthly) refl in
    let starts : period_first form (semiweekly_from n) a ≡ a = first ∙ sym m.0 in
    let divides = divides_from (periods form (semiweekly_from n)) (year_start line.year)
    (year_last line.year) a (year_divides form n y.0 y.1 y.2) k3 starts in
    search rules

pub whole_last : (form : Form) → (line : YearLine) (a b : ℕ) (turn : Option ℕ)
    → Cut form line a b turn → b ≡ year_last line.year → IsWhole form (with_turn line turn) a b
whole_last form line a b turn h e =
    let some = h.some in
    let D : ℕ → Type 0 = λ z. Divides (periods form (semiweekly_from (with_turn line turn))) a z in
    record { from = h.from; to = h.to; some = omega arith; divides = subst D (sym e) h.divides }

-- so it is of the period that a state asks for, where its year turns otherwise
pub record Turning (s : Progress) (turn : Option ℕ) (line : YearLine) : Type 0 where
  pub split : Split s.form line s.asked.from s.asked.to turn
  pub cut : Cut s.form line s.asked.from s.asked.to turn
  pub early : 7 ≤ s.asked.from
  pub some : s.asked.from ≤ s.asked.to
  pub late : s.asked.to < years_end

pub turning : (s : Progress) (turn : Option ℕ) → (h : IsReady (repairing s stage.Period))
    → ((line : YearLine) (later : List YearLine) → s.lines.now ≡ line ∷ later
    → IsWithin line s.asked.from s.asked.to (now.Changed turn))
    → Turning s turn h.line
turning s turn h within =
    let l = ready_line (repairing s stage.Period) h in
    let f = year_facts h.line.year l.0 l.1 in
    let f0 = f.0 in let f2 = f.2 in
    let split : Split s.form h.line s.asked.from s.asked.to turn =
    record {
      year = (line_year h.line l.0 l.1 l.2).0;
      period = h.at.0;
      within = within h.line h.later h.lines_are;
    } in
    let cut = cut_of s.form h.line s.asked.from s.asked.to turn split in
    let from = cut.from in let some = cut.some in let to = cut.to in
    record {
      split = split;
      cut = cut;
      early = omega arith;
      some = some;
      late = omega arith;
    }

-- the first day of the period that goes on
pub open_first : (form : Form) → (line : YearLine) (a b : ℕ) (turn : Option ℕ)
    → Cut form line a b turn
    → (a ≤ period_first form (semiweekly_from (with_turn line turn)) b)
    × (period_first form (semiweekly_from (with_turn line turn)) b ≤ b)
open_first form line a b turn h = (let x = h.divides b h.some h.to in (x.0, x.1))

pub whole_before : (form : Form) → (line : YearLine) (a b first : ℕ) (turn : Option ℕ)
    → Cut form line a b turn → 0 < a → first ≡ period_first form
    (semiweekly_from (with_turn line turn)) b → IsWhole form (with_turn line turn) a (first - 1)
whole_before form line a b first turn h some e =
    let p = periods form (semiweekly_from (with_turn line turn)) in
    let w = open_first form line a b turn h in
    let w0 = w.0 in let w1 = w.1 in let to = h.to in
    let own : p.first first ≡ first = ap p.first e
    ∙ (first_first p a (year_last line.year) b h.divides h.some to ∙ sym e) in
    record {
      from = h.from;
      to = omega arith;
      some = omega arith;
      divides = divides_before p a (year_last line.year) first h.divides (omega arith)
          (omega arith) own;
    }

-- where the turn has not come, that period is the month
pub open_is : (form : Form) → (line : YearLine) (a b : ℕ) (turn : Option ℕ)
    → Split form line a b turn → Cut form line a b turn
    → period_first form (semiweekly_from (with_turn line turn)) b ≡ open_from form turn b
open_is form line a b turn h k =
    let n : YearLine = with_turn line turn in
    let to = k.to in
    elim (cases_turn turn) [
      | inl none ↦
          (let e = from_none n h.within.0 none in
          let monthly : b < semiweekly_from n = omega arith in
          let first : period_first form (semiweekly_from n) b ≡ month_start (month_of b) =
          rw (lt-ltb b (semiweekly_from n) monthly) refl in
          first ∙ rw none refl)
      | inr is ↦ (let e = from_turn n is.0 h.within.0 is.1 in
          ap (λ z. period_first form z b) e ∙ rw is.1 refl)
    ]

pub rest_ready : (form : Form) → (line : YearLine) (a b first : ℕ) (turn : Option ℕ)
    (asked : Window) (sums : List DaySum) → Split form line a b turn → Cut form line a b turn
    → 0 < a → b < year_last line.year
    → first ≡ period_first form (semiweekly_from (with_turn line turn)) b → asked.from ≡ b + 1
    → asked.to ≡ year_last line.year → SumsRise a b sums
    → ReadyRest form line asked (drop (upto (first - 1) sums) sums) first turn
rest_ready form line a b first turn asked sums h k pos on e from to rise =
    let w = open_first form line a b turn k in
    let w0 = w.0 in let w1 = w.1 in
    let k0 = k.from in let k1 = k.some in
    let back : asked.from - 1 ≡ b = omega arith in
    let later = cut_later (first - 1) a b sums (omega arith) rise in
    let one : first - 1 + 1 ≡ first = omega arith in
    let later2 : SumsRise first b (drop (upto (first - 1) sums) sums) = rw one at later in
    record {
      monthly = h.within.0;
      from = omega arith;
      some = omega arith;
      to = to;
      within = elim (cases_turn turn) [
        | inl none ↦ rw none tt
        | inr is ↦ (let v = rw is.1 at h.within.2 in let v0 = v.0 in let v1 = v.1 in
            rw is.1 (omega arith, omega arith))
      ];
      is_first = rw back (e ∙ open_is form line a b turn h k);
      rise = rw back later2;
    }

-- the lines of the day's year after the change, where the turn that was told is the turn
turn_told : (form : Form) → (day : ℕ) (before after : History) (holidays : List ℕ) (s : Progress)
    (turn : Option ℕ) → (st : Stands form day holidays before after (repairing s stage.Period))
    → st.new.turn ≡ turn → st.new ≡ with_turn st.old turn
turn_told form day before after holidays s turn st e =
    let c = st.common.change in
    let change = year_change day before after c st.old st.new st.common.year.is_old
    st.common.year.is_new st.common.year.same st.at.of_day.0 st.at.of_day.1 in
    line_same (with_turn st.old turn) st.new change.same change.opening e

-- the period ends the year: the year is settled
pub last_settled : (form : Form) → (day : ℕ) (holidays : List ℕ) (before after : History)
    (s t : Progress) (turn : Option ℕ) (sums : List DaySum) (added : List Obligation)
    → All (λ d. d < holidays_end) (holidays_of s.holidays.now)
    → (st : Stands form day holidays before after (repairing s stage.Period))
    → AreSumsOf after s.asked sums
    → s.asked.to ≡ year_last st.old.year → IsWhole form (with_turn st.old turn) s.asked.from
    s.asked.to → IsTurnNow st.old st.new s.asked.to (now.Changed turn)
    → AreOwed (due_date (holidays_of s.holidays.now)) (liability sums)
    (periods form (semiweekly_from (with_turn st.old turn))) s.asked.from (s.asked.to + 1) added
    → t.lines.now ≡ s.lines.now → holidays_of t.holidays.now ≡ holidays_of s.holidays.now
    → t.from ≡ s.from → t.years.items ≡ s.years.items → t.rows.items ≡ s.rows.items ++ added
    → IsSettledYear form day holidays before after t (with_turn st.old turn)
last_settled form day holidays before after s t turn sums added known0 st agree ends whole told
    owed0 lines calendar from years rows =
    let c = st.common.change in
    let old = st.old in
    let n : YearLine = with_turn old turn in
    let known : All (λ d. d < holidays_end) holidays =
    subst (λ (z : List ℕ). All (λ d. d < holidays_end) z) st.calendar known0 in
    let change = year_change day before after c old st.new st.common.year.is_old
    st.common.year.is_new st.common.year.same st.at.of_day.0 st.at.of_day.1 in
    let same = st.common.year.same in
    let turn_is_now : st.new.turn ≡ turn =
    elim (cases_turn turn) [
      | inr is ↦ (let g = rw is.1 at told.1 in g ∙ sym is.1)
      | inl none ↦
          let after_it = rw none at told.1 in
          elim (cases_turn st.new.turn) [
            | inl never ↦ never ∙ sym none
            | inr some ↦
                let late = rw some.1 at after_it in
                absurd (elim change.is_new [
                  | inl semi ↦ (let z : ◌≡◌ {A = Option ℕ} None (Some some.0) = sym semi.1
                      ∙ some.1 in cc)
                  | inr m ↦ (let at = turn_is (liability after.sums) st.new some.0 some.1 m.1 in
                      let a1 = at.1 in
                      let P : year_last st.new.year ≡ year_last old.year =
                      ap year_last (sym same) in omega arith)
                ])
          ]
    ] in
    let one : st.new ≡ n = turn_told form day before after holidays s turn st turn_is_now in
    let has : Has after.lines n = subst (λ (z : YearLine). Has after.lines z) one
    st.common.year.is_new in
    let common = subst (λ (z : YearLine). StandsIn form day holidays before after s.lines.now s.from
    s.years.items old z) one st.common in
    let owed = subst (λ (v : List ℕ). AreOwed (due_date v) (liability sums)
    (periods form (semiweekly_from n)) s.asked.from (s.asked.to + 1) added) st.calendar owed0 in
    let here0 = rows_are form after holidays n sums s.asked.from s.asked.to added known c.is_after
    has whole.from whole.to whole.divides agree owed in
    let R : ℕ → Type 0 = λ z. AreRows form after holidays s.asked.from (z + 1) added in
    let here = subst R ends here0 in
    let empty : s.rows.items ++ added ≡ added = ap (λ z. z ++ added) st.at.rows in
    record {
      old = old;
      common = rw (lines, from, years) common;
      calendar = calendar ∙ st.calendar;
      known = known;
      differs = λ e. told.0 (ap (λ (v : YearLine). v.turn) (sym (one ∙ e)));
      day_before = st.at.of_day.1;
      rows = rw (from, rows, empty, st.at.from) here;
    }

-- no row begins in a run of no days
none_here : (form : Form) → (h : History) (holidays : List ℕ) (due : Rule → ℕ → ℕ) (L : ℕ → ℕ → ℕ)
    (p : Periods) (a : ℕ) (rows : List Obligation) → AreOwed due L p a a rows
    → AreRows form h holidays a a rows
none_here form h holidays due L p a rows owed = record {
  by_first_day = by_first_day a a rows owed.rise;
  all = λ o. (
    (λ k. absurd (let w = rise_within a a rows o owed.rise k in let w0 = w.0 in let w1 = w.1 in
        let w2 = w.2 in omega arith)),
    (λ w. absurd (let w1 = w.1 in let w2 = w.2 in omega arith)),
  );
}

-- the year goes on after the period: its rest is the next window
pub turned_next : (form : Form) → (day : ℕ) (holidays : List ℕ) (before after : History)
    (s : Progress) (turn : Option ℕ) (sums : List DaySum) (added : List Obligation) (first : ℕ)
    (r : Repairing)
    → All (λ d. d < holidays_end) (holidays_of s.holidays.now)
    → (st : Stands form day holidays before after (repairing s stage.Period))
    → AreSumsOf after s.asked sums → SumsRise s.asked.from s.asked.to sums
    → Split form st.old s.asked.from s.asked.to turn → 0 < s.asked.from
    → s.asked.to < year_last st.old.year → IsTurnNow st.old st.new s.asked.to (now.Changed turn)
    → first ≡ period_first form (semiweekly_from (with_turn st.old turn)) s.asked.to
    → AreOwed (due_date (holidays_of s.holidays.now))
    (liability (take (upto (first - 1) sums) sums))
    (periods form (semiweekly_from (with_turn st.old turn))) s.asked.from (first - 1 + 1) added
    → r.lines ≡ s.lines.now → r.holidays ≡ holidays → r.from ≡ s.from
    → r.asked ≡ record { from = s.asked.to + 1; to = year_last st.old.year }
    → r.rows ≡ s.rows.items ++ added → r.years ≡ s.years.items
    → r.held ≡ drop (upto (first - 1) sums) sums → r.stage ≡ stage.Rest first turn
    → Stands form day holidays before after r × IsNext form day before after s.asked r.asked
turned_next form day holidays before after s turn sums added first r known0 st agree rise split pos
    on told first_is owed0 lines calendar from window rows years held at =
    let c = st.common.change in
    let old = st.old in
    let n : YearLine = with_turn old turn in
    let a : ℕ = s.asked.from in
    let b : ℕ = s.asked.to in
    let M = liability after.sums in
    let known : All (λ d. d < holidays_end) holidays =
    subst (λ (z : List ℕ). All (λ d. d < holidays_end) z) st.calendar known0 in
    let cut = cut_of form old a b turn split in
    let k0 = cut.from in let k1 = cut.some in let k2 = cut.to in
    let whole = whole_before form old a b first turn cut pos first_is in
    let w = open_first form old a b turn cut in
    let w0 = w.0 in let w1 = w.1 in
    let one_more : first - 1 + 1 ≡ first = omega arith in
    let f = year_facts old.year split.year.0 split.year.1 in
    let f2 = f.2 in
    let change = year_change day before after c old st.new st.common.year.is_old
    st.common.year.is_new st.common.year.same st.at.of_day.0 st.at.of_day.1 in
    let same = st.common.year.same in
    let opening : st.new.opening ≡ kind.Monthly = sym change.opening ∙ split.within.0 in
    let front : List DaySum = take (upto (first - 1) sums) sums in
    let back : List DaySum = drop (upto (first - 1) sums) sums in
    let joined : front ++ back ≡ sums = take-append-drop (upto (first - 1) sums) sums in
    let parts : (u v : ℕ) → liability sums u v ≡ liability front u v + liability back u v =
    λ u v. ap (λ z. liability z u v) (sym joined) ∙ liability-append front back u v in
    let front_rise = cut_here (first - 1) a b sums rise in
    let back_rise = cut_later (first - 1) a b sums (omega arith) rise in
    let agree_back : AreSumsOf after (record { from = first; to = b }) back =
    λ u v l m. (let e = agree u v (omega arith) m in let q = parts u v in
    let none = liability_over a (first - 1) front u v front_rise (omega arith) in omega arith) in
    let agree_front : (u v : ℕ) → a ≤ u → v ≤ first - 1 → M u v ≡ liability front u v =
    λ u v l m. (let e = agree u v l (omega arith) in let q = parts u v in
    let none = liability_none (first - 1 + 1) b back u v back_rise (omega arith) in omega arith) in
    let owed = subst (λ (v : List ℕ). AreOwed (due_date v) (liability front)
    (periods form (semiweekly_from n)) a (first - 1 + 1) added) st.calendar owed0 in
    let here : AreRows form after holidays a first added =
    elim (cases_turn turn) [
      | inl none ↦
          let open_at : first ≡ month_start (month_of b) = first_is
          ∙ (open_is form old a b turn split cut ∙ rw none refl) in
          let month = cut.month in let month_ends = cut.month_ends in
          let end = month_start-end in
          let in_month : month_start (month_of b) ≡ month_start (month_of a) =
          ap month_start (month_of_only b (month_of a) (omega arith) (omega arith) (omega arith)) in
          let is_a : first ≡ a = omega arith in
          let empty : first - 1 + 1 ≡ a = omega arith in
          let O : ℕ → Type 0 = λ z. AreOwed (due_date holidays) (liability front)
          (periods form (semiweekly_from n)) a z added in
          let R : ℕ → Type 0 = λ z. AreRows form after holidays a z added in
          subst R (sym is_a) (none_here form after holidays (due_date holidays) (liability front)
          (periods form (semiweekly_from n)) a added (subst O empty owed))
      | inr is ↦
          let g = rw is.1 at told.1 in
          let one : st.new ≡ n = turn_told form day before after holidays s turn st
          (g ∙ sym is.1) in
          let has : Has after.lines n = subst (λ (z : YearLine). Has after.lines z) one
          st.common.year.is_new in
          let R : ℕ → Type 0 = λ z. AreRows form after holidays a z added in
          subst R one_more (rows_are form after holidays n front a (first - 1) added known
          c.is_after has whole.from whole.to whole.divides agree_front owed)
    ] in
    let first_new : first ≡ period_first form (semiweekly_from st.new) b =
    elim (cases_turn turn) [
      | inr is ↦
          let g = rw is.1 at told.1 in
          let one : st.new ≡ n = turn_told form day before after holidays s turn st
          (g ∙ sym is.1) in
          first_is ∙ ap (λ (z : YearLine). period_first form (semiweekly_from z) b) (sym one)
      | inl none ↦
          let open_at : first ≡ month_start (month_of b) = first_is
          ∙ (open_is form old a b turn split cut ∙ rw none refl) in
          let after_it = rw none at told.1 in
          let year_end : year_last st.new.year ≡ year_last old.year = ap year_last (sym same) in
          let monthly : b < semiweekly_from st.new =
          elim (cases_turn st.new.turn) [
            | inl never ↦ (let e = from_none st.new opening never in omega arith)
            | inr some ↦ (let late = rw some.1 at after_it in
                let e = from_turn st.new some.0 opening some.1 in omega arith)
          ] in
          open_at ∙ sym (rw (lt-ltb b (semiweekly_from st.new) monthly) refl)
    ] in
    let new_year = line_is after.lines after.sums st.new c.is_after st.common.year.is_new in
    let starts : year_start st.new.year ≡ year_start old.year = ap year_start (sym same) in
    let ends : year_last st.new.year ≡ year_last old.year = ap year_last (sym same) in
    let open_now : IsPeriodOf form st.new b
    (record { from = first; to = period_last form (semiweekly_from st.new) b }) =
    subst (λ (z : ℕ). IsPeriodOf form st.new b
    (record { from = z; to = period_last form (semiweekly_from st.new) b })) (sym first_new)
    (day_period form st.new b new_year (omega arith) (omega arith)) in
    let w_from : r.asked.from ≡ b + 1 = ap (λ (v : Window). v.from) window in
    let w_to : r.asked.to ≡ year_last old.year = ap (λ (v : Window). v.to) window in
    let empty : s.rows.items ++ added ≡ added = ap (λ z. z ++ added) st.at.rows in
    let begins = st.at.from in (
      record {
        old = old;
        new = st.new;
        common = rw (lines, from, years) st.common;
        at = rw at (record {
          of_day = st.at.of_day;
          period = s.asked;
          is_period = st.at.asked;
          from = w_from;
          to = w_to;
          some = omega arith;
          differs = told.0;
          last = period_last form (semiweekly_from st.new) b;
          is_open = open_now;
          reached = omega arith;
          is_turn = told.1;
          sums = rw held agree_back;
          rows = rw (from, rows, empty, begins) here;
        });
        calendar = calendar;
      },
      record {
        needed = inr (inl (record {
          period = s.asked;
          is_period = (old, st.common.year.is_old, st.at.asked);
          old = old;
          new = st.new;
          year = st.common.year;
          of_day = st.at.of_day;
          differs = told.0;
          from = w_from;
          to = w_to;
          some = omega arith;
        }));
        later = omega arith;
        least = λ v needed past. omega arith;
      },
    )
