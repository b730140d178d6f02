-- How a repair goes on from the end of a year whose line differs.
use Rattle.ftd_rules.specs.declared.Form.{Form}
use Rattle.std.proofs.Common.{◌≡◌, ℕ, ◌+◌, ◌≤◌, ◌↔◌, inl, inr, List, [], ◌∷◌, ◌++◌, Bool, sym, ap}
use Rattle.std.proofs.Common.{◌∙◌, subst, arith, rules, append_assoc}
use Rattle.std.specs.Prelude.{IsTrue, is_some}
use Rattle.ftd_days.specs.Calendar.{year_start}
use Rattle.ftd_rules.specs.declared.YearLine.{YearLine}
use Rattle.ftd_rules.specs.declared.Kind.{Kind}
use Rattle.ftd_rules.specs.declared.Kind.TheVariants as kind
use Rattle.ftd_rules.specs.Liability.{liability}
use Rattle.ftd_rules.specs.Lists.{Has}
use Rattle.ftd_rules.specs.Years.{YearsFrom, basis_of, year_last, TurnedBefore}
use Rattle.ftd_rules.specs.Private.Years.{OpensBy, IsScheduled}
use Rattle.ftd_rules.proofs.Schedules.{year_facts, year_start-mono, line_one}
use Rattle.ftd_rules.proofs.Covering.{line_is}
use Rattle.ftd_rules.proofs.Earlier.{counterpart}
use Rattle.ftd_rules.proofs.Stated.{cases_kind}
use Rattle.ftd_buckets.specs.declared.Window.{Window}
use Rattle.ftd_buckets.specs.declared.Patch.{Patch}
use Rattle.ftd_buckets.specs.declared.state.Progress.{Progress}
use Rattle.ftd_buckets.specs.declared.state.Stage.TheVariants as stage
use Rattle.ftd_buckets.specs.Histories.{History, IsChange, AreLast}
use Rattle.ftd_buckets.specs.Windows.{IsYearOf, IsNeeded, IsNext}
use Rattle.ftd_buckets.specs.Patches.{AreRows, IsPatch, Replaces}
use Rattle.ftd_buckets.specs.Ready.{Repairing}
use Rattle.ftd_buckets.specs.Standing.{Stands, AreChangedBefore}
use Rattle.ftd_buckets.specs.Private.Answered.{IsSettledYear}
use Rattle.ftd_buckets.proofs.Chain.{change_back, later_same, opening_line}
use Rattle.ftd_buckets.proofs.Begun.{last_has}
use Rattle.ftd_buckets.proofs.Years.{SameAfter, next_year, owed_after, needed_after, none_needed}
use Rattle.ftd_buckets.proofs.Years.{all_changed, one_changed}

pub same_after_back : (day : ℕ) (g h : History) (year : ℕ) → IsChange day g h → SameAfter g h year
    → SameAfter h g year
same_after_back day g h year c same line has later =
    let k = counterpart h.lines g.lines line (sym c.same_years) has in
    let y : line.year ≡ k.0.year = ap (λ (z : ℕ × ℕ × Bool). z.0) k.2 in
    let in_h = same k.0 k.1 (omega arith) in
    let years = c.is_after.years in
    let one : k.0 ≡ line = line_one years.0 h.lines k.0 line years.2 in_h has (sym y) in
    subst (λ (z : YearLine). Has g.lines z) one k.1

-- nothing more differs: the patch is done
pub settled_done : (form : Form) → (day : ℕ) (holidays : List ℕ) (before after : History)
    (s : Progress) (asked : Window) (new : YearLine) (patch : Patch)
    → (k : IsSettledYear form day holidays before after s new)
    → asked.to ≡ year_last k.old.year → SameAfter before after k.old.year
    → patch.from ≡ s.from → patch.to ≡ asked.to → patch.rows ≡ s.rows.items
    → patch.years ≡ s.years.items ++ (new ∷ [])
    → IsPatch form day before after holidays asked patch
    × ((w : Window) → IsNeeded form day before after w → w.from ≤ asked.to)
settled_done form day holidays before after s asked new patch k ends same from to rows years =
    let c = k.common.change in
    let old = k.old in
    let y = line_is before.lines before.sums old c.is_before k.common.year.is_old in
    let back = same_after_back day before after old.year c same in
    let changed = one_changed before after old new s.years.items c.is_before.years c.is_after.years
    k.common.year k.differs
    k.common.changed in
    let last : patch.to ≡ year_last old.year = to ∙ ends in
    let begins = from ∙ k.common.begins in
    let replaces : Replaces form before after holidays patch = record {
      rows = rw (from, last, rows) k.rows;
      years = rw years (all_changed before after old.year (s.years.items ++ (new ∷ []))
          changed back);
      elsewhere = λ o out. elim out [
        | inl less ↦ k.common.earlier o (omega arith)
        | inr more ↦ (
          owed_after form day before after holidays old.year k.known c y.0 y.1 k.day_before
              same o
              (omega arith),
          owed_after form day after before holidays old.year k.known
              (change_back day before after c) y.0 y.1 k.day_before back o (omega arith),
        )
      ];
    } in (
      search rules,
      (λ w needed. (let q = none_needed form day before after old.year c y.0 y.1 k.day_before same w
          needed in omega arith)),
    )

-- the next year, before and after, and how it opens
pub record NextYear (before after : History) (old new next : YearLine) (rest : List YearLine)
    (opens : Kind) : Type 0 where
  pub next_new : YearLine
  pub year : IsYearOf before after next next_new
  pub number : next.year ≡ old.year + 1
  pub last : AreLast before (next ∷ rest)
  pub turned_if : IsTrue (is_some new.turn) → TurnedBefore after.lines next.year
  pub if_turned : TurnedBefore after.lines next.year → IsTrue (is_some new.turn)
  pub opening : next_new.opening ≡ opens

opens_same : (T U : Type 0) (L : ℕ → ℕ → ℕ) (line other : YearLine) (k : Kind)
    → basis_of line ≡ basis_of other → (T → U) → (U → T) → IsScheduled T L other
    → k ≡ kind.Semiweekly ↔ OpensBy U line → other.opening ≡ k
opens_same T U L line other k e f g h opens =
    let lookback : line.lookback.0 ≡ other.lookback.0 = ap (λ (z : ℕ × ℕ × Bool). z.1) e in
    let carried : line.carried ≡ other.carried = ap (λ (z : ℕ × ℕ × Bool). z.2) e in
    let there : OpensBy U line → OpensBy T other =
    λ o. elim o [
      | inl a ↦ inl (omega arith)
      | inr b ↦ elim b [
        | inl c ↦ inr (inl (sym carried ∙ c))
        | inr d ↦ inr (inr (g d))
      ]
    ] in
    let here : OpensBy T other → OpensBy U line =
    λ o. elim o [
      | inl a ↦ inl (omega arith)
      | inr b ↦ elim b [
        | inl c ↦ inr (inl (carried ∙ c))
        | inr d ↦ inr (inr (f d))
      ]
    ] in
    elim h [
      | inl semi ↦ semi.0 ∙ sym (opens.1 (here semi.1))
      | inr monthly ↦ elim (cases_kind k) [
        | inl is ↦ absurd (monthly.1 (there (opens.0 is)))
        | inr is ↦ monthly.0 ∙ sym is
      ]
    ]

pub next_of : (day : ℕ) (before after : History) → IsChange day before after
    → (old new next : YearLine) (rest : List YearLine) (opens : Kind)
    → IsYearOf before after old new
    → AreLast before (old ∷ next ∷ rest) → opens ≡ kind.Semiweekly ↔ OpensBy
    (IsTrue (is_some new.turn)) next → NextYear before after old new next rest opens
next_of day before after c old new next rest opens year last is =
    let years = c.is_before.years in
    let afters = c.is_after.years in
    let y = subst (λ (z : List YearLine). YearsFrom years.0 z) last.1 years.2 in
    let number = next_year years.0 last.0 old next rest y in
    let later : AreLast before (next ∷ rest) =
    (last.0 ++ (old ∷ []), last.1 ∙ sym (append_assoc last.0 (old ∷ []) (next ∷ rest))) in
    let has = last_has before next rest later in
    let k = counterpart before.lines after.lines next c.same_years has in
    let same : next.year ≡ k.0.year = ap (λ (z : ℕ × ℕ × Bool). z.0) k.2 in
    let equal = year.same in
    let turned_if : IsTrue (is_some new.turn) → TurnedBefore after.lines next.year =
    λ t. (new, year.is_new, omega arith, t) in
    let if_turned : TurnedBefore after.lines next.year → IsTrue (is_some new.turn) =
    λ t. (let t2 = t.2 in
    let one : t.0 ≡ new = line_one afters.0 after.lines t.0 new afters.2 t.1 year.is_new
    (omega arith) in
    subst (λ (z : YearLine). IsTrue (is_some z.turn)) one t.3) in
    let P : ℕ → Type 0 = λ z. IsScheduled (TurnedBefore after.lines z) (liability after.sums) k.0 in
    let h = subst P (sym same) (c.is_after.schedules k.0 k.1) in
    record {
      next_new = k.0;
      year = record { is_old = has; is_new = k.1; same = same };
      number = number;
      last = later;
      turned_if = turned_if;
      if_turned = if_turned;
      opening = opens_same (TurnedBefore after.lines next.year) (IsTrue (is_some new.turn))
          (liability after.sums) next k.0 opens k.2 if_turned turned_if h is;
    }

-- where it opens as before, no later line differs
pub same_next : (day : ℕ) (before after : History) → IsChange day before after
    → (old new next : YearLine) (rest : List YearLine) (opens : Kind)
    → NextYear before after old new next rest opens
    → 2001 ≤ old.year → old.year ≤ 2098 → day ≤ year_last old.year → opens ≡ next.opening
    → SameAfter before after old.year
same_next day before after c old new next rest opens n l m to same = λ line has later.
    let y = line_is before.lines before.sums next c.is_before n.year.is_old in
    let f = year_facts old.year l m in
    let f3 = f.3 in
    let number = n.number in
    let g = year_facts next.year y.0 y.1 in
    let g1 = g.1 in
    let start : year_start next.year ≡ year_start (old.year + 1) = ap year_start number in
    let equal = opening_line day before after c next n.next_new n.year.is_old n.year.is_new
    n.year.same (omega arith) (sym (n.opening ∙ same)) in
    let kept : Has after.lines next = subst (λ (z : YearLine). Has after.lines z) equal
    n.year.is_new in
    later_same day before after c next n.year.is_old kept (omega arith) line has (omega arith)

-- where it does not, it is the next window
pub settled_next : (form : Form) → (day : ℕ) (holidays : List ℕ) (before after : History)
    (s : Progress) (asked : Window) (new next : YearLine) (rest : List YearLine) (opens : Kind)
    (r : Repairing)
    → (k : IsSettledYear form day holidays before after s new) → asked.to ≡ year_last k.old.year
    → NextYear before after k.old new next rest opens → (opens ≡ next.opening → ⊥)
    → r.lines ≡ next ∷ rest → r.holidays ≡ holidays → r.from ≡ s.from
    → r.asked ≡ record { from = year_start next.year; to = year_last next.year }
    → r.rows ≡ s.rows.items → r.years ≡ s.years.items ++ (new ∷ [])
    → r.stage ≡ stage.Year (is_some new.turn)
    → Stands form day holidays before after r × IsNext form day before after asked r.asked
settled_next form day holidays before after s asked new next rest opens r k ends n other lines
    calendar from window rows years at =
    let c = k.common.change in
    let old = k.old in
    let y = line_is before.lines before.sums old c.is_before k.common.year.is_old in
    let z = line_is before.lines before.sums next c.is_before n.year.is_old in
    let f = year_facts old.year y.0 y.1 in
    let f3 = f.3 in
    let number = n.number in
    let day_before = k.day_before in
    let g = year_facts next.year z.0 z.1 in
    let g1 = g.1 in
    let start : year_start next.year ≡ year_start (old.year + 1) = ap year_start number in
    let w_from : r.asked.from ≡ year_start next.year = ap (λ (v : Window). v.from) window in
    let w_to : r.asked.to ≡ year_last next.year = ap (λ (v : Window). v.to) window in
    let differs : next.opening ≡ n.next_new.opening → ⊥ = λ e. other (sym (e ∙ n.opening)) in
    let changed0 = one_changed before after old new s.years.items c.is_before.years c.is_after.years
    k.common.year k.differs
    k.common.changed in
    let changed : AreChangedBefore before after next.year r.years = rw (number, years) changed0 in
    let rows_to : AreRows form after holidays s.from (year_start next.year) s.rows.items =
    (let e : year_last old.year + 1 ≡ year_start next.year = f3 ∙ sym start in rw e at k.rows) in (
      record {
        old = next;
        new = n.next_new;
        common = record {
          change = c;
          later = rest;
          lines_are = lines;
          last = rw lines n.last;
          year = n.year;
          period = k.common.period;
          is_period = k.common.is_period;
          begins = from ∙ k.common.begins;
          earlier = λ o l. k.common.earlier o (omega arith);
          changed = changed;
        };
        at = rw at (record {
          later = omega arith;
          from = w_from;
          to = w_to;
          differs = differs;
          turned_if = n.turned_if;
          if_turned = n.if_turned;
          rows = rw (from, w_from, rows) rows_to;
        });
        calendar = calendar;
      },
      record {
        needed = inr (inr (record {
          old = next;
          new = n.next_new;
          year = n.year;
          later = omega arith;
          differs = differs;
          from = w_from;
          to = w_to;
        }));
        later = omega arith;
        least = λ w needed past.
            let q = needed_after form day before after old.year c y.0 y.1 day_before w needed
            (omega arith) in
            let q3 = q.3 in let q5 = q.5 in
            let mono = year_start-mono next.year q.0.year (omega arith) in
            omega arith;
      },
    )
