-- How many obligations begin in a deposit period.
use Rattle.ftd_rules.specs.declared.Form.{Form}
use Rattle.std.proofs.Common.{◌≡◌, ℕ, ◌+◌, ◌-◌, ◌<◌, ◌≤◌, ◌%◌, ◌⊎◌, inl, inr, List, [], ◌∷◌, length}
use Rattle.std.proofs.Common.{refl, sym, ap, ◌∙◌, subst, arith}
use Rattle.std.specs.Prelude.{min}
use Rattle.std.proofs.lemmas.Bool.{lt-ltb, le-ltb, cases_lt}
use Rattle.ftd_days.specs.Calendar.{month_of, month_start}
use Rattle.ftd_days.specs.Private.Intervals.{interval_close}
use Rattle.ftd_days.proofs.Months.{month_of_only, month_start-end}
use Rattle.ftd_rules.specs.declared.Rule.{Rule}
use Rattle.ftd_rules.specs.declared.YearLine.{YearLine}
use Rattle.ftd_rules.specs.declared.Obligation.{Obligation}
use Rattle.ftd_rules.specs.Lists.{Has}
use Rattle.ftd_rules.specs.Obligations.{ByFirstDay, pieces}
use Rattle.ftd_rules.specs.Liability.{liability}
use Rattle.ftd_rules.specs.Stops.{Rise, next_day_amount}
use Rattle.ftd_rules.specs.Private.Years.{semiweekly_from}
use Rattle.ftd_rules.specs.Periods.{IsPeriod, return_period_of, return_period_end}
use Rattle.ftd_rules.specs.Private.Periods.{rule_on}
use Rattle.ftd_rules.specs.Private.Walk.{period_last}
use Rattle.ftd_rules.proofs.Stated.{period_run, piece_owed}
use Rattle.ftd_rules.specs.Private.Periods.{IsStretch}
use Rattle.ftd_rules.proofs.Cuts.{cuts_from_stops}
use Rattle.ftd_rules.proofs.Schedules.{year_facts, year_only, line_one, cases_turn, turn_is}
use Rattle.ftd_rules.proofs.Schedules.{from_semiweekly, from_turn}
use Rattle.ftd_rules.proofs.Covering.{line_is, piece_within, within_period, period_same}
use Rattle.ftd_buckets.specs.Histories.{History, IsHistory}
use Rattle.ftd_buckets.specs.Patches.{AreRows}
use Rattle.ftd_buckets.proofs.Turns.{period_facts, monthly_facts}

-- rows that begin on different days of a run are no more than its days
pub few : (a b : ℕ) (rows : List Obligation) → ByFirstDay rows
    → ((o : Obligation) → Has rows o → (a ≤ o.first) × (o.first < b)) → length rows ≤ b - a
few a b [] h f = omega arith
few a b (o ∷ rows) h f =
    let here = f o (inl refl) in
    let h0 = here.0 in let h1 = here.1 in
    let rest = few (o.first + 1) b rows h.1 (λ p k. (let l = h.0 p k in let w = f p (inr k) in
    let w1 = w.1 in (omega arith, w1))) in
    omega arith

-- an interval has at most four days
close_near : (d : ℕ) → interval_close d ≤ d + 3
close_near d =
    elim (cases_lt ((d + 5) % 7) 3) [
      | inl y ↦ rw (lt-ltb ((d + 5) % 7) 3 y) (omega arith)
      | inr y ↦ rw (le-ltb ((d + 5) % 7) 3 y) (omega arith)
    ]

pub four_rows : (form : Form) → (h : History) (holidays : List ℕ) (line : YearLine) (first last : ℕ)
    (rows : List Obligation) → IsHistory h → Has h.lines line
    → IsPeriod form line first last → semiweekly_from line ≤ first → AreRows form h holidays first
    (last + 1) rows → length rows ≤ 4
four_rows form h holidays line first last rows is has period semi are =
    let y = line_is h.lines h.sums line is has in
    let k = period_facts form line first last y period in
    let k1 = k.1 in
    let e : period_last form (semiweekly_from line) first ≡ min
    (return_period_end form (return_period_of form first) - 1) (interval_close first) =
    rw (le-ltb first (semiweekly_from line) semi) refl in
    let near = close_near first in
    let q = few first (last + 1) rows are.by_first_day (λ o m. let w = (are.all o).0 m in
    (w.1, w.2)) in
    omega arith

first_piece : (rule : Rule) (a b : ℕ) (stops : List ℕ) (p : ℕ × ℕ × Rule) → Rise a b stops
    → Has (pieces rule a b stops) p
    → (p.0 ≡ a) ⊎ ((s : ℕ) × (rest : List ℕ) × (stops ≡ s ∷ rest) × (s < p.0))
first_piece rule a b [] p h (inl e) = inl (ap (λ (z : ℕ × ℕ × Rule). z.0) e)
first_piece rule a b [] p h (inr never) = absurd never
first_piece rule a b (s ∷ stops) p h (inl e) = inl (ap (λ (z : ℕ × ℕ × Rule). z.0) e)
first_piece rule a b (s ∷ stops) p h (inr k) = (let w = piece_within rule (s + 1) b stops p h.2 k in
    let w0 = w.0 in inr (s, stops, refl, omega arith))

-- a monthly period has no stop before its last day, since its year would turn there
no_stop : (form : Form) → (h : History) (line : YearLine) (first last s : ℕ) → IsHistory h
    → Has h.lines line → IsPeriod form line first last → first < semiweekly_from line
    → first ≤ s → s < last → next_day_amount ≤ liability h.sums first s → ⊥
no_stop form h line first last s is has period monthly l m big =
    let y = line_is h.lines h.sums line is has in
    let f = year_facts line.year y.0 y.1 in
    let f2 = f.2 in
    let k = period_facts form line first last y period in
    let k3 = k.3 in let k4 = k.4 in
    let n = monthly_facts form line first last y period monthly in
    let n0 = n.0 in let n1 = n.1 in let n2 = n.2 in
    let end = month_start-end in
    let same : month_start (month_of s) ≡ month_start (month_of first) =
    ap month_start (month_of_only s (month_of first) (omega arith) (omega arith) (omega arith)) in
    let total : liability h.sums (month_start (month_of s)) s ≡ liability h.sums first s =
    ap (λ z. liability h.sums z s) (same ∙ sym n0) in
    elim (is.schedules line has) [
      | inl semi ↦ (let e = from_semiweekly line semi.0 in omega arith)
      | inr its ↦ elim (cases_turn line.turn) [
        | inl none ↦ (let calm = rw none at its.2 in
            let small = calm s (omega arith) (omega arith) in omega arith)
        | inr some ↦
            (let e = from_turn line some.0 its.0 some.1 in
            let at = turn_is (liability h.sums) line some.0 some.1 its.2 in
            let small = at.0.first s (omega arith) (omega arith) in omega arith)
      ]
    ]

pub one_row : (form : Form) → (h : History) (holidays : List ℕ) (line : YearLine) (first last : ℕ)
    (rows : List Obligation) → IsHistory h → Has h.lines line
    → IsPeriod form line first last → first < semiweekly_from line → AreRows form h holidays first
    (last + 1) rows → length rows ≤ 1
one_row form h holidays line first last rows is has period monthly are =
    let begins : (o : Obligation) → Has rows o → (first ≤ o.first) × (o.first < first + 1) =
    λ o m.
    (let w = (are.all o).0 m in
    let owed = piece_owed form h.lines h.sums holidays o w.0 in
    let w1 = w.1 in let w2 = w.2 in
    let y = line_is h.lines h.sums line is has in
    let z = line_is h.lines h.sums owed.line is owed.open_year in
    let inside = within_period form h.lines h.sums holidays o owed in
    let i0 = inside.0 in let i1 = inside.1 in let i2 = inside.2 in
    let p1 = period.1 in let p2 = period.2 in
    let q1 = owed.period.1 in let q2 = owed.period.2 in
    let years = is.years in
    let same_year = year_only owed.line.year line.year o.first z.0 z.1 y.0 y.1 (omega arith)
    (omega arith) (omega arith) (omega arith) in
    let one : owed.line ≡ line = line_one years.0 h.lines owed.line line years.2 owed.open_year has
    same_year in
    let its = subst (λ (v : YearLine). IsStretch form v owed.first owed.last) one owed.period in
    let a = period_same form h.lines h.sums line o.first first last is has
    (period_run form line first last period) w1 (omega arith) in
    let b = period_same form h.lines h.sums line o.first owed.first owed.last is has its i0
    (omega arith) in
    let a0 = a.0 in let b0 = b.0 in let a1 = a.1 in let b1 = b.1 in (
      w1,
      elim (first_piece (rule_on (semiweekly_from owed.line) owed.first) owed.first owed.last
          owed.stops (o.first, o.last, o.rule) owed.are_stops.rise owed.piece) [
            | inl e ↦ omega arith
            | inr s ↦
                let cuts = cuts_from_stops (liability h.sums) owed.first owed.last owed.stops
                owed.are_stops in
                let c = rw s.2 at cuts in
                let c0 = c.0 in let c3 = c.3 in let s3 = s.3 in
                let same_first : owed.first ≡ first = omega arith in
                let big : next_day_amount ≤ liability h.sums first s.0 =
                (let k = ap (λ v. liability h.sums v s.0) same_first in omega arith) in
                absurd (no_stop form h line first last s.0 is has period monthly (omega arith)
                (omega arith) big)
          ],
    )) in
    let q = few first (first + 1) rows are.by_first_day begins in
    omega arith
