-- Which obligations a change of one day's runs leaves as they are.
use Rattle.ftd_rules.specs.declared.Form.{Form}
use Rattle.std.proofs.Common.{◌≡◌, ℕ, ◌+◌, ◌<◌, ◌≤◌, ◌⊎◌, inl, inr, List, Bool, refl, sym, ap}
use Rattle.std.proofs.Common.{◌∙◌, subst, arith}
use Rattle.std.specs.Prelude.{Option, None, Some}
use Rattle.std.specs.List.{All}
use Rattle.std.proofs.lemmas.Bool.{cases_lt}
use Rattle.ftd_days.specs.Calendar.{last_day, month_of, month_start, year_start}
use Rattle.ftd_days.specs.Business.{holidays_end}
use Rattle.ftd_days.proofs.Months.{month_of_is, month_start-mono, month_start-end}
use Rattle.ftd_rules.specs.declared.YearLine.{YearLine}
use Rattle.ftd_rules.specs.declared.Obligation.{Obligation}
use Rattle.ftd_rules.specs.declared.Kind.TheVariants as kind
use Rattle.ftd_rules.specs.Liability.{liability}
use Rattle.ftd_rules.specs.Lists.{Has}
use Rattle.ftd_rules.specs.Years.{IsTurn, year_last}
use Rattle.ftd_rules.specs.Private.Years.{semiweekly_from}
use Rattle.ftd_rules.specs.Private.Periods.{rule_on}
use Rattle.ftd_rules.specs.Private.Walk.{due_date, periods, period_first, period_last}
use Rattle.ftd_rules.proofs.Schedules.{year_facts, year_start-mono, year_divides, line_one}
use Rattle.ftd_rules.proofs.Schedules.{cases_turn, turn_is, from_turn, from_none}
use Rattle.ftd_rules.proofs.Pieces.{IsYear}
use Rattle.ftd_rules.proofs.Covering.{line_is}
use Rattle.ftd_rules.proofs.Status.{first_monthly, last_monthly, rule_monthly}
use Rattle.ftd_buckets.specs.Histories.{History, IsChange}
use Rattle.ftd_buckets.specs.Patches.{IsOwed}
use Rattle.ftd_buckets.specs.Private.Turned.{IsYearChange}
use Rattle.ftd_buckets.proofs.Turns.{turn_one, line_same}
use Rattle.ftd_buckets.proofs.Places.{IsOwedHere, owed_is_at, owed_moves}
use Rattle.ftd_buckets.proofs.Chain.{runs_apart, early_same, year_change}

-- an obligation of a line that stays, for a deposit period without the day, stays
owed_kept : (form : Form) → (day : ℕ) (g h : History) (holidays : List ℕ) → IsChange day g h
    → (line : YearLine) (o : Obligation)
    → (period_last form (semiweekly_from line) o.first < day)
    ⊎ (day < period_first form (semiweekly_from line) o.first)
    → IsOwedHere form (due_date holidays) (liability g.sums) line o
    → IsOwedHere form (due_date holidays) (liability h.sums) line o
owed_kept form day g h holidays c line o apart w =
    let p = periods form (semiweekly_from line) in (
      w.0,
      w.1,
      owed_moves (due_date holidays) (liability g.sums) (liability h.sums) p p o.first o refl refl
          refl
          (λ u t a b. runs_apart day g h c u t (elim apart [
            | inl l ↦ inl (omega arith)
            | inr l ↦ inr (omega arith)
          ])) w.2,
    )

-- a turn before the day stays
turn_early : (L M : ℕ → ℕ → ℕ) (day : ℕ) (old new : YearLine) → IsYearChange L M day old new
    → (t : ℕ) → old.turn ≡ Some t → t < day → new.turn ≡ Some t
turn_early L M day old new c t is early =
    let year : old.year ≡ new.year = ap (λ (z : ℕ × ℕ × Bool). z.0) c.same in
    elim c.is_old [
      | inl semi ↦ absurd (let z : ◌≡◌ {A = Option ℕ} None (Some t) = sym semi.1 ∙ is in cc)
      | inr m ↦ elim c.is_new [
        | inl semi ↦ absurd (let z : ◌≡◌ kind.Semiweekly kind.Monthly = sym semi.0
            ∙ (sym c.opening ∙ m.0) in cc)
        | inr m2 ↦
            let its = turn_is L old t is m.1 in
            let i0 = its.0.not_before in let i1 = its.1 in let i2 = its.0.holds in
            let at = c.apart (month_start (month_of t)) t (inl early) in
            let turn : IsTurn M (year_start old.year) (year_last old.year) t = (
              record {
                not_before = i0;
                holds = omega arith;
                first = λ v l n reaches.
                    (let q = c.apart (month_start (month_of v)) v (inl (omega arith)) in
                    its.0.first v l n (omega arith));
              },
              i1,
            ) in
            let P : ℕ → Type 0 = λ y. IsTurn M (year_start y) (year_last y) t in
            turn_one M new t m2.1 (subst P year turn)
      ]
    ]

pub year_back : (L M : ℕ → ℕ → ℕ) (day : ℕ) (old new : YearLine) → IsYearChange L M day old new
    → IsYearChange M L day new old
year_back L M day old new c =
    let year : old.year ≡ new.year = ap (λ (z : ℕ × ℕ × Bool). z.0) c.same in
    let P : ℕ → Type 0 = λ y. year_start y ≤ day in
    let Q : ℕ → Type 0 = λ y. day ≤ year_last y in
    record {
      same = sym c.same;
      opening = sym c.opening;
      is_old = c.is_new;
      is_new = c.is_old;
      apart = λ a b l. sym (c.apart a b l);
      from = subst P year c.from;
      to = subst Q year c.to;
    }

-- the day is semiweekly in both, in the same year, or monthly in both
same_status : (L M : ℕ → ℕ → ℕ) (day : ℕ) (old new : YearLine) → IsYearChange L M day old new
    → IsYear old → IsYear new
    → (new ≡ old) ⊎ ((day < semiweekly_from old) × (day < semiweekly_from new))
same_status L M day old new c y z =
    let from = c.from in let to = c.to in
    let year : old.year ≡ new.year = ap (λ (z : ℕ × ℕ × Bool). z.0) c.same in
    let Q : ℕ → Type 0 = λ y. day ≤ year_last y in
    let to2 = subst Q year to in
    elim c.is_old [
      | inl semi ↦ elim c.is_new [
        | inl semi2 ↦ inl (line_same old new c.same c.opening (semi2.1 ∙ sym semi.1))
        | inr m2 ↦ absurd (let z : ◌≡◌ kind.Semiweekly kind.Monthly = sym semi.0
            ∙ (c.opening ∙ m2.0) in cc)
      ]
      | inr m ↦
          let m2 : new.opening ≡ kind.Monthly = sym c.opening ∙ m.0 in
          let late : (line : YearLine) → line.opening ≡ kind.Monthly → day ≤ year_last line.year
          → ((t : ℕ) → line.turn ≡ Some t → day ≤ t) → day < semiweekly_from line =
          λ line k l after. elim (cases_turn line.turn) [
            | inl none ↦ let e = from_none line k none in omega arith
            | inr some ↦ let e = from_turn line some.0 k some.1 in let q = after some.0 some.1 in
                omega arith
          ] in
          let both : ((t : ℕ) → old.turn ≡ Some t → day ≤ t)
          → ((t : ℕ) → new.turn ≡ Some t → day ≤ t) → (new ≡ old)
          ⊎ ((day < semiweekly_from old) × (day < semiweekly_from new)) =
          λ a b. inr (late old m.0 to a, late new m2 to2 b) in
          let one : (t : ℕ) → old.turn ≡ Some t → t < day → (new ≡ old)
          ⊎ ((day < semiweekly_from old) × (day < semiweekly_from new)) =
          λ t e l. inl (line_same old new c.same c.opening (turn_early L M day old new c t e l
          ∙ sym e)) in
          elim (cases_turn old.turn) [
            | inl none ↦
                both (λ t e. absurd (let z : ◌≡◌ {A = Option ℕ} None (Some t) = sym none ∙ e in cc))
                (λ t e. elim (cases_lt t day) [
                  | inl l ↦ absurd (let k = turn_early M L day new old (year_back L M day old new c)
                      t e l in let z : ◌≡◌ {A = Option ℕ} None (Some t) = sym none ∙ k in cc)
                  | inr l ↦ l
                ])
            | inr some ↦ elim (cases_lt some.0 day) [
              | inl l ↦ one some.0 some.1 l
              | inr l ↦
                  both (λ t e. (let k : ◌≡◌ {A = Option ℕ} (Some some.0) (Some t) = sym some.1
                  ∙ e in let same : some.0 ≡ t = cc in omega arith))
                  (λ t e. elim (cases_lt t day) [
                    | inl m3 ↦
                        absurd (let k = turn_early M L day new old (year_back L M day old new c) t e
                        m3 in
                        let z : ◌≡◌ {A = Option ℕ} (Some some.0) (Some t) = sym some.1 ∙ k in
                        let same : some.0 ≡ t = cc in omega arith)
                    | inr m3 ↦ m3
                  ])
            ]
          ]
    ]

-- before the day's deposit period, periods are the same under both lines
abbrev pub SameBefore : (form : Form) → ℕ → ℕ → ℕ → Type 0
SameBefore form s r d = (period_first form s d ≡ period_first form r d)
    × (period_last form s d ≡ period_last form r d) × (rule_on s d ≡ rule_on r d)

months_before : (form : Form) → (s r day d : ℕ) → day ≤ last_day → day < s → day < r
    → d < month_start (month_of day) → SameBefore form s r d
months_before form s r day d top m n l =
    let end = month_start-end in
    let is = month_of_is day (omega arith) in
    let is0 = is.0 in
    let is_d = month_of_is d (omega arith) in
    let d0 = is_d.0 in
    let less : month_of d < month_of day = elim (cases_lt (month_of d) (month_of day)) [
      | inl y ↦ y
      | inr y ↦ absurd (let q = month_start-mono (month_of day) (month_of d) y in omega arith)
    ] in
    let q = month_start-mono (month_of d + 1) (month_of day) (omega arith) in
    let a = first_monthly form s d (omega arith) in
    let b = first_monthly form r d (omega arith) in
    let e = last_monthly form s d (omega arith) in
    let f = last_monthly form r d (omega arith) in
    (a ∙ sym b, omega arith, rule_monthly s d (omega arith) ∙ sym (rule_monthly r d (omega arith)))

-- the day's deposit period begins on the same day under both, and nothing differs before it
pub before_period : (form : Form) → (L M : ℕ → ℕ → ℕ) (day : ℕ) (old new : YearLine)
    → IsYearChange L M day old new → IsYear old → IsYear new
    → (period_first form (semiweekly_from new) day ≡ period_first form (semiweekly_from old) day)
    × ((d : ℕ) → d < period_first form (semiweekly_from old) day
    → SameBefore form (semiweekly_from old) (semiweekly_from new) d)
before_period form L M day old new c y z =
    let f = year_facts old.year y.0 y.1 in
    let f2 = f.2 in
    let to = c.to in
    elim (same_status L M day old new c y z) [
      | inl same ↦
          let e : semiweekly_from new ≡ semiweekly_from old = ap semiweekly_from same in
          (ap (λ s. period_first form s day) e, λ d l. (rw e refl, rw e refl, rw e refl))
      | inr monthly ↦
          let a = first_monthly form (semiweekly_from old) day monthly.0 in
          let b = first_monthly form (semiweekly_from new) day monthly.1 in (
            b ∙ sym a,
            λ d l. months_before form (semiweekly_from old) (semiweekly_from new) day d
                (omega arith) monthly.0 monthly.1 (omega arith),
          )
    ]

-- an obligation that begins before the day's deposit period stays
pub owed_earlier : (form : Form) → (day : ℕ) (g h : History) (holidays : List ℕ)
    → All (λ d. d < holidays_end) holidays → IsChange day g h → (old new : YearLine)
    → Has g.lines old → Has h.lines new → old.year ≡ new.year
    → year_start old.year ≤ day → day ≤ year_last old.year
    → (o : Obligation) → o.first < period_first form (semiweekly_from old) day
    → IsOwed form g holidays o → IsOwed form h holidays o
owed_earlier form day g h holidays known c old new m n e from to o before owed =
    let due = due_date holidays in
    let y = line_is g.lines g.sums old c.is_before m in
    let z = line_is h.lines h.sums new c.is_after n in
    let divides = year_divides form old y.0 y.1 y.2 day from to in
    let x0 = divides.0 in let x1 = divides.1 in
    let k = year_change day g h c old new m n e from to in
    let same = before_period form (liability g.sums) (liability h.sums) day old new k y z in
    let w = (owed_is_at form g holidays o known c.is_before).0 owed in
    let line = w.0 in
    let yw = line_is g.lines g.sums line c.is_before w.1 in
    let fw = year_facts line.year yw.0 yw.1 in
    let f = year_facts old.year y.0 y.1 in
    let fw3 = fw.3 in let f3 = f.3 in
    let w0 = w.2.0 in let w1 = w.2.1 in
    let years = c.is_before.years in
    let at_w = year_divides form line yw.0 yw.1 yw.2 o.first w0 w1 in
    let q0 = at_w.0 in let q1 = at_w.1 in let q2 = at_w.2 in let q3 = at_w.3 in
    elim (cases_lt line.year old.year) [
      | inl less ↦
          let mono = year_start-mono (line.year + 1) old.year (omega arith) in
          let has = early_same day g h c line w.1 (omega arith) in
          (owed_is_at form h holidays o known c.is_after).1
          (line, has, owed_kept form day g h holidays c line o (inl (omega arith)) w.2)
      | inr more ↦ elim (cases_lt old.year line.year) [
        | inl less ↦ absurd (let mono = year_start-mono (old.year + 1) line.year (omega arith) in
            let x3 = divides.3 in let x2 = divides.2 in omega arith)
        | inr eq ↦
            let one : line ≡ old = line_one years.0 g.lines line old years.2 w.1 m (omega arith) in
            let here : IsOwedHere form due (liability g.sums) old o =
            subst (λ (v : YearLine). IsOwedHere form due (liability g.sums) v o) one w.2 in
            let h0 = here.0 in let h1 = here.1 in
            let p = year_divides form old y.0 y.1 y.2 o.first h0 h1 in
            let p1 = p.1 in let p2 = p.2 in
            let apart : period_last form (semiweekly_from old) o.first < day =
            elim (cases_lt (period_last form (semiweekly_from old) o.first) day) [
              | inl less ↦ less
              | inr over ↦ absurd (let at_day = p.4 day (omega arith) over in let a0 = at_day.0 in
                  omega arith)
            ] in
            let s = same.1 o.first before in
            let moved = owed_moves due (liability g.sums) (liability h.sums)
            (periods form (semiweekly_from old)) (periods form (semiweekly_from new)) o.first o s.0
            s.1 s.2
            (λ u t a b. runs_apart day g h c u t (inl (omega arith))) here.2 in
            let P : ℕ → Type 0 = λ v. (year_start v ≤ o.first) × (o.first ≤ year_last v) in
            let bounds = subst P e (h0, h1) in
            (owed_is_at form h holidays o known c.is_after).1 (new, n, (bounds.0, bounds.1, moved))
      ]
    ]

-- an obligation that begins after the day's deposit period stays, where its year's line does
pub owed_later : (form : Form) → (day : ℕ) (g h : History) (holidays : List ℕ)
    → All (λ d. d < holidays_end) holidays → IsChange day g h
    → (o : Obligation) → ((line : YearLine) → Has g.lines line → year_start line.year ≤ o.first
    → o.first ≤ year_last line.year → Has h.lines line
    × (day < period_first form (semiweekly_from line) o.first))
    → IsOwed form g holidays o → IsOwed form h holidays o
owed_later form day g h holidays known c o stays owed =
    let w = (owed_is_at form g holidays o known c.is_before).0 owed in
    let k = stays w.0 w.1 w.2.0 w.2.1 in
    (owed_is_at form h holidays o known c.is_after).1
    (w.0, k.0, owed_kept form day g h holidays c w.0 o (inr k.1) w.2)
