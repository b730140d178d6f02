-- What a change of one day's runs does to the turn of its year, as the day's deposit period tells
-- it.
use Rattle.ftd_rules.specs.declared.Form.{Form}
use Rattle.std.proofs.Common.{◌≡◌, ℕ, ◌+◌, ◌-◌, ◌<◌, ◌≤◌, ◌⊎◌, inl, inr, Bool, sym, ap, ◌∙◌}
use Rattle.std.proofs.Common.{subst, arith}
use Rattle.std.specs.Prelude.{Option, None, Some, IfSome, min, true, false}
use Rattle.std.specs.Option.{option_eq}
use Rattle.std.proofs.lemmas.Bool.{cases_order, lt-ltb, false≢true, cases_lt}
use Rattle.ftd_days.specs.Calendar.{month_of, month_start, year_start}
use Rattle.ftd_days.proofs.Months.{month_of_is, month_of_only, month_start-mono, month_start-end}
use Rattle.ftd_rules.specs.declared.YearLine.{YearLine}
use Rattle.ftd_rules.specs.declared.Kind.TheVariants as kind
use Rattle.ftd_rules.specs.Years.{Reaches, IsTurn, HasTurn, basis_of, year_last}
use Rattle.ftd_rules.specs.Private.Years.{semiweekly_from}
use Rattle.ftd_rules.specs.Periods.{IsPeriod}
use Rattle.ftd_rules.specs.Private.Walk.{years_end, period_first, period_last}
use Rattle.ftd_rules.proofs.Stated.{period_run, cases_kind}
use Rattle.ftd_rules.proofs.Status.{month_at_least}
use Rattle.ftd_rules.proofs.Bridge.{period_only}
use Rattle.ftd_rules.proofs.Lines.{line_same as line_by_parts}
use Rattle.ftd_rules.proofs.Pieces.{IsYear}
use Rattle.ftd_rules.proofs.Schedules.{year_facts, year_divides, cases_turn, turn_is}
use Rattle.ftd_rules.proofs.Schedules.{from_semiweekly, from_turn, from_none}
use Rattle.ftd_rules.proofs.Turning.{month_total}
use Rattle.ftd_buckets.specs.Histories.{TurnsWithin}
use Rattle.ftd_buckets.specs.Private.Turned.{IsYearChange}

-- no day from a to b reaches 100,000.00
abbrev pub Quiet : (ℕ → ℕ → ℕ) → ℕ → ℕ → Type 0
Quiet F a b = (v : ℕ) → a ≤ v → v ≤ b → Reaches F v → ⊥

cases_opening : (line : YearLine) → (line.opening ≡ kind.Semiweekly) ⊎ (line.opening ≡ kind.Monthly)
cases_opening line = cases_kind line.opening

-- a year has one turn
pub turn_one : (M : ℕ → ℕ → ℕ) (line : YearLine) (t : ℕ) → HasTurn M line
    → IsTurn M (year_start line.year) (year_last line.year) t → line.turn ≡ Some t
turn_one M line t h its =
    let i0 = its.0.not_before in let i1 = its.1 in
    elim (cases_turn line.turn) [
      | inl none ↦ absurd (let k = rw none at h in k t i0 i1 its.0.holds)
      | inr some ↦
          let at = turn_is M line some.0 some.1 h in
          elim (cases_order t some.0) [
            | inl same ↦ some.1 ∙ ap Some (sym same)
            | inr (inl less) ↦ absurd (at.0.first t i0 less its.0.holds)
            | inr (inr more) ↦ absurd (its.0.first some.0 at.0.not_before more at.0.holds)
          ]
    ]

-- and none where no day is one
pub turn_none : (M : ℕ → ℕ → ℕ) (line : YearLine) → HasTurn M line
    → Quiet M (year_start line.year) (year_last line.year) → line.turn ≡ None
turn_none M line h quiet =
    elim (cases_turn line.turn) [
      | inl none ↦ none
      | inr some ↦ absurd (let at = turn_is M line some.0 some.1 h in
          quiet some.0 at.0.not_before at.1 at.0.holds)
    ]

pub line_same : (old new : YearLine) → basis_of old ≡ basis_of new → old.opening ≡ new.opening
    → new.turn ≡ old.turn → new ≡ old
line_same old new e opening turn = sym (line_by_parts old new e opening (sym turn))

-- what a line's own fields say
pub line_year : (line : YearLine) → 2001 ≤ line.year → line.year ≤ 2098 → TurnsWithin line
    → IsYear line × (semiweekly_from line ≤ year_last line.year + 1) × IfSome line.turn
    (λ t. t < years_end)
line_year line l m h =
    let f = year_facts line.year l m in
    let f1 = f.1 in let f2 = f.2 in
    elim (cases_turn line.turn) [
      | inl none ↦ elim (cases_opening line) [
        | inl semi ↦ let e = from_semiweekly line semi in
            ((l, m, omega arith), omega arith, rw none tt)
        | inr monthly ↦ let e = from_none line monthly none in
            ((l, m, omega arith), omega arith, rw none tt)
      ]
      | inr some ↦
          let k = rw some.1 at h in
          let k1 = k.1 in let k2 = k.2 in
          let e = from_turn line some.0 k.0 some.1 in
          let early : some.0 < years_end = omega arith in
          ((l, m, omega arith), omega arith, rw some.1 early)
    ]

-- a deposit period in closed form
pub period_facts : (form : Form) → (line : YearLine) (a b : ℕ) → IsYear line
    → IsPeriod form line a b
    → (period_first form (semiweekly_from line) a ≡ a)
    × (period_last form (semiweekly_from line) a ≡ b) × (a ≤ b) × (year_start line.year ≤ a)
    × (b ≤ year_last line.year)
period_facts form line a b y p =
    let f = year_facts line.year y.0 y.1 in
    let f2 = f.2 in
    let only = period_only form line a b f.0 (omega arith) (year_divides form line y.0 y.1 y.2)
    (period_run form line a b p) in
    (only.0, only.1, p.0, p.1, p.2)

-- a monthly one begins with its month and ends before the next
pub monthly_facts : (form : Form) → (line : YearLine) (a b : ℕ) → IsYear line
    → IsPeriod form line a b → a < semiweekly_from line
    → (a ≡ month_start (month_of a)) × (b < month_start (month_of a + 1))
    × (b ≡ min (semiweekly_from line - 1) (month_start (month_of a + 1) - 1))
monthly_facts form line a b y p monthly =
    let s = semiweekly_from line in
    let f = year_facts line.year y.0 y.1 in
    let f2 = f.2 in
    let k = period_facts form line a b y p in
    let k2 = k.2 in let k4 = k.4 in
    let end = month_start-end in
    let is = month_of_is a (omega arith) in
    let is0 = is.0 in let is1 = is.1 in
    let first : month_start (month_of a) ≡ a = rw (lt-ltb a s monthly) at k.0 in
    let last : min (s - 1) (month_start (month_of a + 1) - 1) ≡ b =
    rw (lt-ltb a s monthly) at k.1 in
    (sym first, omega arith, sym last)

-- the change of a day, as the sums of its deposit period show it
pub record Shown (form : Form) (L M F : ℕ → ℕ → ℕ) (day : ℕ) (old new : YearLine)
    (a b : ℕ) : Type 0 where
  pub change : IsYearChange L M day old new
  pub year : IsYear old
  pub period : IsPeriod form old a b
  pub from : a ≤ day
  pub to : day ≤ b
  pub agree : (u t : ℕ) → a ≤ u → t ≤ b → M u t ≡ F u t

-- an old line that is monthly on the day opens so, and has no turn before the period
pub old_monthly : (form : Form) → (L M F : ℕ → ℕ → ℕ) (day : ℕ) (old new : YearLine) (a b : ℕ)
    → Shown form L M F day old new a b → a < semiweekly_from old → (old.opening ≡ kind.Monthly)
    × HasTurn L old
old_monthly form L M F day old new a b c monthly =
    let k = period_facts form old a b c.year c.period in
    let k3 = k.3 in
    elim c.change.is_old [
      | inl semi ↦ absurd (let e = from_semiweekly old semi.0 in omega arith)
      | inr m ↦ m
    ]

pub new_monthly : (form : Form) → (L M F : ℕ → ℕ → ℕ) (day : ℕ) (old new : YearLine) (a b : ℕ)
    → Shown form L M F day old new a b → a < semiweekly_from old → HasTurn M new
new_monthly form L M F day old new a b c monthly =
    let m = old_monthly form L M F day old new a b c monthly in
    let opening : new.opening ≡ kind.Monthly = sym c.change.opening ∙ m.0 in
    elim c.change.is_new [
      | inl semi ↦ absurd (let z : ◌≡◌ kind.Semiweekly kind.Monthly = sym semi.0 ∙ opening in cc)
      | inr n ↦ n.1
    ]

-- nothing turns before the period
quiet_before : (form : Form) → (L M F : ℕ → ℕ → ℕ) (day : ℕ) (old new : YearLine) (a b : ℕ)
    → Shown form L M F day old new a b → a < semiweekly_from old
    → (v : ℕ) → year_start old.year ≤ v → v < a → Reaches M v → ⊥
quiet_before form L M F day old new a b c monthly v l m reaches =
    let h = old_monthly form L M F day old new a b c monthly in
    let k = period_facts form old a b c.year c.period in
    let k2 = k.2 in let k4 = k.4 in
    let from = c.from in
    let q = c.change.apart (month_start (month_of v)) v (inl (omega arith)) in
    elim (cases_turn old.turn) [
      | inl none ↦ let z = rw none at h.1 in z v l (omega arith) (omega arith)
      | inr some ↦
          let its = turn_is L old some.0 some.1 h.1 in
          let e = from_turn old some.0 h.0 some.1 in
          its.0.first v l (omega arith) (omega arith)
    ]

-- within it, the month's total is that of the sums
pub total_within : (form : Form) → (L M F : ℕ → ℕ → ℕ) (day : ℕ) (old new : YearLine) (a b : ℕ)
    → Shown form L M F day old new a b → a < semiweekly_from old
    → (v : ℕ) → a ≤ v → v ≤ b → month_total M v ≡ month_total F v
total_within form L M F day old new a b c monthly v l m =
    let f = year_facts old.year c.year.0 c.year.1 in
    let f2 = f.2 in
    let k = period_facts form old a b c.year c.period in
    let k4 = k.4 in
    let n = monthly_facts form old a b c.year c.period monthly in
    let n0 = n.0 in let n1 = n.1 in
    let end = month_start-end in
    let same : month_start (month_of v) ≡ month_start (month_of a) =
    ap month_start (month_of_only v (month_of a) (omega arith) (omega arith) (omega arith)) in
    c.agree (month_start (month_of v)) v (omega arith) m

-- a turn that the sums show is the turn of the year
pub turn_shown : (form : Form) → (L M F : ℕ → ℕ → ℕ) (day : ℕ) (old new : YearLine) (a b t : ℕ)
    → Shown form L M F day old new a b → a < semiweekly_from old
    → IsTurn F a b t → new.turn ≡ Some t
turn_shown form L M F day old new a b t c monthly its =
    let k = period_facts form old a b c.year c.period in
    let k3 = k.3 in let k4 = k.4 in
    let i0 = its.0.not_before in let i1 = its.1 in let i2 = its.0.holds in
    let year : old.year ≡ new.year = ap (λ (z : ℕ × ℕ × Bool). z.0) c.change.same in
    let at = total_within form L M F day old new a b c monthly t i0 i1 in
    let turn : IsTurn M (year_start old.year) (year_last old.year) t = (
      record {
        not_before = omega arith;
        holds = omega arith;
        first = λ v l m reaches. elim (cases_lt v a) [
          | inl before ↦ quiet_before form L M F day old new a b c monthly v l before reaches
          | inr within ↦
              let e = total_within form L M F day old new a b c monthly v within (omega arith) in
              its.0.first v within m (omega arith)
        ];
      },
      omega arith,
    ) in
    let P : ℕ → Type 0 = λ y. IsTurn M (year_start y) (year_last y) t in
    turn_one M new t (new_monthly form L M F day old new a b c monthly) (subst P year turn)

-- where they show none, it comes after the period
pub turn_after : (form : Form) → (L M F : ℕ → ℕ → ℕ) (day : ℕ) (old new : YearLine) (a b : ℕ)
    → Shown form L M F day old new a b → a < semiweekly_from old
    → Quiet F a b → (t : ℕ) → new.turn ≡ Some t → b < t
turn_after form L M F day old new a b c monthly quiet t e =
    let year : old.year ≡ new.year = ap (λ (z : ℕ × ℕ × Bool). z.0) c.change.same in
    let at = turn_is M new t e (new_monthly form L M F day old new a b c monthly) in
    let P : ℕ → Type 0 = λ y. year_start y ≤ t in
    let a0 : year_start old.year ≤ t = subst P (sym year) at.0.not_before in
    let a2 = at.0.holds in
    elim (cases_lt b t) [
      | inl less ↦ less
      | inr more ↦ absurd (elim (cases_lt t a) [
        | inl before ↦ quiet_before form L M F day old new a b c monthly t a0 before a2
        | inr within ↦
            let q = total_within form L M F day old new a b c monthly t within more in
            quiet t within more (omega arith)
      ])
    ]

-- and where the old turn was not the last day of the period, it stays
pub turn_stays : (form : Form) → (L M F : ℕ → ℕ → ℕ) (day : ℕ) (old new : YearLine) (a b : ℕ)
    → Shown form L M F day old new a b → a < semiweekly_from old
    → Quiet F a b → (old.turn ≡ Some b → ⊥) → new.turn ≡ old.turn
turn_stays form L M F day old new a b c monthly quiet other =
    let f = year_facts old.year c.year.0 c.year.1 in
    let f2 = f.2 in
    let k = period_facts form old a b c.year c.period in
    let k3 = k.3 in let k4 = k.4 in
    let n = monthly_facts form old a b c.year c.period monthly in
    let n0 = n.0 in let n1 = n.1 in let n2 = n.2 in
    let end = month_start-end in
    let to = c.to in
    let year : old.year ≡ new.year = ap (λ (z : ℕ × ℕ × Bool). z.0) c.change.same in
    let h = old_monthly form L M F day old new a b c monthly in
    let g = new_monthly form L M F day old new a b c monthly in
    -- in later months nothing has changed
    let later : (v : ℕ) → b < v → v ≤ year_last old.year → month_start (month_of a + 1) ≤ b + 1
    → month_total M v ≡ month_total L v =
    λ v l m whole. (let q = month_at_least v (month_of a + 1) (omega arith) (omega arith) in
    let r = month_start-mono (month_of a + 1) (month_of v) q in
    c.change.apart (month_start (month_of v)) v (inr (omega arith))) in
    let small : (v : ℕ) → year_start old.year ≤ v → v ≤ year_last old.year
    → (b < v → month_start (month_of a + 1) ≤ b + 1) → (b < v → Reaches L v → ⊥)
    → Reaches M v → ⊥ =
    λ v l m whole less reaches. elim (cases_lt v a) [
      | inl before ↦ quiet_before form L M F day old new a b c monthly v l before reaches
      | inr from ↦ elim (cases_lt b v) [
        | inl past ↦ let e = later v past m (whole past) in less past (omega arith)
        | inr within ↦ let e = total_within form L M F day old new a b c monthly v from within in
            quiet v from within (omega arith)
      ]
    ] in
    elim (cases_turn old.turn) [
      | inl none ↦
          let e = from_none old h.0 none in
          let calm = rw none at h.1 in
          let all : Quiet M (year_start old.year) (year_last old.year) =
          λ v l m. small v l m (λ past. omega arith) (λ past. calm v l m) in
          let P : ℕ → Type 0 = λ y. Quiet M (year_start y) (year_last y) in
          turn_none M new g (subst P year all) ∙ sym none
      | inr some ↦
          let t = some.0 in
          let e = from_turn old t h.0 some.1 in
          let its = turn_is L old t some.1 h.1 in
          let i0 = its.0.not_before in let i1 = its.1 in let i2 = its.0.holds in
          let past : b < t = elim (cases_lt b t) [
            | inl less ↦ less
            | inr more ↦ absurd (let same : b ≡ t = omega arith in
                other (some.1 ∙ ap Some (sym same)))
          ] in
          let whole : month_start (month_of a + 1) ≤ b + 1 = omega arith in
          let at = later t past i1 whole in
          let turn : IsTurn M (year_start old.year) (year_last old.year) t = (
            record {
              not_before = i0;
              holds = omega arith;
              first = λ v l m. small v l (omega arith) (λ p. whole) (λ p. its.0.first v l m);
            },
            i1,
          ) in
          let P : ℕ → Type 0 = λ y. IsTurn M (year_start y) (year_last y) t in
          turn_one M new t g (subst P year turn) ∙ sym some.1
    ]

-- a year that is semiweekly in the period keeps its turn
pub turn_earlier : (form : Form) → (L M F : ℕ → ℕ → ℕ) (day : ℕ) (old new : YearLine) (a b : ℕ)
    → Shown form L M F day old new a b → semiweekly_from old ≤ a → new.turn ≡ old.turn
turn_earlier form L M F day old new a b c semi =
    let k = period_facts form old a b c.year c.period in
    let k2 = k.2 in let k4 = k.4 in
    let from = c.from in
    let year : old.year ≡ new.year = ap (λ (z : ℕ × ℕ × Bool). z.0) c.change.same in
    elim c.change.is_old [
      | inl s ↦ elim c.change.is_new [
        | inl s2 ↦ s2.1 ∙ sym s.1
        | inr m ↦ absurd (let z : ◌≡◌ kind.Semiweekly kind.Monthly = sym s.0
            ∙ (c.change.opening ∙ m.0) in cc)
      ]
      | inr m ↦ elim c.change.is_new [
        | inl s2 ↦ absurd (let z : ◌≡◌ kind.Monthly kind.Semiweekly = sym m.0
            ∙ (c.change.opening ∙ s2.0) in cc)
        | inr m2 ↦ elim (cases_turn old.turn) [
          | inl none ↦ absurd (let e = from_none old m.0 none in omega arith)
          | inr some ↦
              let t = some.0 in
              let e = from_turn old t m.0 some.1 in
              let its = turn_is L old t some.1 m.1 in
              let i0 = its.0.not_before in let i1 = its.1 in let i2 = its.0.holds in
              let at = c.change.apart (month_start (month_of t)) t (inl (omega arith)) in
              let turn : IsTurn M (year_start old.year) (year_last old.year) t = (
                record {
                  not_before = i0;
                  holds = omega arith;
                  first = λ v l n reaches.
                      (let q = c.change.apart (month_start (month_of v)) v (inl (omega arith)) in
                      its.0.first v l n (omega arith));
                },
                i1,
              ) in
              let P : ℕ → Type 0 = λ y. IsTurn M (year_start y) (year_last y) t in
              turn_one M new t m2.1 (subst P year turn) ∙ sym some.1
        ]
      ]
    ]

-- a test of an option against a value
pub option_is : (E : ℕ → ℕ → Bool) → ((a b : ℕ) → E a b ≡ true → a ≡ b) → (o : Option ℕ) (t : ℕ)
    → option_eq E o (Some t) ≡ true → o ≡ Some t
option_is E is None t h = absurd (false≢true h)
option_is E is (Some u) t h = ap Some (is u t h)

pub option_not : (E : ℕ → ℕ → Bool) → ((a : ℕ) → E a a ≡ true) → (o : Option ℕ) (t : ℕ)
    → option_eq E o (Some t) ≡ false → o ≡ Some t → ⊥
option_not E same o t h e = let k = rw e at h in false≢true (sym k ∙ same t)
