-- A pay run that is posted or voided, and a figure that is put right, has an answer, where the
-- account has lines.
use Rattle.std.proofs.Common.{◌≡◌, ◌⊎◌, inl, inr, refl, ap, subst, ℕ, ◌≤◌}
use Rattle.std.proofs.Common.{List, [], ◌∷◌, ◌++◌, arith, Ok, Option, None, Some}
use Rattle.std.proofs.lemmas.Bool.{cases_eq, cases_lt}
use Rattle.ftd_rules.specs.declared.Kind.{Kind}
use Rattle.ftd_rules.specs.declared.Kind.TheVariants as kind
use Rattle.ftd_rules.specs.declared.Rule.{Rule}
use Rattle.ftd_rules.specs.declared.Rule.TheVariants.{Monthly, Semiweekly, NextDay}
use Rattle.ftd_rules.specs.declared.YearLine.{YearLine}
use Rattle.ftd_rules.specs.declared.Obligation.{Obligation}
use Rattle.ftd_rules.specs.Lists.{Has}
use Rattle.ftd_rules.specs.Obligations.{ByFirstDay}
use Rattle.ftd_rules.specs.Years.{AreOpenYears}
use Rattle.ftd_machine.specs.State.{Entries}
use Rattle.ftd_machine.specs.History.{year_of_line, AreLinesOf, AreOwed}
use Rattle.ftd_machine.specs.Checks.{Answer}
use Rattle.ftd_machine.specs.Posting.{AreOnlyIn, Spans, IsScheduledAs, IsOnOtherSchedule}
use Rattle.ftd_machine.specs.Posting.{AreOnOtherSchedules, IsPosted}
use Rattle.ftd_machine.specs.declared.replies.Difference.{Difference}
use Rattle.ftd_machine.specs.declared.replies.Reply.TheVariants.{Posted}
use Rattle.ftd_machine.proofs.Lined.{owed_some}
use Rattle.ftd_machine.proofs.Those.{lines_in_order, those_some}

-- ---- rows that differ

rule_or : (a b : Rule) → (a ≡ b) ⊎ (a ≡ b → ⊥)
rule_or Monthly Monthly = inl refl
rule_or Monthly Semiweekly = inr (λ e. absurd cc)
rule_or Monthly NextDay = inr (λ e. absurd cc)
rule_or Semiweekly Monthly = inr (λ e. absurd cc)
rule_or Semiweekly Semiweekly = inl refl
rule_or Semiweekly NextDay = inr (λ e. absurd cc)
rule_or NextDay Monthly = inr (λ e. absurd cc)
rule_or NextDay Semiweekly = inr (λ e. absurd cc)
rule_or NextDay NextDay = inl refl

row_or : (a b : Obligation) → (a ≡ b) ⊎ (a ≡ b → ⊥)
row_or a b = elim (cases_eq a.first b.first) [
  | inr apart ↦ inr (λ e. apart (ap (λ (o : Obligation). o.first) e))
  | inl first ↦ elim (cases_eq a.last b.last) [
    | inr apart ↦ inr (λ e. apart (ap (λ (o : Obligation). o.last) e))
    | inl last ↦ elim (rule_or a.rule b.rule) [
      | inr apart ↦ inr (λ e. apart (ap (λ (o : Obligation). o.rule) e))
      | inl rule ↦ elim (cases_eq a.cents.0 b.cents.0) [
        | inr apart ↦ inr (λ e. apart (ap (λ (o : Obligation). o.cents.0) e))
        | inl cents ↦ elim (cases_eq a.due b.due) [
          | inr apart ↦ inr (λ e. apart (ap (λ (o : Obligation). o.due) e))
          | inl due ↦ inl (rw (first, last, rule, cents, due) refl)
        ]
      ]
    ]
  ]
]

has_or : (o : Obligation) (xs : List Obligation) → Has xs o ⊎ (Has xs o → ⊥)
has_or o [] = inr (λ h. h)
has_or o (x ∷ xs) = elim (row_or o x) [
  | inl is ↦ inl (inl is)
  | inr apart ↦ elim (has_or o xs) [
    | inl has ↦ inl (inr has)
    | inr none ↦ inr (λ h. elim h [ inl is ↦ apart is | inr has ↦ none has ])
  ]
]

apart_or : (others : List Obligation) (o : Obligation)
    → (Has others o → ⊥) ⊎ ((Has others o → ⊥) → ⊥)
apart_or others o = elim (has_or o others) [
  | inl has ↦ inr (λ none. none has)
  | inr none ↦ inl none
]

only_some : (rows others : List Obligation) → ByFirstDay rows
    → (only : List Obligation) × AreOnlyIn rows others only
only_some rows others =
    those_some (λ (o : Obligation). o.first) (λ o. Has others o → ⊥) (apart_or others) rows

-- ---- years that are on another schedule

kind_or : (a b : Kind) → (a ≡ b) ⊎ (a ≡ b → ⊥)
kind_or kind.Monthly kind.Monthly = inl refl
kind_or kind.Monthly kind.Semiweekly = inr (λ e. absurd cc)
kind_or kind.Semiweekly kind.Monthly = inr (λ e. absurd cc)
kind_or kind.Semiweekly kind.Semiweekly = inl refl

turn_or : (a b : Option ℕ) → (a ≡ b) ⊎ (a ≡ b → ⊥)
turn_or None None = inl refl
turn_or None (Some b) = inr (λ e. absurd cc)
turn_or (Some a) None = inr (λ e. absurd cc)
turn_or (Some a) (Some b) = elim (cases_eq a b) [
  | inl same ↦ inl (ap Some same)
  | inr apart ↦ inr (λ e. apart (let same : a ≡ b = cc in same))
]

scheduled_or : (a b : YearLine) → IsScheduledAs a b ⊎ (IsScheduledAs a b → ⊥)
scheduled_or a b = elim (cases_eq a.year b.year) [
  | inr apart ↦ inr (λ e. apart e.0)
  | inl year ↦ elim (kind_or a.opening b.opening) [
    | inr apart ↦ inr (λ e. apart e.1)
    | inl opening ↦ elim (turn_or a.turn b.turn) [
      | inr apart ↦ inr (λ e. apart e.2)
      | inl turn ↦ inl (year, opening, turn)
    ]
  ]
]

other_or : (before : List YearLine) (line : YearLine)
    → IsOnOtherSchedule before line ⊎ (IsOnOtherSchedule before line → ⊥)
other_or [] line = inl (λ old has same. has)
other_or (x ∷ before) line = elim (scheduled_or x line) [
  | inl same ↦ inr (λ other. other x (inl refl) same)
  | inr apart ↦ elim (other_or before line) [
    | inr fails ↦ inr (λ other. fails (λ old has. other old (inr has)))
    | inl holds ↦ inl (λ old has same. elim has [
      | inl is ↦ apart (subst (λ z. IsScheduledAs z line) is same)
      | inr later ↦ holds old later same
    ])
  ]
]

years_some : (before after : List YearLine) → AreOpenYears after
    → (years : List YearLine) × AreOnOtherSchedules before after years
years_some before after years =
    those_some year_of_line (IsOnOtherSchedule before) (other_or before) after
    (lines_in_order years.0 after years.2)

-- ---- the days of rows

pub spans_one : (x : Obligation) → Spans (x ∷ []) x.first x.last
spans_one x = record {
  first = x;
  has_first = inl refl;
  from_is = refl;
  last = x;
  has_last = inl refl;
  to_is = refl;
  within = λ o h. elim h [
    | inl is ↦ (let a : o.first ≡ x.first = ap (λ (o : Obligation). o.first) is in
        let b : o.last ≡ x.last = ap (λ (o : Obligation). o.last) is in
        (omega arith, omega arith))
    | inr none ↦ absurd none
  ];
}

spans_some : (x : Obligation) (rows : List Obligation)
    → (from : ℕ) × (to : ℕ) × Spans (x ∷ rows) from to
spans_some x [] = (x.first, x.last, spans_one x)
spans_some x (y ∷ rows) =
    let rest = spans_some y rows in
    let s = rest.2 in
    let low : (first : Obligation) × Has (x ∷ y ∷ rows) first × (first.first ≤ x.first)
    × (first.first ≤ rest.0) =
    elim (cases_lt x.first s.first.first) [
      | inl less ↦ (let f = s.from_is in (x, inl refl, omega arith, omega arith))
      | inr more ↦ (let f = s.from_is in (s.first, inr s.has_first, omega arith, omega arith))
    ] in
    let high : (last : Obligation) × Has (x ∷ y ∷ rows) last × (x.last ≤ last.last)
    × (rest.1 ≤ last.last) =
    elim (cases_lt x.last s.last.last) [
      | inl less ↦ (let f = s.to_is in (s.last, inr s.has_last, omega arith, omega arith))
      | inr more ↦ (let f = s.to_is in (x, inl refl, omega arith, omega arith))
    ] in (
      low.0.first,
      high.0.last,
      record {
        first = low.0;
        has_first = low.1;
        from_is = refl;
        last = high.0;
        has_last = high.1;
        to_is = refl;
        within = λ o h. elim h [
          | inl is ↦ (let a : o.first ≡ x.first = ap (λ (o : Obligation). o.first) is in
              let b : o.last ≡ x.last = ap (λ (o : Obligation). o.last) is in
              let l = low.2 in let k = high.2 in (omega arith, omega arith))
          | inr has ↦ (let w = s.within o has in let l = low.2 in let k = high.2 in
              (omega arith, omega arith))
        ];
      },
    )

days_some : (rows : List Obligation) (payday : ℕ) → (from : ℕ) × (to : ℕ)
    × (Spans rows from to ⊎ ((rows ≡ []) × (from ≡ payday) × (to ≡ payday)))
days_some [] payday = (payday, payday, inr (refl, refl, refl))
days_some (x ∷ rows) payday = let s = spans_some x rows in (s.0, s.1, inl s.2)

-- the answer that tells the obligations that were removed and added, and the years
pub tells_difference : (holidays : List ℕ) (own after : Entries) (payday : ℕ) (d : Difference)
    (rows others : List Obligation)
    (owed : AreOwed holidays own rows) (owed_after : AreOwed holidays after others)
    → AreOnlyIn rows others d.removed → AreOnlyIn others rows d.added
    → Spans (d.removed ++ d.added) d.from d.to
    ⊎ ((d.removed ++ d.added ≡ []) × (d.from ≡ payday) × (d.to ≡ payday))
    → AreOnOtherSchedules owed.0 owed_after.0 d.years
    → IsPosted holidays own after payday (Ok (Posted d))
tells_difference holidays own after payday d rows others owed owed_after are_removed are_added days
    years = record {
      rows = rows;
      owed = owed;
      rows_after = others;
      owed_after = owed_after;
      difference = d;
      differ = record { are_removed = are_removed; are_added = are_added; days = days };
      years = years;
      told = refl;
    }

-- the answer that tells how the obligations differ exists, where there are lines before and after
pub told_some : (holidays : List ℕ) (own after : Entries) (payday : ℕ)
    (lines others : List YearLine)
    → AreLinesOf own lines → AreLinesOf after others
    → (answer : Answer) × IsPosted holidays own after payday answer
told_some holidays own after payday lines others h h_after =
    let rows = owed_some holidays own lines h in
    let rows_after = owed_some holidays after others h_after in
    let removed = only_some rows.0 rows_after.0 rows.1.2.by_first_day in
    let added = only_some rows_after.0 rows.0 rows_after.1.2.by_first_day in
    let days = days_some (removed.0 ++ added.0) payday in
    let years = years_some rows.1.0 rows_after.1.0 rows_after.1.1.schedules.years in
    let difference : Difference = record {
      from = days.0;
      to = days.1;
      removed = removed.0;
      added = added.0;
      years = years.0;
    } in (
      Ok (Posted difference),
      tells_difference holidays own after payday difference rows.0 rows_after.0 rows.1 rows_after.1
          removed.1 added.1 days.2 years.1,
    )
