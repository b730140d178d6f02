-- The line of a year that is opened.
use Rattle.std.proofs.Common.{◌≡◌, ℕ, ◌+◌, ◌-◌, ◌<◌, ◌≤◌, ◌==◌, ◌&&◌, ◌||◌, ◌⊎◌, ◌↔◌, Bool, true}
use Rattle.std.proofs.Common.{false, List, [], ◌∷◌, length, None, inl, inr, refl, sym, ap, ◌∙◌}
use Rattle.std.proofs.Common.{arith}
use Rattle.std.specs.Prelude.{is_some, IsSome, IsTrue, nat_lt}
use Rattle.std.specs.List.{list_any}
use Rattle.std.proofs.lemmas.Bool.{true≢false, eqb-true, eq-eqb, ltb-true, lt-ltb, or_cases}
use Rattle.std.proofs.lemmas.Bool.{or_left, or_right, and_parts}
use Rattle.ftd_rules.specs.declared.Kind.{Kind}
use Rattle.ftd_rules.specs.declared.Kind.TheVariants.{Monthly, Semiweekly}
use Rattle.ftd_rules.specs.declared.YearLine.{YearLine}
use Rattle.ftd_rules.specs.Lists.{Has}
use Rattle.ftd_rules.specs.Years.{TurnedBefore}
use Rattle.ftd_entries.specs.Opening.{turns_into, HasOpening, IsNextLine}

all_true : (a b c : Bool) → a ≡ true → b ≡ true → c ≡ true → (a && (b && c)) ≡ true
all_true a b c x y z = rw (x, y, z) refl

turned_from : (year : ℕ) (lines : List YearLine) → list_any (turns_into year) lines ≡ true
    → TurnedBefore lines year
turned_from year [] e = absurd (true≢false (sym e))
turned_from year (line ∷ lines) e =
    elim (or_cases (turns_into year line) (list_any (turns_into year) lines) e) [
      | inl here ↦
          let parts = and_parts (nat_lt line.year year)
          ((year - line.year == 1) && is_some line.turn)
          here in
          let rest = and_parts (year - line.year == 1) (is_some line.turn) parts.1 in
          let less = ltb-true line.year year parts.0 in
          let one = eqb-true (year - line.year) 1 rest.0 in
          (line, inl refl, omega arith, rest.1)
      | inr later ↦ let before = turned_from year lines later in
          (before.0, inr before.1, before.2, before.3)
    ]

turned_to : (year : ℕ) (lines : List YearLine) → (before : YearLine) → Has lines before
    → before.year + 1 ≡ year → IsSome before.turn → list_any (turns_into year) lines ≡ true
turned_to year [] before has next some = absurd has
turned_to year (line ∷ lines) before (inl is) next some =
    let here : turns_into year before ≡ true =
    all_true (nat_lt before.year year) (year - before.year == 1) (is_some before.turn)
    (lt-ltb before.year year (omega arith)) (eq-eqb (year - before.year) 1 (omega arith)) some in
    or_left (turns_into year line) (list_any (turns_into year) lines)
    (ap (turns_into year) (sym is) ∙ here)
turned_to year (line ∷ lines) before (inr has) next some =
    or_right (turns_into year line) (list_any (turns_into year) lines)
    (turned_to year lines before has next some)

opening_is : (lines : List YearLine) (line : YearLine) (kind : Kind) → line.opening ≡ kind
    → (kind ≡ Semiweekly) ↔ ((5_000_000 < line.lookback.0)
    ⊎ IsTrue (line.carried || list_any (turns_into line.year) lines))
    → (kind ≡ Monthly) ↔ ((line.lookback.0 ≤ 5_000_000)
    × ((line.carried || list_any (turns_into line.year) lines) ≡ false))
    → HasOpening lines line
opening_is lines line Semiweekly is semiweekly monthly =
    inl (
      is,
      elim (semiweekly.0 refl) [
        | inl much ↦ inl much
        | inr on ↦ elim (or_cases line.carried (list_any (turns_into line.year) lines) on) [
          | inl carried ↦ inr (inl carried)
          | inr turned ↦ inr (inr (turned_from line.year lines turned))
        ]
      ],
    )
opening_is lines line Monthly is semiweekly monthly =
    let facts = monthly.0 refl in
    let most = facts.0 in
    inr (
      is,
      (λ opens. elim opens [
        | inl much ↦ absurd (omega arith)
        | inr on ↦ elim on [
          | inl carried ↦ true≢false
              (sym (or_left line.carried (list_any (turns_into line.year) lines) carried)
              ∙ facts.1)
          | inr turned ↦ true≢false
              (sym (or_right line.carried (list_any (turns_into line.year) lines)
              (turned_to line.year lines turned.0 turned.1 turned.2 turned.3)) ∙ facts.1)
        ]
      ]),
    )

pub next_line_is : (lines : List YearLine) (carried : Bool) (line : YearLine)
    → line.carried ≡ ((length lines == 0) && carried) → line.turn ≡ None
    → (line.opening ≡ Semiweekly) ↔ ((5_000_000 < line.lookback.0)
    ⊎ IsTrue (line.carried || list_any (turns_into line.year) lines))
    → (line.opening ≡ Monthly) ↔ ((line.lookback.0 ≤ 5_000_000)
    × ((line.carried || list_any (turns_into line.year) lines) ≡ false))
    → IsNextLine carried lines line.year line.lookback line
next_line_is lines carried line is none semiweekly monthly = record {
  year_is = refl;
  lookback = refl;
  is_carried = is;
  opening = opening_is lines line line.opening refl semiweekly monthly;
  turn = none;
}

-- ---- tests joined by `&&` and `||`

pub and_then : (a b r : Bool) → a ≡ true → r ≡ b → r ≡ (a && b)
and_then a b r e is = rw e is

pub and_else : (a b r : Bool) → a ≡ false → r ≡ false → r ≡ (a && b)
and_else a b r e is = rw e is

pub or_then : (a b r : Bool) → a ≡ true → r ≡ true → r ≡ (a || b)
or_then a b r e is = rw e is

pub or_else : (a b r : Bool) → a ≡ false → r ≡ b → r ≡ (a || b)
or_else a b r e is = rw e is
