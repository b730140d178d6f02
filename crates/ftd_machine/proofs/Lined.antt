-- The lines of the open years: a sound state has them, and so has one whose runs are others.
use Rattle.std.proofs.Common.{◌≡◌, ◌∙◌, inl, inr, refl, sym, ap, subst, ℕ, ◌+◌, ◌≤◌, Bool, true}
use Rattle.std.proofs.Common.{false, List, [], ◌∷◌, map, arith, None}
use Rattle.std.specs.Prelude.{nat_le}
use Rattle.std.proofs.lemmas.Bool.{leb-true, and_parts}
use Rattle.ftd_days.specs.declared.cents.Cents.{Cents}
use Rattle.ftd_days.proofs.Spelling.{same_text}
use Rattle.ftd_rules.specs.declared.Kind.TheVariants as kind
use Rattle.ftd_rules.specs.declared.YearLine.{YearLine}
use Rattle.ftd_rules.specs.declared.Obligation.{Obligation}
use Rattle.ftd_rules.specs.Lists.{Has}
use Rattle.ftd_rules.specs.Years.{YearsFrom, AreOpenYears, basis_of}
use Rattle.ftd_rules.proofs.Opened.{lines_some}
use Rattle.ftd_rules.proofs.Earlier.{counterpart}
use Rattle.ftd_rules.proofs.Owing.{obligations_some}
use Rattle.ftd_rules.proofs.Stated.{rows_stated}
use Rattle.ftd_rules.proofs.Members.{has_mapped, mapped_has}
use Rattle.ftd_machine.specs.Limits.{can_be_opened}
use Rattle.ftd_machine.specs.State.{State, Entries, Entry, entries_of, is_of}
use Rattle.ftd_machine.specs.History.{form_of, is_carried, live_sums, HasLookback, AreCarried}
use Rattle.ftd_machine.specs.History.{year_of_line, year_of_entry, AreLinesOf, AreOwed}
use Rattle.ftd_machine.specs.Sound.{Follow, FollowFrom, IsSound}
use Rattle.ftd_machine.proofs.Members.{has_filtered}
use Rattle.ftd_machine.proofs.Totals.{SameButRuns, lookback_still, SameButFigures, lookback_again}

-- ---- the same but for the openings and the turns

pub years_same : (xs ys : List YearLine) → map basis_of xs ≡ map basis_of ys
    → map year_of_line xs ≡ map year_of_line ys
years_same [] [] e = refl
years_same [] (y ∷ ys) e = absurd cc
years_same (x ∷ xs) [] e = absurd cc
years_same (x ∷ xs) (y ∷ ys) e =
    let head : ◌≡◌ {A = ℕ × ℕ × Bool} (basis_of x) (basis_of y) = cc in
    let tail : map basis_of xs ≡ map basis_of ys = cc in
    let year : x.year ≡ y.year = ap (λ (z : ℕ × ℕ × Bool). z.0) head in
    rw (year, years_same xs ys tail) refl

carried_same : (b : Bool) (xs ys : List YearLine) → map basis_of xs ≡ map basis_of ys
    → AreCarried b xs → AreCarried b ys
carried_same b [] [] e h = tt
carried_same b [] (y ∷ ys) e h = absurd cc
carried_same b (x ∷ xs) [] e h = absurd cc
carried_same b (x ∷ xs) (y ∷ ys) e h =
    let head : ◌≡◌ {A = ℕ × ℕ × Bool} (basis_of x) (basis_of y) = cc in
    let tail : map basis_of xs ≡ map basis_of ys = cc in
    let flag : x.carried ≡ y.carried = ap (λ (z : ℕ × ℕ × Bool). z.2) head in
    (sym flag ∙ h.0, carried_same false xs ys tail h.1)

like_lookback : (own : Entries) (y z : ℕ) (c d : Cents) → y ≡ z → c ≡ d → HasLookback own z d
    → HasLookback own y c
like_lookback own y z c d e f h = rw (e, f) h

lookbacks_like : (own : Entries) (others lines : List YearLine)
    → map basis_of others ≡ map basis_of lines
    → ((line : YearLine) → Has lines line → HasLookback own line.year line.lookback)
    → (line : YearLine) → Has others line → HasLookback own line.year line.lookback
lookbacks_like own others lines same lookbacks line has =
    let c = counterpart others lines line same has in
    let year : line.year ≡ c.0.year = ap (λ (z : ℕ × ℕ × Bool). z.0) c.2 in
    let amount : line.lookback ≡ c.0.lookback =
    ap (λ (z : ℕ × ℕ × Bool). record { 0 = z.1 }) c.2 in
    like_lookback own line.year c.0.year line.lookback c.0.lookback year amount
    (lookbacks c.0 c.1)

-- ---- lines of a sound state

lines_from : (own : Entries) (es : List (Entry (Unit {0}))) (carried : Bool)
    → ((e : Entry (Unit {0})) → Has es e → (total : Cents) × HasLookback own e.key total)
    → (lines : List YearLine) × (map year_of_line lines ≡ map year_of_entry es)
    × ((line : YearLine) → Has lines line → HasLookback own line.year line.lookback)
    × AreCarried carried lines
lines_from own [] carried f = ([], refl, (λ line h. absurd h), tt)
lines_from own (e ∷ es) carried f =
    let rest = lines_from own es false (λ x h. f x (inr h)) in
    let total = f e (inl refl) in
    let line : YearLine =
    record {
      year = e.key;
      lookback = total.0;
      carried = carried;
      opening = kind.Monthly;
      turn = None;
    } in (
      line ∷ rest.0,
      ap (λ ys. e.key ∷ ys) rest.1,
      (λ x h. elim h [
        | inl is ↦ subst (λ (l : YearLine). HasLookback own l.year l.lookback) (sym is) total.1
        | inr has ↦ rest.2 x has
      ]),
      (refl, rest.3),
    )

pub between_is : (year : ℕ) → can_be_opened year ≡ true → (2001 ≤ year) × (year ≤ 2098)
between_is year e = (
  leb-true 2001 year (and_parts (nat_le 2001 year) (nat_le year 2098) e).0,
  leb-true year 2098 (and_parts (nat_le 2001 year) (nat_le year 2098) e).1,
)

years_after : (year : ℕ) (lines : List YearLine) → year ≤ 2098
    → FollowFrom year (map year_of_line lines)
    → ((line : YearLine) → Has lines line → line.year ≤ 2098) → YearsFrom (year + 1) lines
years_after year [] top follow within = omega arith
years_after year (line ∷ lines) top follow within =
    let is : line.year ≡ year + 1 = follow.0 in (
      is,
      subst (λ y. YearsFrom (y + 1) lines) is
          (years_after line.year lines (within line (inl refl)) follow.1 (λ l h. within l (inr h))),
    )

pub open_years_of : (lines : List YearLine) → Follow (map year_of_line lines)
    → ((line : YearLine) → Has lines line → (2001 ≤ line.year) × (line.year ≤ 2098))
    → AreOpenYears lines
open_years_of [] follow within = (2001, omega arith, omega arith)
open_years_of (line ∷ lines) follow within =
    let w = within line (inl refl) in
    (line.year, w.0, (refl, years_after line.year lines w.1 follow (λ l h. (within l (inr h)).1)))

pub lines_of_sound : (s : State) (name : List ℕ) → IsSound s
    → (lines : List YearLine) × AreLinesOf (entries_of s name) lines
lines_of_sound s name sound =
    let own = entries_of s name in
    let raw = lines_from own own.open_years (is_carried own.account) (λ e h.
    (let from = has_filtered (is_of name) s.open_years e h in
    let same : e.name ≡ name = same_text e.name name from.1 in
    let total = sound.totals e from.0 in
    (total.0, subst (λ n. HasLookback (entries_of s n) e.key total.0) same total.1))) in
    let within : (line : YearLine) → Has raw.0 line → (2001 ≤ line.year) × (line.year ≤ 2098) =
    λ line h.
    (let year : Has (map year_of_entry own.open_years) line.year = subst
    (λ ys. Has ys line.year) raw.1 (mapped_has year_of_line raw.0 line h) in
    let e = has_mapped year_of_entry own.open_years line.year year in
    let from = has_filtered (is_of name) s.open_years e.0 e.1 in
    let b = between_is e.0.key (sound.opened e.0 from.0).0 in
    let is : line.year ≡ e.0.key = e.2 in (omega arith, omega arith)) in
    let years = open_years_of raw.0 (subst Follow (sym raw.1) (sound.in_turn name)) within in
    let found = lines_some (live_sums own) raw.0 years in
    let others = found.0 in (
      others,
      record {
        years = years_same others raw.0 found.1 ∙ raw.1;
        lookbacks = lookbacks_like own others raw.0 found.1 raw.2;
        carried = carried_same (is_carried own.account) raw.0 others (sym found.1) raw.3;
        schedules = found.2;
      },
    )

-- ---- where the runs change

pub lines_after : (own after : Entries) (lines : List YearLine) → SameButRuns own after
    → AreLinesOf own lines → (others : List YearLine) × AreLinesOf after others
lines_after own after lines same h =
    let found = lines_some (live_sums after) lines h.schedules.years in
    let others = found.0 in (
      others,
      record {
        years = years_same others lines found.1 ∙ h.years ∙ rw (same.open_years) refl;
        lookbacks = λ line has. (
            let c = counterpart others lines line found.1 has in
            let year : line.year ≡ c.0.year = ap (λ (z : ℕ × ℕ × Bool). z.0) c.2 in
            let amount : line.lookback ≡ c.0.lookback =
            ap (λ (z : ℕ × ℕ × Bool). record { 0 = z.1 }) c.2 in
            like_lookback after line.year c.0.year line.lookback c.0.lookback year amount
            (lookback_still own after same c.0.year c.0.lookback (h.lookbacks c.0 c.1))
            );
        carried = rw (same.account) (carried_same (is_carried own.account) lines others
            (sym found.1) h.carried);
        schedules = found.2;
      },
    )

-- ---- where a figure in force changes

-- the lines with other lookback totals
relined : (lines : List YearLine) (after : Entries)
    → ((line : YearLine) → Has lines line → (new : Cents) × HasLookback after line.year new)
    → (others : List YearLine) × (map year_of_line others ≡ map year_of_line lines)
    × ((line : YearLine) → Has others line → HasLookback after line.year line.lookback)
    × ((carried : Bool) → AreCarried carried lines → AreCarried carried others)
relined [] after f = ([], refl, (λ line h. absurd h), (λ carried h. tt))
relined (line ∷ lines) after f =
    let rest = relined lines after (λ x h. f x (inr h)) in
    let total = f line (inl refl) in
    let new : YearLine = record line { lookback = total.0 } in (
      new ∷ rest.0,
      ap (λ ys. line.year ∷ ys) rest.1,
      (λ x h. elim h [
        | inl is ↦ subst (λ (l : YearLine). HasLookback after l.year l.lookback) (sym is) total.1
        | inr has ↦ rest.2 x has
      ]),
      (λ carried h. (h.0, rest.3 false h.1)),
    )

from_same : (xs ys : List YearLine) (year : ℕ) → map year_of_line ys ≡ map year_of_line xs
    → YearsFrom year xs → YearsFrom year ys
from_same [] [] year e h = h
from_same [] (y ∷ ys) year e h = absurd cc
from_same (x ∷ xs) [] year e h = absurd cc
from_same (x ∷ xs) (y ∷ ys) year e h =
    let head : y.year ≡ x.year = cc in
    let tail : map year_of_line ys ≡ map year_of_line xs = cc in
    (head ∙ h.0, from_same xs ys (year + 1) tail h.1)

pub lines_again : (own after : Entries) (lines : List YearLine) → SameButFigures own after
    → AreLinesOf own lines → (others : List YearLine) × AreLinesOf after others
lines_again own after lines same h =
    let raw = relined lines after (λ line has.
    lookback_again own after same line.year line.lookback (h.lookbacks line has)) in
    let years : AreOpenYears raw.0 = (
      h.schedules.years.0,
      h.schedules.years.1,
      from_same lines raw.0 h.schedules.years.0 raw.1 h.schedules.years.2,
    ) in
    let found = lines_some (live_sums after) raw.0 years in
    let others = found.0 in (
      others,
      record {
        years = years_same others raw.0 found.1 ∙ raw.1 ∙ h.years ∙ rw (same.open_years) refl;
        lookbacks = lookbacks_like after others raw.0 found.1 raw.2;
        carried = subst (λ o. AreCarried (is_carried o) others) (sym same.account)
            (carried_same (is_carried own.account) raw.0 others
            (sym found.1) (raw.3 (is_carried own.account) h.carried));
        schedules = found.2;
      },
    )

pub owed_some : (holidays : List ℕ) (own : Entries) (lines : List YearLine) → AreLinesOf own lines
    → (rows : List Obligation) × AreOwed holidays own rows
owed_some holidays own lines h =
    let form = form_of own.account in
    let found = obligations_some form lines (live_sums own) holidays h.schedules in
    (found.0, (lines, h, rows_stated form lines (live_sums own) holidays found.0 found.1))
