-- How a repair goes on from the end of a year, as its lines show it.
use Rattle.ftd_rules.specs.declared.Form.{Form}
use Rattle.std.proofs.Common.{◌≡◌, ℕ, ◌+◌, ◌≤◌, ◌↔◌, List, [], ◌∷◌, ◌++◌, drop, sym, ap, ◌∙◌, subst}
use Rattle.std.proofs.Common.{arith}
use Rattle.std.specs.Prelude.{IsTrue, is_some}
use Rattle.std.specs.List.{All}
use Rattle.std.proofs.lemmas.List.Elements.{All-tail}
use Rattle.ftd_days.specs.Calendar.{year_start}
use Rattle.ftd_rules.specs.declared.YearLine.{YearLine}
use Rattle.ftd_rules.specs.declared.Kind.{Kind}
use Rattle.ftd_rules.specs.declared.Kind.TheVariants as kind
use Rattle.ftd_rules.specs.Years.{YearsFrom, AreOpenYears, year_last}
use Rattle.ftd_rules.specs.Private.Years.{OpensBy}
use Rattle.ftd_rules.proofs.Schedules.{years_top}
use Rattle.ftd_rules.proofs.Covering.{line_is}
use Rattle.ftd_buckets.specs.declared.Window.{Window}
use Rattle.ftd_buckets.specs.declared.Patch.{Patch}
use Rattle.ftd_buckets.specs.declared.state.Progress.{Progress}
use Rattle.ftd_buckets.specs.declared.state.Stage.TheVariants as stage
use Rattle.ftd_buckets.specs.Histories.{History, AreLast, TurnsWithin}
use Rattle.ftd_buckets.specs.Windows.{IsNeeded, IsNext}
use Rattle.ftd_buckets.specs.Patches.{IsPatch}
use Rattle.ftd_buckets.specs.Ready.{Repairing}
use Rattle.ftd_buckets.specs.Standing.{Stands}
use Rattle.ftd_buckets.specs.Private.Answered.{IsAtYearEnd, IsSettledYear}
use Rattle.ftd_buckets.proofs.Years.{none_after}
use Rattle.ftd_buckets.proofs.Steps.{settled_done, settled_next, next_of, same_next}

-- the line after the first one
pub record NextLine (lines later : List YearLine) (line next : YearLine) : Type 0 where
  pub are : lines ≡ line ∷ next ∷ drop 1 later
  pub years : AreOpenYears later
  pub turns : All TurnsWithin later
  pub end : next.year ≤ 2098

pub next_line : (lines : List YearLine) (to year : ℕ) (later : List YearLine) (next : YearLine)
    → (r : IsAtYearEnd lines to year) → later ≡ drop 1 lines → later ≡ next ∷ drop 1 later
    → NextLine lines later r.line next
next_line lines to year later next r back e =
    let rest : drop 1 lines ≡ r.later = ap (λ (z : List YearLine). drop 1 z) r.lines_are in
    let same : r.later ≡ later = sym rest ∙ sym back in
    let are : lines ≡ r.line ∷ next ∷ drop 1 later = r.lines_are
    ∙ ap (λ (z : List YearLine). r.line ∷ z) (same ∙ e) in
    let y = r.years in
    let y1 = y.1 in
    let from : YearsFrom y.0 (r.line ∷ next ∷ drop 1 later) =
    subst (λ (z : List YearLine). YearsFrom y.0 z) are y.2 in
    let t : All TurnsWithin (r.line ∷ next ∷ drop 1 later) =
    subst (λ (z : List YearLine). All TurnsWithin z) are r.turns in
    let top = years_top (y.0 + 1 + 1) (drop 1 later) from.1.1 in
    let f1 = from.1.0 in
    let tail = from.1 in
    record {
      are = are;
      years = (
        y.0 + 1,
        omega arith,
        subst (λ (z : List YearLine). YearsFrom (y.0 + 1) z)
            (sym e) tail,
      );
      turns = subst (λ (z : List YearLine). All TurnsWithin z) (sym e)
          (All-tail TurnsWithin r.line (next ∷ drop 1 later) t);
      end = omega arith;
    }

pub same_line : (lines : List YearLine) (x y : YearLine) (xs ys : List YearLine) → lines ≡ x ∷ xs
    → lines ≡ y ∷ ys → x ≡ y
same_line lines x y xs ys g h = let e : ◌≡◌ {A = List YearLine} (x ∷ xs) (y ∷ ys) = sym g ∙ h in cc

pub onward_last : (form : Form) → (day : ℕ) (holidays : List ℕ) (before after : History)
    (s : Progress) (new : YearLine) (patch : Patch)
    → (k : IsSettledYear form day holidays before after s new)
    → IsAtYearEnd s.lines.now s.asked.to new.year
    → drop 1 s.lines.now ≡ [] → patch.from ≡ s.from → patch.to ≡ s.asked.to
    → patch.rows ≡ s.rows.items → patch.years ≡ s.years.items ++ (new ∷ [])
    → IsPatch form day before after holidays s.asked patch
    × ((w : Window) → IsNeeded form day before after w → w.from ≤ s.asked.to)
onward_last form day holidays before after s new patch k r none from to rows years =
    let c = k.common.change in
    let line : r.line ≡ k.old = same_line s.lines.now r.line k.old r.later k.common.later
    r.lines_are k.common.lines_are in
    let empty : k.common.later ≡ [] = sym (ap (λ (z : List YearLine). drop 1 z) k.common.lines_are)
    ∙ none in
    let only : s.lines.now ≡ k.old ∷ [] = k.common.lines_are
    ∙ ap (λ (z : List YearLine). k.old ∷ z) empty in
    let last = subst (λ (z : List YearLine). AreLast before z) only k.common.last in
    settled_done form day holidays before after s s.asked new patch k
    (r.is_to ∙ ap (λ (z : YearLine). year_last z.year) line)
    (none_after before after k.old c.is_before last) from to rows years

-- the lines that are left, where a year goes on to the next
ahead_of : (form : Form) → (day : ℕ) (holidays : List ℕ) (before after : History)
    (s : Progress) (new : YearLine) (later : List YearLine) (next : YearLine)
    → (k : IsSettledYear form day holidays before after s new)
    → (r : IsAtYearEnd s.lines.now s.asked.to new.year) → later ≡ drop 1 s.lines.now
    → later ≡ next ∷ drop 1 later
    → (r.line ≡ k.old) × AreLast before (k.old ∷ next ∷ drop 1 later)
ahead_of form day holidays before after s new later next k r back e =
    let n = next_line s.lines.now s.asked.to new.year later next r back e in
    let line : r.line ≡ k.old = same_line s.lines.now r.line k.old r.later k.common.later
    r.lines_are k.common.lines_are in
    let are : s.lines.now ≡ k.old ∷ next ∷ drop 1 later = n.are
    ∙ ap (λ (z : YearLine). z ∷ next ∷ drop 1 later) line in
    (line, subst (λ (z : List YearLine). AreLast before z) are k.common.last)

pub onward_done : (form : Form) → (day : ℕ) (holidays : List ℕ) (before after : History)
    (s : Progress) (new : YearLine) (patch : Patch) (later : List YearLine) (next : YearLine)
    (opens : Kind)
    → (k : IsSettledYear form day holidays before after s new)
    → IsAtYearEnd s.lines.now s.asked.to new.year → later ≡ drop 1 s.lines.now
    → later ≡ next ∷ drop 1 later
    → opens ≡ kind.Semiweekly ↔ OpensBy (IsTrue (is_some new.turn)) next → opens ≡ next.opening
    → patch.from ≡ s.from → patch.to ≡ s.asked.to → patch.rows ≡ s.rows.items
    → patch.years ≡ s.years.items ++ (new ∷ [])
    → IsPatch form day before after holidays s.asked patch
    × ((w : Window) → IsNeeded form day before after w → w.from ≤ s.asked.to)
onward_done form day holidays before after s new patch later next opens k r back e is same from to
    rows years =
    let c = k.common.change in
    let ahead = ahead_of form day holidays before after s new later next k r back e in
    let y = line_is before.lines before.sums k.old c.is_before k.common.year.is_old in
    let next_is = next_of day before after c k.old new next (drop 1 later) opens k.common.year
    ahead.1 is in
    settled_done form day holidays before after s s.asked new patch k
    (r.is_to ∙ ap (λ (z : YearLine). year_last z.year) ahead.0)
    (same_next day before after c k.old new next (drop 1 later) opens next_is y.0 y.1 k.day_before
    same) from to rows years

pub onward_next : (form : Form) → (day : ℕ) (holidays : List ℕ) (before after : History)
    (s : Progress) (new : YearLine) (later : List YearLine) (next : YearLine) (opens : Kind)
    (q : Repairing)
    → (k : IsSettledYear form day holidays before after s new)
    → IsAtYearEnd s.lines.now s.asked.to new.year → later ≡ drop 1 s.lines.now
    → later ≡ next ∷ drop 1 later
    → opens ≡ kind.Semiweekly ↔ OpensBy (IsTrue (is_some new.turn)) next
    → (opens ≡ next.opening → ⊥)
    → q.lines ≡ later → q.holidays ≡ holidays → q.from ≡ s.from
    → q.asked ≡ record { from = year_start next.year; to = year_last next.year }
    → q.rows ≡ s.rows.items → q.years ≡ s.years.items ++ (new ∷ [])
    → q.stage ≡ stage.Year (is_some new.turn)
    → Stands form day holidays before after q × IsNext form day before after s.asked q.asked
onward_next form day holidays before after s new later next opens q k r back e is other lines
    calendar from asked rows years at =
    let c = k.common.change in
    let ahead = ahead_of form day holidays before after s new later next k r back e in
    let next_is = next_of day before after c k.old new next (drop 1 later) opens k.common.year
    ahead.1 is in
    settled_next form day holidays before after s s.asked new next (drop 1 later) opens q k
    (r.is_to ∙ ap (λ (z : YearLine). year_last z.year) ahead.0) next_is other
    (lines ∙ e) calendar from asked rows years at
