-- Lines that differ in their lookback totals alone: the same years turn, and the same is owed.
use Rattle.std.proofs.Common.{◌≡◌, ◌≢◌, ◌+◌, ◌++◌, ◌∷◌, ℕ, List, inl, inr, map, refl, sym}
use Rattle.std.proofs.Common.{ap, ◌∙◌, subst}
use Rattle.std.specs.Prelude.{IsSome}
use Rattle.ftd_days.specs.declared.cents.Cents.{Cents}
use Rattle.ftd_rules.specs.declared.DaySum.{DaySum}
use Rattle.ftd_rules.specs.declared.Form.{Form}
use Rattle.ftd_rules.specs.declared.Obligation.{Obligation}
use Rattle.ftd_rules.specs.declared.YearLine.{YearLine}
use Rattle.ftd_rules.specs.Liability.{liability}
use Rattle.ftd_rules.specs.Lists.{Has}
use Rattle.ftd_rules.specs.Obligations.{AreObligations, IsObligation}
use Rattle.ftd_rules.specs.Years.{AreLines, TurnedBefore}
use Rattle.ftd_rules.specs.Years.{YearsFrom, basis_of}
use Rattle.ftd_rules.proofs.Owed.{has_append, has_left, has_right}
use Rattle.ftd_rules.proofs.Resting.{piece_anew}
use Rattle.ftd_rules.proofs.Schedules.{schedule_iff}
use Rattle.ftd_rules.proofs.Stated.{owed_stated, piece_owed}
use Rattle.ftd_buckets.specs.Histories.{TurnOf}
use Rattle.ftd_buckets.proofs.Chain.{turn_of_line}
use Rattle.ftd_machine.proofs.Those.{AreScheduledAs, HaveSameSchedules}
use Rattle.ftd_store.proofs.Items.{has_middle}
use Rattle.ftd_repairs.specs.Reopened.{IsAmong, lines_with}
use Rattle.ftd_repairs.specs.Reopening.{IsReopening, with_total}
use Rattle.ftd_repairs.proofs.Putting.{years_put}

-- ---- one line

-- the other line is this one with another lookback total, or with its own
abbrev pub IsTotaled : YearLine → YearLine → Type 0
IsTotaled line other = (total : Cents) × (other ≡ with_total total line)

totaled_back : (line other : YearLine) → IsTotaled line other → IsTotaled other line
totaled_back line other (total, is) = (line.lookback, ap (with_total line.lookback) (sym is))

-- ---- lines

-- each of the lines is one of the others, but for its lookback total
abbrev pub AreTotaled : List YearLine → List YearLine → Type 0
AreTotaled lines others = (line : YearLine) → Has lines line
    → (other : YearLine) × Has others other × IsTotaled line other

owed_too : (form : Form) (lines others : List YearLine) (sums : List DaySum) (holidays : List ℕ)
    (o : Obligation) → AreTotaled lines others → IsObligation form lines sums holidays o
    → IsObligation form others sums holidays o
owed_too form lines others sums holidays o are owed =
    let piece = piece_owed form lines sums holidays o owed in
    let k = are piece.line piece.open_year in
    owed_stated form others sums holidays o
    (piece_anew form lines others sums sums holidays holidays o k.2.0 o.due piece
    (subst (λ (z : YearLine). Has others z) k.2.1 k.1) (λ a b from to. refl) piece.due)

turned_too : (lines others : List YearLine) (year : ℕ) → AreTotaled lines others
    → TurnedBefore lines year → TurnedBefore others year
turned_too lines others year are t =
    let k = are t.0 t.1 in
    let its : (before : YearLine) × Has others before × (before.year + 1 ≡ year)
    × IsSome before.turn = (
      with_total k.2.0 t.0,
      subst (λ (z : YearLine). Has others z) k.2.1 k.1,
      t.2,
      t.3,
    ) in
    its

-- one line of these with another lookback total
one_totaled : (earlier later : List YearLine) (line other : YearLine) → IsTotaled line other
    → AreTotaled (earlier ++ line ∷ later) (earlier ++ other ∷ later)
one_totaled earlier later line other is x has =
    elim (has_append earlier (line ∷ later) x has) [
      | inl before ↦ (x, has_left earlier (other ∷ later) x before, (x.lookback, refl))
      | inr (inl here) ↦
          (other, has_middle earlier other later, (is.0, is.1 ∙ ap (with_total is.0) (sym here)))
      | inr (inr after) ↦
          (x, has_right earlier (other ∷ later) x (inr after), (x.lookback, refl))
    ]

-- ---- the lines of an account, with another lookback total of one year

module _ (year : ℕ) (lines : List YearLine) (among : IsAmong year lines) (total : Cents) where
  abbrev With : List YearLine
  With = lines_with year lines among total

  with_are : AreTotaled lines With
  with_are = subst (λ (ls : List YearLine). AreTotaled ls With) (sym among.cut)
      (one_totaled among.earlier among.later among.line (with_total total among.line) (total, refl))

  without_are : AreTotaled With lines
  without_are = subst (λ (ls : List YearLine). AreTotaled With ls) (sym among.cut)
      (one_totaled among.earlier among.later (with_total total among.line) among.line
      (totaled_back among.line (with_total total among.line) (total, refl)))

  pub owed_with : (form : Form) (sums : List DaySum) (holidays : List ℕ) (o : Obligation)
      → IsObligation form lines sums holidays o → IsObligation form With sums holidays o
  owed_with form sums holidays o = owed_too form lines With sums holidays o with_are

  pub owed_without : (form : Form) (sums : List DaySum) (holidays : List ℕ) (o : Obligation)
      → IsObligation form With sums holidays o → IsObligation form lines sums holidays o
  owed_without form sums holidays o = owed_too form With lines sums holidays o without_are

  -- the same is owed
  pub obligations_with : (form : Form) (sums : List DaySum) (holidays : List ℕ)
      (rows : List Obligation) → AreObligations form lines sums holidays rows
      → AreObligations form With sums holidays rows
  obligations_with form sums holidays rows are = record {
    by_first_day = are.by_first_day;
    all = λ o. (
      (λ has. owed_with form sums holidays o ((are.all o).0 has)),
      (λ owed. (are.all o).1 (owed_without form sums holidays o owed)),
    );
  }

  -- another year has the line that it had
  other_line : (line : YearLine) → Has With line → line.year ≢ year → Has lines line
  other_line line has apart =
      subst (λ (ls : List YearLine). Has ls line) (sym among.cut)
      (elim (has_append among.earlier (with_total total among.line ∷ among.later) line has) [
        | inl before ↦ has_left among.earlier (among.line ∷ among.later) line before
        | inr (inl here) ↦
            absurd (apart (ap (λ (z : YearLine). z.year) here ∙ among.of_year))
        | inr (inr after) ↦ has_right among.earlier (among.line ∷ among.later) line (inr after)
      ])

  -- lines of the same years with the total, which have the openings and turns of the day sums
  pub reopening_of : (sums : List DaySum) (others : List YearLine) → AreLines sums lines
      → AreLines sums others → map basis_of With ≡ map basis_of others
      → IsReopening year (record { lines = With; sums = sums })
      (record { lines = others; sums = sums })
  reopening_of sums others are others_are same =
      let first = are.years.0 in
      let L : ℕ → ℕ → ℕ = liability sums in
      record {
        years = (
          first,
          are.years.1,
          years_put first among.earlier among.line (with_total total among.line) among.later refl
              (subst (YearsFrom first) among.cut are.years.2),
        );
        turn = λ line has of_year.
            (let k = without_are line has in
            subst (λ (z : YearLine). TurnOf L z) k.2.1
            (turn_of_line (TurnedBefore lines k.0.year) L k.0 (are.schedules k.0 k.1)));
        others = λ line has apart.
            schedule_iff (TurnedBefore lines line.year) (TurnedBefore With line.year) L line
            (turned_too lines With line.year with_are) (turned_too With lines line.year without_are)
            (are.schedules line (other_line line has apart));
        is_after = others_are;
        same_years = same;
        same_sums = refl;
      }

  totaled_scheduled : (xs ys : List YearLine) → AreTotaled xs ys → AreScheduledAs xs ys
  totaled_scheduled xs ys are x has =
      let k = are x has in
      let is : k.0 ≡ with_total k.2.0 x = k.2.1 in (
        k.0,
        k.1,
        (
          sym (ap (λ (z : YearLine). z.year) is),
          sym (ap (λ (z : YearLine). z.opening) is),
          sym (ap (λ (z : YearLine). z.turn) is),
        ),
      )

  -- they have the schedules that they had
  pub schedules_with : HaveSameSchedules With lines
  schedules_with =
      (totaled_scheduled With lines without_are, totaled_scheduled lines With with_are)
