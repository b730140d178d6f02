-- An obligation rests on the days up to the end of its deposit period.
use Rattle.ftd_rules.specs.declared.Form.{Form}
use Rattle.std.proofs.Common.{◌≡◌, ℕ, ◌+◌, ◌-◌, ◌≤◌, ◌<◌, ◌⊎◌, inl, inr, List, Bool, sym, ap, ◌∙◌}
use Rattle.std.proofs.Common.{subst, arith}
use Rattle.std.specs.Prelude.{min, map}
use Rattle.ftd_days.specs.Calendar.{last_day, month_of, month_start, year_start}
use Rattle.ftd_rules.specs.declared.DaySum.{DaySum}
use Rattle.ftd_rules.specs.declared.Rule.{Rule}
use Rattle.ftd_rules.specs.declared.YearLine.{YearLine}
use Rattle.ftd_rules.specs.declared.Obligation.{Obligation}
use Rattle.ftd_rules.specs.Liability.{liability}
use Rattle.ftd_rules.specs.Lists.{Has}
use Rattle.ftd_rules.specs.Obligations.{pieces, IsObligation}
use Rattle.ftd_rules.specs.Periods.{return_period_of, return_period_end, return_period_last}
use Rattle.ftd_rules.specs.Years.{year_last, basis_of, TurnedBefore, AreLines}
use Rattle.ftd_rules.specs.Laws.{EqualBefore}
use Rattle.ftd_rules.specs.Private.Stops.{IsStops}
use Rattle.ftd_rules.specs.Private.Years.{semiweekly_from}
use Rattle.ftd_rules.specs.Private.Periods.{rule_on, IsStretch}
use Rattle.ftd_rules.specs.Private.Obligations.{IsOwedPiece}
use Rattle.ftd_rules.specs.Private.Walk.{period_first, period_last}
use Rattle.ftd_rules.proofs.Cuts.{stops_from_cuts, cuts_from_stops}
use Rattle.ftd_rules.proofs.Walk.{cuts_same}
use Rattle.ftd_rules.proofs.Status.{first_monthly, last_monthly, rule_monthly, return_period_is}
use Rattle.ftd_rules.proofs.Schedules.{year_facts, year_divides}
use Rattle.ftd_rules.proofs.Pieces.{IsYear}
use Rattle.ftd_rules.proofs.Bridge.{period_is, period_only}
use Rattle.ftd_rules.proofs.Covering.{line_is, within_period}
use Rattle.ftd_rules.proofs.Stated.{piece_owed, owed_stated}
use Rattle.ftd_rules.proofs.Earlier.{IsFromLater, from_same, Alike, agrees, pair_of}

-- how both years divide their days
abbrev AreAlikeUpTo : YearLine → YearLine → ℕ → Type 0
AreAlikeUpTo line other day =
    (semiweekly_from line ≡ semiweekly_from other)
    ⊎ (IsFromLater line day × IsFromLater other day)

-- a month, cut where the year turns semiweekly, if it does so within it
month_cut : (s r b end year_end : ℕ) → b ≡ min (s - 1) end → b + 1 ≤ s → b + 1 ≤ r
    → ((b + 1 < s) ⊎ (s ≡ year_end + 1)) → ((b + 1 < r) ⊎ (r ≡ year_end + 1))
    → b ≤ year_end → min (r - 1) end ≤ year_end → min (r - 1) end ≡ b
month_cut s r b end year_end is from to (inl later) (inl also) l m = omega arith
month_cut s r b end year_end is from to (inl later) (inr none) l m = omega arith
month_cut s r b end year_end is from to (inr none) (inl later) l m = omega arith
month_cut s r b end year_end is from to (inr none) (inr also) l m = omega arith

at_least : (line : YearLine) (day : ℕ) → day ≤ year_last line.year + 1 → IsFromLater line day
    → day ≤ semiweekly_from line
at_least line day l (inl later) = omega arith
at_least line day l (inr none) = omega arith

-- a deposit period of the one year is one of the other, where both are alike up to its last day
period_later : (form : Form) (line other : YearLine) (a b : ℕ) → IsYear line → IsYear other
    → line.year ≡ other.year → AreAlikeUpTo line other (b + 1) → IsStretch form line a b
    → IsStretch form other a b
period_later form line other a b y z year alike p =
    let s = semiweekly_from line in
    let r = semiweekly_from other in
    let f = year_facts line.year y.0 y.1 in
    let f0 = f.0 in let f2 = f.2 in
    let g = year_facts other.year z.0 z.1 in
    let g0 = g.0 in let g2 = g.2 in
    let p0 = p.0 in let p1 = p.1 in let p2 = p.2 in
    let only = period_only form line a b f0 (omega arith) (year_divides form line y.0 y.1 y.2) p in
    let Within : ℕ → Type 0 = λ v. (year_start v ≤ a) × (b ≤ year_last v) in
    let within = subst Within year (p1, p2) in
    let within1 = within.1 in
    let there : IsStretch form other (period_first form r a) (period_last form r a) =
    period_is form other a g0 (omega arith) (year_divides form other z.0 z.1 z.2) within.0
    (omega arith) in
    elim alike [
      | inl same ↦
          let first : period_first form r a ≡ a =
          ap (λ v. period_first form v a) (sym same) ∙ only.0 in
          let last : period_last form r a ≡ b =
          ap (λ v. period_last form v a) (sym same) ∙ only.1 in
          rw (first, last) at there
      | inr later ↦
          let from = at_least line (b + 1) (omega arith) later.0 in
          let to = at_least other (b + 1) (omega arith) later.1 in
          let end : ℕ = month_start (month_of a + 1) - 1 in
          let first : period_first form r a ≡ a =
          first_monthly form r a (omega arith)
          ∙ (sym (first_monthly form s a (omega arith)) ∙ only.0) in
          let last_is = last_monthly form r a (omega arith) in
          let cut : b ≡ min (s - 1) end =
          sym only.1 ∙ last_monthly form s a (omega arith) in
          let also : (b + 1 < r) ⊎ (r ≡ year_last line.year + 1) =
          subst (λ v. (b + 1 < r) ⊎ (r ≡ year_last v + 1)) (sym year) later.1 in
          let top : period_last form r a ≤ year_last line.year =
          subst (λ v. period_last form r a ≤ year_last v) (sym year) there.2 in
          let last : period_last form r a ≡ b =
          last_is ∙ month_cut s r b end (year_last line.year) cut from to later.0 also p2
          (rw last_is at top) in
          rw (first, last) at there
    ]

rule_later : (line other : YearLine) (a b : ℕ) → a ≤ b → b ≤ year_last line.year
    → b ≤ year_last other.year → AreAlikeUpTo line other (b + 1)
    → rule_on (semiweekly_from line) a ≡ rule_on (semiweekly_from other) a
rule_later line other a b some l m (inl same) = ap (λ v. rule_on v a) same
rule_later line other a b some l m (inr later) =
    let from = at_least line (b + 1) (omega arith) later.0 in
    let to = at_least other (b + 1) (omega arith) later.1 in
    rule_monthly (semiweekly_from line) a (omega arith)
    ∙ sym (rule_monthly (semiweekly_from other) a (omega arith))

pub piece_later : (form : Form) (xs ys : List DaySum) (lines others : List YearLine)
    (holidays : List ℕ) (o : Obligation) (h : IsOwedPiece form lines xs holidays o)
    → Alike xs ys lines others (h.last + 1) → IsOwedPiece form others ys holidays o
piece_later form xs ys lines others holidays o h alike =
    let line = h.line in
    let p0 = h.period.0 in let p1 = h.period.1 in let p2 = h.period.2 in
    let y = line_is lines xs line alike.lines_are h.open_year in
    let p = pair_of xs ys lines others (h.last + 1) alike line h.open_year (omega arith) in
    let other = p.other in
    let z = line_is others ys other alike.others_are p.has in
    let year : line.year ≡ other.year = ap (λ (v : ℕ × ℕ × Bool). v.0) p.same in
    let agree = agrees xs ys lines others (h.last + 1) alike in
    let up : AreAlikeUpTo line other (h.last + 1) =
    from_same (TurnedBefore others line.year) (liability xs) (liability ys) line other
    (h.last + 1) p.same p.first p.second agree in
    let period = period_later form line other h.first h.last y z year up h.period in
    let rule = rule_later line other h.first h.last p0 p2 period.2 up in
    let within : (a b : ℕ) → h.first ≤ a → b ≤ h.last → liability ys a b ≡ liability xs a b =
    λ a b l m. agree a b (omega arith) in
    let inside = within_period form lines xs holidays o h in
    let stops : IsStops (liability ys) h.first h.last h.stops =
    stops_from_cuts (liability ys) h.first h.last h.stops
    (cuts_same (liability xs) (liability ys) 0 h.first h.last h.stops within
    (cuts_from_stops (liability xs) h.first h.last h.stops h.are_stops)) in
    record {
      line = other;
      open_year = p.has;
      first = h.first;
      last = h.last;
      period = period;
      stops = h.stops;
      are_stops = stops;
      piece = subst (λ (v : Rule). Has (pieces v h.first h.last h.stops)
          (o.first, o.last, o.rule)) rule h.piece;
      amount = h.amount ∙ sym (within o.first o.last inside.0 inside.2);
      positive = h.positive;
      due = h.due;
    }

-- an obligation is one also by other sums that are the same up to the end of its deposit period
pub obligation_later : (form : Form) (sums others : List DaySum)
    (lines other_lines : List YearLine) (holidays : List ℕ) (o : Obligation)
    (h : IsObligation form lines sums holidays o)
    → AreLines sums lines → AreLines others other_lines
    → map basis_of lines ≡ map basis_of other_lines → EqualBefore sums others (h.period_last + 1)
    → IsObligation form other_lines others holidays o
unfolding piece_owed
obligation_later form sums others lines other_lines holidays o h are also same equal =
    owed_stated form other_lines others holidays o
    (piece_later form sums others lines other_lines holidays o
    (piece_owed form lines sums holidays o h)
    (record { lines_are = are; others_are = also; same = same; equal = equal }))

-- it begins on a day, and its deposit period ends with the return period at the latest
pub ends_with_return : (form : Form) (sums : List DaySum) (lines : List YearLine)
    (holidays : List ℕ) (o : Obligation) (h : IsObligation form lines sums holidays o)
    → AreLines sums lines → (o.first ≤ last_day)
    × (h.period_last ≤ return_period_last form (return_period_of form o.first))
unfolding piece_owed
ends_with_return form sums lines holidays o h are =
    let y = line_is lines sums h.line are h.open_year in
    let f = year_facts h.line.year y.0 y.1 in
    let f2 = f.2 in
    let inside = within_period form lines sums holidays o (piece_owed form lines sums holidays o h)
    in
    let i0 = inside.0 in let i1 = inside.1 in let i2 = inside.2 in
    let p = h.period in
    let p0 = p.0 in let p1 = p.1 in let p2 = p.2 in
    let last = ((p.3 h.period_last (omega arith) p2).1 (p0, omega arith)).return_period in
    let first = ((p.3 o.first (omega arith) (omega arith)).1 (i0, omega arith)).return_period in
    let is = return_period_is form h.period_last (omega arith) in
    let end = subst (λ n. h.period_last < return_period_end form n) (last ∙ sym first) is.1 in
    (omega arith, omega arith)
