-- Which years open as before after the lookback total of one year has changed.
use Rattle.std.proofs.Common.{◌≡◌, ◌≢◌, ℕ, zero, suc, ◌+◌, ◌-◌, ◌<◌, ◌≤◌, ◌↔◌, inl, inr, Bool, refl}
use Rattle.std.proofs.Common.{sym, ap, ◌∙◌, subst, arith}
use Rattle.std.specs.Prelude.{IsTrue}
use Rattle.ftd_days.proofs.Years.{same_or_not}
use Rattle.ftd_days.specs.Calendar.{year_start}
use Rattle.ftd_rules.specs.declared.Kind.{Kind}
use Rattle.ftd_rules.specs.declared.Kind.TheVariants as kind
use Rattle.ftd_rules.specs.declared.YearLine.{YearLine}
use Rattle.ftd_rules.specs.Liability.{liability}
use Rattle.ftd_rules.specs.Lists.{Has}
use Rattle.ftd_rules.specs.Years.{HasSchedule, TurnedBefore, basis_of, year_last}
use Rattle.ftd_rules.specs.Private.Years.{IsScheduled, OpensBy, semiweekly_from}
use Rattle.ftd_rules.proofs.Covering.{line_is}
use Rattle.ftd_rules.proofs.Earlier.{counterpart}
use Rattle.ftd_rules.proofs.Lines.{line_equal}
use Rattle.ftd_rules.proofs.Pieces.{IsYear}
use Rattle.ftd_rules.proofs.Schedules.{cases_turn, from_none, from_semiweekly, from_turn, line_one}
use Rattle.ftd_rules.proofs.Schedules.{schedule_iff, turn_is, year_facts, years_within}
use Rattle.ftd_buckets.specs.Histories.{History, TurnOf}
use Rattle.ftd_buckets.specs.Windows.{IsYearOf}
use Rattle.ftd_buckets.proofs.Chain.{one_opening, turn_of_line}
use Rattle.ftd_repairs.specs.Reopening.{IsReopening}

-- a line whose turn is that of some day sums turns within its year
turn_within : (L : ℕ → ℕ → ℕ) (line : YearLine) → year_start line.year ≤ year_last line.year
    → TurnOf L line → year_start line.year ≤ semiweekly_from line
turn_within L line l (inl semi) = let e = from_semiweekly line semi.0 in omega arith
turn_within L line l (inr monthly) =
    elim (cases_turn line.turn) [
      | inl none ↦ (let e = from_none line monthly.0 none in omega arith)
      | inr some ↦
          (let e = from_turn line some.0 monthly.0 some.1 in
          let t = turn_is L line some.0 some.1 monthly.1 in
          let t0 = t.0.not_before in omega arith)
    ]

module _ (year : ℕ) (g h : History) (c : IsReopening year g h) where
  abbrev L : ℕ → ℕ → ℕ
  L = liability g.sums

  -- ---- the lines before and after

  -- each line after has the opening and the turn of the same day sums
  pub scheduled : (line : YearLine) → Has h.lines line
      → IsScheduled (TurnedBefore h.lines line.year) L line
  scheduled line has = subst (λ s. HasSchedule h.lines (liability s) line) c.same_sums
      (c.is_after.schedules line has)

  -- each line before has the turn of them
  pub turn_before : (line : YearLine) → Has g.lines line → TurnOf L line
  turn_before line has =
      elim (same_or_not line.year year) [
        | inl same ↦ c.turn line has same
        | inr apart ↦ turn_of_line (TurnedBefore g.lines line.year) L line
            (c.others line has apart)
      ]

  pub year_before : (line : YearLine) → Has g.lines line → IsYear line
  year_before line has =
      let years = c.years in
      let first = years.1 in
      let w = years_within years.0 g.lines line years.2 has in
      let w0 = w.0 in let w1 = w.1 in
      let f = year_facts line.year (omega arith) w1 in
      (omega arith, w1, turn_within L line f.1 (turn_before line has))

  pub year_after : (line : YearLine) → Has h.lines line → IsYear line
  year_after line has = line_is h.lines h.sums line c.is_after has

  pub line_after : (line : YearLine) → Has g.lines line → (other : YearLine) × Has h.lines other
      × (basis_of line ≡ basis_of other)
  line_after line has = counterpart g.lines h.lines line c.same_years has

  pub line_before : (line : YearLine) → Has h.lines line → (other : YearLine) × Has g.lines other
      × (basis_of line ≡ basis_of other)
  line_before line has = counterpart h.lines g.lines line (sym c.same_years) has

  -- the lines of one year have one basis
  pub basis_same : (old new : YearLine) → IsYearOf g h old new → basis_of old ≡ basis_of new
  basis_same old new is =
      let k = line_after old is.is_old in
      let years = c.is_after.years in
      let of_year : k.0.year ≡ new.year = sym (ap (λ (z : ℕ × ℕ × Bool). z.0) k.2) ∙ is.same in
      let same : k.0 ≡ new = line_one years.0 h.lines k.0 new years.2 k.1 is.is_new of_year in
      k.2 ∙ ap basis_of same

  -- ---- the years that stay

  -- the line of the year is the same after
  abbrev pub Stays : ℕ → Type 0
  Stays n = (line : YearLine) → Has g.lines line → line.year ≡ n → Has h.lines line

  -- so it was the same before
  pub stays_back : (n : ℕ) → Stays n → (line : YearLine) → Has h.lines line → line.year ≡ n
      → Has g.lines line
  stays_back n same line has of_year =
      let k = line_before line has in
      let years = c.is_after.years in
      let other : line.year ≡ k.0.year = ap (λ (z : ℕ × ℕ × Bool). z.0) k.2 in
      let one : k.0 ≡ line = line_one years.0 h.lines k.0 line years.2
      (same k.0 k.1 (sym other ∙ of_year)) has (sym other) in
      subst (λ (z : YearLine). Has g.lines z) one k.1

  pub turned_fore : (n : ℕ) → Stays n → TurnedBefore g.lines (n + 1) → TurnedBefore h.lines (n + 1)
  turned_fore n same t =
      let t2 = t.2 in (t.0, same t.0 t.1 (omega arith), t.2, t.3)

  pub turned_back : (n : ℕ) → Stays n → TurnedBefore h.lines (n + 1) → TurnedBefore g.lines (n + 1)
  turned_back n same t =
      let t2 = t.2 in (t.0, stays_back n same t.0 t.1 (omega arith), t.2, t.3)

  -- another year stays, where the year before it turns alike
  line_stays : (line : YearLine) → Has g.lines line → line.year ≢ year
      → (TurnedBefore g.lines line.year → TurnedBefore h.lines line.year)
      → (TurnedBefore h.lines line.year → TurnedBefore g.lines line.year) → Has h.lines line
  line_stays line has apart fore back =
      let k = line_after line has in
      let of_year : line.year ≡ k.0.year = ap (λ (z : ℕ × ℕ × Bool). z.0) k.2 in
      let T : Type 0 = TurnedBefore h.lines line.year in
      let old = schedule_iff (TurnedBefore g.lines line.year) T L line fore back
      (c.others line has apart) in
      let P : ℕ → Type 0 = λ z. IsScheduled (TurnedBefore h.lines z) L k.0 in
      let new : IsScheduled T L k.0 = subst P (sym of_year) (scheduled k.0 k.1) in
      let equal = line_equal T L line k.0 k.2 old new in
      subst (λ (z : YearLine). Has h.lines z) (sym equal) k.1

  next_stays : (n : ℕ) → n + 1 ≢ year → Stays n → Stays (n + 1)
  next_stays n apart same line has of_year =
      let Fore : ℕ → Type 0 = λ z. TurnedBefore g.lines z → TurnedBefore h.lines z in
      let Back : ℕ → Type 0 = λ z. TurnedBefore h.lines z → TurnedBefore g.lines z in
      line_stays line has (λ e. apart (sym of_year ∙ e))
      (subst Fore (sym of_year) (turned_fore n same)) (subst Back (sym of_year) (turned_back n
      same))

  -- the years before the year
  pub earlier_stay : (n : ℕ) → n < year → Stays n
  earlier_stay zero before = λ line has of_year.
      (let y = year_before line has in let y0 = y.0 in absurd (omega arith))
  earlier_stay (suc n) before =
      let e : suc n ≡ n + 1 = omega arith in
      subst Stays (sym e) (next_stays n (λ same. absurd (omega arith))
      (earlier_stay n (omega arith)))

  later_by : (n k : ℕ) → year ≤ n → Stays n → Stays (n + k)
  later_by n zero from same = subst Stays (let e : n ≡ n + 0 = omega arith in e) same
  later_by n (suc k) from same =
      let e : n + k + 1 ≡ n + suc k = omega arith in
      subst Stays e (next_stays (n + k) (λ over. absurd (omega arith)) (later_by n k from same))

  -- from a year on that stays, all do
  pub later_stay : (n : ℕ) → year ≤ n → Stays n → (m : ℕ) → n ≤ m → Stays m
  later_stay n from same m on =
      let e : n + (m - n) ≡ m = omega arith in
      subst Stays e (later_by n (m - n) from same)

  -- a year that opens as before has the same line
  pub opening_same : (old new : YearLine) → IsYearOf g h old new → old.opening ≡ new.opening
      → new ≡ old
  opening_same old new is opening =
      one_opening L old new (basis_same old new is) opening (turn_before old is.is_old)
      (turn_of_line (TurnedBefore h.lines new.year) L new (scheduled new is.is_new))

  pub stays_of : (old new : YearLine) → IsYearOf g h old new → new ≡ old → Stays old.year
  stays_of old new is same line has of_year =
      let years = c.years in
      let one : line ≡ old = line_one years.0 g.lines line old years.2 has is.is_old of_year in
      subst (λ (z : YearLine). Has h.lines z) (same ∙ sym one) is.is_new

  -- ---- how a year opens

  -- what is known of the turn of the year before tells the opening after
  pub opens_is : (old new : YearLine) (turned : Bool) (opens : Kind) → IsYearOf g h old new
      → (IsTrue turned → TurnedBefore h.lines old.year)
      → (TurnedBefore h.lines old.year → IsTrue turned)
      → opens ≡ kind.Semiweekly ↔ OpensBy (IsTrue turned) old → opens ≡ new.opening
  opens_is old new turned opens is fore back told =
      let e = basis_same old new is in
      let lookback : old.lookback.0 ≡ new.lookback.0 = ap (λ (z : ℕ × ℕ × Bool). z.1) e in
      let carried : old.carried ≡ new.carried = ap (λ (z : ℕ × ℕ × Bool). z.2) e in
      let same = is.same in
      let T : Type 0 = TurnedBefore h.lines old.year in
      let P : ℕ → Type 0 = λ z. IsScheduled (TurnedBefore h.lines z) L new in
      let its : IsScheduled T L new = subst P (sym same) (scheduled new is.is_new) in
      let fore_by : OpensBy (IsTrue turned) old → OpensBy T new =
      λ o. elim o [
        | inl much ↦ inl (omega arith)
        | inr on ↦ elim on [
          | inl carries ↦ inr (inl (subst IsTrue carried carries))
          | inr turns ↦ inr (inr (fore turns))
        ]
      ] in
      let back_by : OpensBy T new → OpensBy (IsTrue turned) old =
      λ o. elim o [
        | inl much ↦ inl (omega arith)
        | inr on ↦ elim on [
          | inl carries ↦ inr (inl (subst IsTrue (sym carried) carries))
          | inr turns ↦ inr (inr (back turns))
        ]
      ] in
      elim its [
        | inl semi ↦ told.1 (back_by semi.1) ∙ sym semi.0
        | inr monthly ↦ is_monthly opens (λ s. monthly.1 (fore_by (told.0 s))) ∙ sym monthly.0
      ]
    where
      is_monthly : (k : Kind) → (k ≡ kind.Semiweekly → ⊥) → k ≡ kind.Monthly
      is_monthly kind.Monthly none = refl
      is_monthly kind.Semiweekly none = absurd (none refl)
