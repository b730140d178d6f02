-- What is assessed of one account.
use Rattle.std.proofs.Common.{◌≡◌, ℕ, ◌+◌, ◌*◌, ◌<◌, ◌≤◌, Bool, true, false, List, [], ◌∷◌, map}
use Rattle.std.proofs.Common.{length, refl, sym, ap, subst, ◌∙◌, arith, inl, inr}
use Rattle.std.specs.Prelude.{IsTrue, All, filter}
use Rattle.std.specs.List.{sum_by}
use Rattle.std.proofs.lemmas.Bool.{cases_Bool, and_parts, leb-true, true≢false}
use Rattle.std.proofs.lemmas.List.Sums.{sum_by-cons}
use Rattle.ftd_days.specs.Calendar.{year_of, year_start}
use Rattle.ftd_days.specs.declared.cents.Cents.{Cents}
use Rattle.ftd_days.proofs.Months.{early_year}
use Rattle.ftd_rules.specs.declared.TheConstants.{AMOUNTS_END, MOST_CENTS}
use Rattle.ftd_rules.specs.declared.DaySum.{DaySum}
use Rattle.ftd_rules.specs.declared.YearLine.{YearLine}
use Rattle.ftd_rules.specs.declared.run.PayRun.{PayRun}
use Rattle.ftd_rules.specs.declared.run.Voidable.{Voidable}
use Rattle.ftd_rules.specs.Lists.{Has}
use Rattle.ftd_rules.specs.Liability.{cents_of}
use Rattle.ftd_rules.specs.Years.{AreOpenYears, OnlyFirstCarried, LiesInYears, AreLines, basis_of}
use Rattle.ftd_rules.specs.Years.{year_last}
use Rattle.ftd_rules.proofs.Earlier.{counterpart}
use Rattle.ftd_rules.proofs.Members.{mapped_has, has_mapped}
use Rattle.ftd_rules.proofs.Rising.{all_has, has_all}
use Rattle.ftd_rules.proofs.Schedules.{year_holds}
use Rattle.ftd_machine.specs.Limits.{is_amount, are_amounts}
use Rattle.ftd_machine.specs.Sound.{Follow}
use Rattle.ftd_machine.specs.History.{AreCarried, AreLinesOf, year_of_line}
use Rattle.ftd_machine.proofs.Lined.{open_years_of, between_is, years_same}
use Rattle.ftd_machine.proofs.Members.{has_filtered}
use Rattle.ftd_sound.specs.declared.own.Own.{Own}
use Rattle.ftd_sound.specs.declared.figures.Figures.{Figures}
use Rattle.ftd_sound.specs.Entered.{entries_in}
use Rattle.ftd_sound.specs.Private.Plain.{account_now, IsYear, IsRun, IsSoundButTotals}
use Rattle.ftd_sound.specs.Private.Lines.{IsTotal, HaveTotals, AreBegun, is_live_run}
use Rattle.ftd_sound.specs.Private.Lines.{sum_of, sums_in}
use Rattle.ftd_sound.proofs.NamedLines.{AreFigures, sums_named, total_named, years_are}

-- ---- the sum of all amounts

amounts_small : (run : PayRun) → are_amounts run ≡ true
    → run.fit.0 + run.ss.0 + run.medicare.0 ≤ 299_999_999_997
amounts_small run is =
    let first = and_parts (is_amount run.fit) _ is in
    let rest = and_parts (is_amount run.ss) (is_amount run.medicare) first.1 in
    let a = leb-true run.fit.0 MOST_CENTS first.0 in
    let b = leb-true run.ss.0 MOST_CENTS rest.0 in
    let c = leb-true run.medicare.0 MOST_CENTS rest.1 in
    omega arith

sums_small : (runs : List (ℕ × Voidable PayRun))
    → ((e : ℕ × Voidable PayRun) → Has runs e → are_amounts e.1.value ≡ true)
    → sum_by cents_of (sums_in runs) ≤ 299_999_999_997 * length runs
sums_small [] h = omega arith
sums_small (x ∷ xs) h =
    let rest = sums_small xs (λ e has. h e (inr has)) in
    let here = amounts_small x.1.value (h x (inl refl)) in
    elim (cases_Bool x.1.voided) [
      | inl voided ↦ rw voided (omega arith)
      | inr live ↦
          let sum = sum_by-cons cents_of (sum_of x) (sums_in xs) in
          rw live (omega arith)
    ]

-- ---- carried

none_carried : (lines : List YearLine) → AreCarried false lines → (other : YearLine)
    → Has lines other → IsTrue other.carried → ⊥
none_carried [] h other has is = has
none_carried (line ∷ lines) h other (inl same) is =
    true≢false (sym is ∙ ap (λ (l : YearLine). l.carried) same ∙ h.0)
none_carried (line ∷ lines) h other (inr has) is = none_carried lines h.1 other has is

only_first : (carried : Bool) (lines : List YearLine) → AreCarried carried lines
    → OnlyFirstCarried lines
only_first carried [] h = tt
only_first carried (line ∷ lines) h = none_carried lines h.1

carried_same : (b : Bool) (xs ys : List YearLine) → map basis_of xs ≡ map basis_of ys
    → AreCarried b xs → AreCarried b ys
carried_same b [] [] e h = tt
carried_same b [] (y ∷ ys) e h = absurd cc
carried_same b (x ∷ xs) [] e h = absurd cc
carried_same b (x ∷ xs) (y ∷ ys) e h =
    let head : ◌≡◌ {A = ℕ × ℕ × Bool} (basis_of x) (basis_of y) = cc in
    let tail : map basis_of xs ≡ map basis_of ys = cc in
    let flag : x.carried ≡ y.carried = ap (λ (z : ℕ × ℕ × Bool). z.2) head in
    (sym flag ∙ h.0, carried_same false xs ys tail h.1)

-- ---- lines that are begun

module _ (given : List ℕ) (own : Own) (figures : Figures) (lines : List YearLine)
    (own_is : IsSoundButTotals given own)
    (begun : AreBegun (account_now own) figures own.open_years.items lines) where
  opened : (year : ℕ) → Has own.open_years.items year → (2001 ≤ year) × (year ≤ 2098)
  opened year has = between_is year (has_all (λ year. IsYear given (account_now own) year)
      own.open_years.items own_is.open_years.each year has).is_open_year

  year_has : (line : YearLine) → Has lines line → Has own.open_years.items line.year
  year_has line has =
      subst (λ ys. Has ys line.year) begun.years_are (mapped_has year_of_line lines line has)

  line_of : (year : ℕ) → Has own.open_years.items year
      → (line : YearLine) × Has lines line × (year ≡ line.year)
  line_of year has =
      has_mapped year_of_line lines year (subst (λ ys. Has ys year) (sym begun.years_are) has)

  pub lines_open : AreOpenYears lines
  lines_open = open_years_of lines (subst Follow (sym begun.years_are) own_is.open_years.in_turn)
      (λ line has. opened line.year (year_has line has))

  pub first_carried : OnlyFirstCarried lines
  first_carried = only_first (account_now own).carried lines begun.carried

  lies : (day : ℕ) → Has own.open_years.items (year_of day) → LiesInYears lines day
  lies day has =
      let from = line_of (year_of day) has in
      let of = opened (year_of day) has in
      let of1 = of.1 in
      let early = early_year day (omega arith) in
      let holds = year_holds day (omega arith) in
      let P : ℕ → Type 0 = λ year. (year_start year ≤ day) × (day ≤ year_last year) in
      let within = subst P from.2 holds in
      (from.0, from.1, within.0, within.1)

  pub sums_lie : All (λ (s : DaySum). LiesInYears lines s.day) (sums_in own.runs.items)
  sums_lie = all_has (λ (s : DaySum). LiesInYears lines s.day) (sums_in own.runs.items)
      (λ s has. (let of = has_mapped sum_of (filter is_live_run own.runs.items) s has in
      let run = has_filtered is_live_run own.runs.items of.0 of.1 in
      let is = has_all
      (λ (e : ℕ × Voidable PayRun). IsRun (account_now own) own.open_years.items e)
      own.runs.items own_is.runs.each of.0 run.0 in
      subst (λ (s : DaySum). LiesInYears lines s.day) (sym of.2)
      (lies of.0.1.value.payday is.payday)))

  pub sums_bounded : sum_by cents_of (sums_in own.runs.items) < AMOUNTS_END
  sums_bounded =
      let few = own_is.runs.count in
      let most = sums_small own.runs.items (λ e has. (has_all
      (λ (e : ℕ × Voidable PayRun). IsRun (account_now own) own.open_years.items e)
      own.runs.items own_is.runs.each e has).amounts) in
      omega arith

  pub totals_had : HaveTotals (account_now own) figures own.open_years.items
  totals_had = all_has
      (λ year. (total : Cents) × IsTotal (account_now own) figures year total)
      own.open_years.items
      (λ year has. (let from = line_of year has in (
        from.0.lookback,
        subst (λ y. IsTotal (account_now own) figures y from.0.lookback) (sym from.2) (has_all
            (λ (line : YearLine). IsTotal (account_now own) figures line.year line.lookback) lines
            begun.lookbacks from.0 from.1),
      )))

  -- the lines as they are assessed
  module _ (name : List ℕ) (others : List YearLine)
      (same : map basis_of others ≡ map basis_of lines) (are : AreFigures own figures) where
    had : (line : YearLine) → Has others line
        → IsTotal (account_now own) figures line.year line.lookback
    had line has =
        let c = counterpart others lines line same has in
        let year : line.year ≡ c.0.year = ap (λ (z : ℕ × ℕ × Bool). z.0) c.2 in
        let amount : line.lookback ≡ c.0.lookback =
        ap (λ (z : ℕ × ℕ × Bool). record { 0 = z.1 }) c.2 in
        let its = has_all
        (λ (line : YearLine). IsTotal (account_now own) figures line.year line.lookback) lines
        begun.lookbacks c.0 c.1 in
        subst (λ (y : ℕ). IsTotal (account_now own) figures y line.lookback) (sym year)
        (subst (λ (t : Cents). IsTotal (account_now own) figures c.0.year t) (sym amount) its)

    pub lines_assessed : AreLines (sums_in own.runs.items) others
        → AreLinesOf (entries_in name own) others
    lines_assessed h = record {
      years = years_same others lines same ∙ begun.years_are
          ∙ sym (years_are name own.open_years.items);
      lookbacks = λ line has. total_named name own figures are line.year line.lookback
          (had line has);
      carried = carried_same (account_now own).carried lines others (sym same) begun.carried;
      schedules = subst (λ (sums : List DaySum). AreLines sums others)
          (sym (sums_named name own.runs.items)) h;
    }
