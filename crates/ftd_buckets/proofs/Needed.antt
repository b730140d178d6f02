-- What a repair asks for is needed, and a patch that changes no line is that of one deposit period.
use Rattle.ftd_rules.specs.declared.Form.{Form}
use Rattle.std.proofs.Common.{◌≡◌, ℕ, ◌+◌, ◌<◌, ◌≤◌, inl, inr, List, [], ◌∷◌, length, Bool, refl}
use Rattle.std.proofs.Common.{sym, ap, ◌∙◌, subst, arith, rules}
use Rattle.std.specs.Prelude.{Option, IsSome, map}
use Rattle.std.proofs.lemmas.Bool.{cases_lt}
use Rattle.ftd_days.specs.Calendar.{year_start}
use Rattle.ftd_rules.specs.declared.YearLine.{YearLine}
use Rattle.ftd_rules.specs.Lists.{Has}
use Rattle.ftd_rules.specs.Liability.{liability}
use Rattle.ftd_rules.specs.Years.{year_last, IsSemiweeklyOn, basis_of, TurnedBefore}
use Rattle.ftd_rules.specs.Private.Years.{semiweekly_from, IsScheduled}
use Rattle.ftd_rules.proofs.Stated.{period_run, semiweekly_is}
use Rattle.ftd_rules.proofs.Schedules.{year_facts, year_start-mono, year_only, line_one}
use Rattle.ftd_rules.proofs.Schedules.{schedule_iff}
use Rattle.ftd_rules.proofs.Covering.{line_is, period_same}
use Rattle.ftd_rules.proofs.Earlier.{counterpart, opening_same}
use Rattle.ftd_buckets.specs.declared.Window.{Window}
use Rattle.ftd_buckets.specs.declared.Patch.{Patch}
use Rattle.ftd_buckets.specs.declared.state.Stage.{Stage}
use Rattle.ftd_buckets.specs.declared.state.Stage.TheVariants as stage
use Rattle.ftd_buckets.specs.Histories.{History, IsChange}
use Rattle.ftd_buckets.specs.Windows.{IsPeriodOf, NoTurnDiffers, IsNeeded, IsLastNeeded}
use Rattle.ftd_buckets.specs.Patches.{AreRows, AreChanged, IsPatch}
use Rattle.ftd_buckets.specs.Ready.{Repairing}
use Rattle.ftd_buckets.specs.Standing.{Stands, StandsIn, StandsAt}
use Rattle.ftd_buckets.proofs.Chain.{later_same}
use Rattle.ftd_buckets.proofs.Few.{four_rows, one_row}
use Rattle.ftd_buckets.proofs.Turns.{line_same}

needed_at : (form : Form) (day : ℕ) (holidays : List ℕ) (before after : History) (r : Repairing)
    (old new : YearLine) (at : Stage)
    → StandsIn form day holidays before after r.lines r.from r.years old new
    → StandsAt form day holidays after r old new at
    → IsNeeded form day before after r.asked
needed_at form day holidays before after r old new stage.Period in_all at =
    inl (old, in_all.year.is_old, at.asked)
needed_at form day holidays before after r old new (stage.Rest first turn) in_all at =
    inr (inl (search rules))
needed_at form day holidays before after r old new (stage.Year turned) in_all at =
    inr (inr (search rules))

-- the window that a repair asks for is one of those needed
pub fed_needed : (form : Form) (day : ℕ) (holidays : List ℕ) (before after : History)
    (r : Repairing) → Stands form day holidays before after r
    → IsNeeded form day before after r.asked
fed_needed form day holidays before after r st = needed_at form day holidays before after r st.old
    st.new r.stage st.common st.at

-- where the line of the day's year stays, its deposit period is the only window
only_period : (form : Form) (day : ℕ) (before after : History) (fed period : Window)
    (line : YearLine) → IsChange day before after
    → Has before.lines line → Has after.lines line → IsPeriodOf form line day period
    → IsNeeded form day before after fed
    → (fed.from ≡ period.from) × (fed.to ≡ period.to)
only_period form day before after fed period line c m n of_day (inl first) =
    let y = line_is before.lines before.sums line c.is_before m in
    let z = line_is before.lines before.sums first.0 c.is_before first.1 in
    let years = c.is_before.years in
    let p1 = of_day.0.1 in let p2 = of_day.0.2 in let p3 = of_day.1 in let p4 = of_day.2 in
    let q1 = first.2.0.1 in let q2 = first.2.0.2 in let q3 = first.2.1 in let q4 = first.2.2 in
    let same_year = year_only first.0.year line.year day z.0 z.1 y.0 y.1 (omega arith) (omega arith)
    (omega arith) (omega arith) in
    let one : first.0 ≡ line = line_one years.0 before.lines first.0 line years.2 first.1 m
    same_year in
    let its = subst (λ (v : YearLine). IsPeriodOf form v day fed) one first.2 in
    let a = period_same form before.lines before.sums line day period.from period.to c.is_before m
    (period_run form line period.from period.to of_day.0) p3 p4 in
    let b = period_same form before.lines before.sums line day fed.from fed.to c.is_before m
    (period_run form line fed.from fed.to its.0) its.1 its.2 in
    (b.0 ∙ sym a.0, b.1 ∙ sym a.1)
only_period form day before after fed period line c m n of_day (inr (inl rest)) =
    let y = line_is before.lines before.sums line c.is_before m in
    let z = line_is before.lines before.sums rest.old c.is_before rest.year.is_old in
    let years = c.is_before.years in
    let afters = c.is_after.years in
    let p1 = of_day.0.1 in let p2 = of_day.0.2 in let p3 = of_day.1 in let p4 = of_day.2 in
    let same_year = year_only rest.old.year line.year day z.0 z.1 y.0 y.1 rest.of_day.0
    rest.of_day.1 (omega arith) (omega arith) in
    let one : rest.old ≡ line = line_one years.0 before.lines rest.old line years.2 rest.year.is_old
    m same_year in
    let other : rest.new ≡ line = line_one afters.0 after.lines rest.new line afters.2
    rest.year.is_new n (sym rest.year.same ∙ same_year) in
    absurd (rest.differs (ap (λ (v : YearLine). v.turn) (one ∙ sym other)))
only_period form day before after fed period line c m n of_day (inr (inr later)) =
    let y = line_is before.lines before.sums line c.is_before m in
    let z = line_is before.lines before.sums later.old c.is_before later.year.is_old in
    let fy = year_facts line.year y.0 y.1 in
    let fz = year_facts later.old.year z.0 z.1 in
    let fy3 = fy.3 in let fz1 = fz.1 in
    let afters = c.is_after.years in
    let p1 = of_day.0.1 in let p2 = of_day.0.2 in let p3 = of_day.1 in let p4 = of_day.2 in
    let begins = later.later in
    let more : line.year ≤ later.old.year =
    elim (cases_lt later.old.year line.year) [
      | inr fine ↦ fine
      | inl less ↦ absurd (let mono = year_start-mono later.old.year line.year (omega arith) in
          omega arith)
    ] in
    let has = later_same day before after c line m n (omega arith) later.old later.year.is_old
    more in
    let one : later.old ≡ later.new = line_one afters.0 after.lines later.old later.new afters.2 has
    later.year.is_new later.year.same in
    absurd (later.differs (ap (λ (v : YearLine). v.opening) one))

-- a patch without lines keeps each line of the history before
pub kept_line : (form : Form) (day : ℕ) (before after : History) (holidays : List ℕ) (fed : Window)
    (patch : Patch) (line : YearLine)
    → IsChange day before after → IsPatch form day before after holidays fed patch
    → patch.years ≡ [] → Has before.lines line
    → (Has after.lines line → ⊥) → ⊥
kept_line form day before after holidays fed patch line c is none m differs =
    let k = counterpart before.lines after.lines line c.same_years m in
    let year : line.year ≡ k.0.year = ap (λ (z : ℕ × ℕ × Bool). z.0) k.2 in
    let years = c.is_before.years in
    let never : Has patch.years k.0 → ⊥ = λ has. (let no = rw none at has in no) in
    never ((is.replaces.years.all k.0).1 (
      k.1,
      λ has.
          let one : k.0 ≡ line = line_one years.0 before.lines k.0 line years.2 has m (sym year) in
          differs (subst (λ (v : YearLine). Has after.lines v) one k.1),
    ))

-- so its rows are those of one deposit period
rows_of_period : (form : Form) (day : ℕ) (before after : History) (holidays : List ℕ) (fed : Window)
    (patch : Patch) (line : YearLine) (period : Window)
    → IsPatch form day before after holidays fed patch → patch.from ≡ period.from
    → fed.to ≡ period.to
    → AreRows form after holidays period.from (period.to + 1) patch.rows
rows_of_period form day before after holidays fed patch line period is from to =
    let last : patch.to + 1 ≡ period.to + 1 = ap (λ z. z + 1) (is.to ∙ to) in
    rw (from, last) at is.replaces.rows

pub one_at_most : (form : Form) (day : ℕ) (before after : History) (holidays : List ℕ)
    (fed : Window) (patch : Patch) (line : YearLine)
    → IsChange day before after → IsPatch form day before after holidays fed patch
    → IsLastNeeded form day before after fed → patch.years ≡ []
    → Has before.lines line → year_start line.year ≤ day → day ≤ year_last line.year
    → (IsSemiweeklyOn line patch.from → ⊥) → length patch.rows ≤ 1
one_at_most form day before after holidays fed patch line c is last none m from to monthly =
    elim (cases_lt 1 (length patch.rows)) [
      | inr fine ↦ fine
      | inl many ↦ absurd (kept_line form day before after holidays fed patch line c is none m (λ n.
          let its = is.is_period in
          let period = is.period in
          let y = line_is before.lines before.sums line c.is_before m in
          let z = line_is before.lines before.sums its.0 c.is_before its.1 in
          let years = c.is_before.years in
          let p1 = its.2.0.1 in let p2 = its.2.0.2 in let p3 = its.2.1 in let p4 = its.2.2 in
          let same_year = year_only its.0.year line.year day z.0 z.1 y.0 y.1 (omega arith)
          (omega arith) from to in
          let one : its.0 ≡ line = line_one years.0 before.lines its.0 line years.2 its.1 m
          same_year in
          let of_day = subst (λ (v : YearLine). IsPeriodOf form v day period) one its.2 in
          let same = only_period form day before after fed period line c m n of_day last.needed in
          let begins : patch.from ≡ period.from = is.from in
          let rows = rows_of_period form day before after holidays fed patch line period is is.from
          same.1 in
          let some = of_day.0.0 in let low = of_day.0.1 in let high = of_day.0.2 in
          let early : period.from < semiweekly_from line =
          elim (cases_lt period.from (semiweekly_from line)) [
            | inl first ↦ first
            | inr late ↦
                absurd (monthly ((semiweekly_is line patch.from (omega arith) (omega arith)).1
                (omega arith)))
          ] in
          let few = one_row form after holidays line period.from period.to patch.rows c.is_after n
          of_day.0 early rows in
          omega arith))
    ]

pub four_at_most : (form : Form) (day : ℕ) (before after : History) (holidays : List ℕ)
    (fed : Window) (patch : Patch)
    → IsChange day before after → IsPatch form day before after holidays fed patch
    → IsLastNeeded form day before after fed → patch.years ≡ [] → length patch.rows ≤ 4
four_at_most form day before after holidays fed patch c is last none =
    let its = is.is_period in
    let period = is.period in
    let line = its.0 in
    let p1 = its.2.0.1 in let p2 = its.2.0.2 in let p3 = its.2.1 in let p4 = its.2.2 in
    let begins : patch.from ≡ period.from = is.from in
    elim (cases_lt 4 (length patch.rows)) [
      | inr fine ↦ fine
      | inl many ↦ absurd (kept_line form day before after holidays fed patch line c is none its.1
          (λ n.
          let same = only_period form day before after fed period line c its.1 n its.2
          last.needed in
          let rows = rows_of_period form day before after holidays fed patch line period is is.from
          same.1 in
          elim (cases_lt period.from (semiweekly_from line)) [
            | inl monthly ↦
                (let few = one_row form after holidays line period.from period.to patch.rows
                c.is_after n its.2.0 monthly rows in omega arith)
            | inr semi ↦
                (let few = four_rows form after holidays line period.from period.to patch.rows
                c.is_after n its.2.0 semi rows in omega arith)
          ]))
    ]

-- where no turn differs, the year before a year turned in both histories or in neither
turned_too : (g h : History) → map basis_of g.lines ≡ map basis_of h.lines → NoTurnDiffers g h
    → (year : ℕ) → TurnedBefore g.lines year → TurnedBefore h.lines year
turned_too g h same still year t =
    let k = counterpart g.lines h.lines t.0 same t.1 in
    let own : t.0.year ≡ k.0.year = ap (λ (z : ℕ × ℕ × Bool). z.0) k.2 in
    let turn = still t.0 k.0 (record { is_old = t.1; is_new = k.1; same = own }) in (
      k.0,
      k.1,
      ap (λ z. z + 1) (sym own) ∙ t.2,
      subst (λ (o : Option ℕ). IsSome o) turn t.3,
    )

-- so each year opens as before, and its line stays
line_kept : (day : ℕ) (g h : History) → IsChange day g h → NoTurnDiffers g h → (line : YearLine)
    → Has h.lines line → Has g.lines line
line_kept day g h c still line has =
    let k = counterpart h.lines g.lines line (sym c.same_years) has in
    let old = k.0 in
    let year : line.year ≡ old.year = ap (λ (z : ℕ × ℕ × Bool). z.0) k.2 in
    let turn = still old line (record { is_old = k.1; is_new = has; same = sym year }) in
    let back : NoTurnDiffers h g =
    λ x y both. sym (still y x (record {
      is_old = both.is_new;
      is_new = both.is_old;
      same = sym both.same;
    })) in
    let T : Type 0 = TurnedBefore h.lines old.year in
    let first : IsScheduled T (liability g.sums) old =
    schedule_iff (TurnedBefore g.lines old.year) T (liability g.sums) old
    (turned_too g h c.same_years still old.year)
    (turned_too h g (sym c.same_years) back old.year) (c.is_before.schedules old k.1) in
    let P : ℕ → Type 0 = λ z. IsScheduled (TurnedBefore h.lines z) (liability h.sums) line in
    let second : IsScheduled T (liability h.sums) line =
    subst P year (c.is_after.schedules line has) in
    let opening = opening_same T (liability g.sums) (liability h.sums) old line (sym k.2) first
    second in
    let equal : line ≡ old = line_same old line (sym k.2) opening (sym turn) in
    subst (λ (z : YearLine). Has g.lines z) (sym equal) k.1

-- no line differs where no turn does
pub none_changed : (day : ℕ) (before after : History) (lines : List YearLine)
    → IsChange day before after → NoTurnDiffers before after → AreChanged before after lines
    → lines ≡ []
none_changed day before after [] c still are = refl
none_changed day before after (line ∷ lines) c still are =
    let w = (are.all line).0 (inl refl) in
    absurd (w.1 (line_kept day before after c still line w.0))
