-- Obligations by other holidays: each has the due date that they give it, and is else the same.
use Rattle.std.proofs.Common.{◌≡◌, ℕ, ◌≤◌, ◌<◌, ◌⊎◌, List, [], ◌∷◌, map, inl, inr, sym, ap, ◌∙◌}
use Rattle.std.proofs.Common.{subst, arith, Bool, true, false, ◌||◌, ◌==◌, refl}
use Rattle.ftd_days.specs.Calendar.{last_day, year_of}
use Rattle.ftd_days.specs.Holidays.{IsWithHoliday}
use Rattle.ftd_days.proofs.Months.{in_month, year_is}
use Rattle.ftd_days.proofs.Years.{same_or_not, eq_not}
use Rattle.ftd_days.specs.Business.{is_holiday}
use Rattle.ftd_rules.specs.declared.Form.{Form}
use Rattle.ftd_rules.specs.declared.Rule.{Rule}
use Rattle.ftd_rules.specs.declared.Rule.TheVariants.{Monthly, Semiweekly, NextDay}
use Rattle.ftd_rules.specs.declared.DaySum.{DaySum}
use Rattle.ftd_rules.specs.declared.YearLine.{YearLine}
use Rattle.ftd_rules.specs.declared.Obligation.{Obligation}
use Rattle.ftd_rules.specs.Due.{IsDue}
use Rattle.ftd_rules.specs.Laws.{EqualHolidays}
use Rattle.ftd_rules.specs.Lists.{Has}
use Rattle.ftd_rules.specs.Obligations.{IsObligation, ByFirstDay, AreObligations}
use Rattle.ftd_rules.specs.Years.{AreLines}
use Rattle.ftd_rules.specs.Private.Due.{IsDueBy, first_counted}
use Rattle.ftd_rules.proofs.Covering.{within_period, line_is}
use Rattle.ftd_rules.proofs.DueDates.{due_some, due_one}
use Rattle.ftd_rules.proofs.Moving.{due_moves}
use Rattle.ftd_rules.proofs.Resting.{from_later, due_from, due_same}
use Rattle.ftd_rules.proofs.Schedules.{year_facts}
use Rattle.ftd_rules.proofs.Stated.{piece_owed, due_by, due_stated}
use Rattle.ftd_rules.proofs.Members.{has_mapped, mapped_has}
use Rattle.ftd_entries.proofs.OwedAgain.{owed_again}

-- ---- one obligation

-- when it is due by the holidays
abbrev pub due_again : List ℕ → Obligation → ℕ
due_again holidays o = (due_some holidays o.rule o.last).0

abbrev pub again : List ℕ → Obligation → Obligation
again holidays o = record o { due = due_again holidays o }

pub is_due_again : (holidays : List ℕ) (o : Obligation) → IsDueBy holidays o.rule o.last
    (due_again holidays o)
is_due_again holidays o = (due_some holidays o.rule o.last).1

-- its days lie in one year
pub record HasDays (o : Obligation) : Type 0 where
  pub some : o.first ≤ o.last
  pub known : o.last ≤ last_day
  pub one_year : year_of o.first ≡ year_of o.last
  pub to_2098 : year_of o.last ≤ 2098

pub days_of_owed : (form : Form) (lines : List YearLine) (sums : List DaySum) (holidays : List ℕ)
    (o : Obligation) → AreLines sums lines → IsObligation form lines sums holidays o → HasDays o
days_of_owed form lines sums holidays o are owed =
    let is = piece_owed form lines sums holidays o owed in
    let y = line_is lines sums is.line are is.open_year in
    let y0 = y.0 in let y1 = y.1 in
    let f = year_facts is.line.year y0 y1 in
    let f2 = f.2 in let f3 = f.3 in
    let inside = within_period form lines sums holidays o is in
    let i0 = inside.0 in let i1 = inside.1 in let i2 = inside.2 in
    let p1 = is.period.1 in let p2 = is.period.2 in
    let first = year_is is.line.year o.first (omega arith) (omega arith) (omega arith)
    (omega arith) in
    let last = year_is is.line.year o.last (omega arith) (omega arith) (omega arith)
    (omega arith) in
    record { some = i1; known = omega arith; one_year = first ∙ sym last; to_2098 = omega arith }

counted_later : (rule : Rule) (last : ℕ) → last ≤ last_day → last < first_counted rule last
counted_later Monthly last within = let to = (in_month last within).1 in omega arith
counted_later Semiweekly last within = let from = from_later Semiweekly last within in omega arith
counted_later NextDay last within = omega arith

-- a holiday that comes before it ends its first day, or after its due date, moves nothing
pub due_as_before : (before after : List ℕ) (added : ℕ) (o : Obligation)
    → IsWithHoliday before added after → HasDays o → IsDue before o.rule o.last o.due
    → (added ≤ o.first) ⊎ (o.due < added) → due_again after o ≡ o.due
due_as_before before after added o with days is out =
    elim (same_or_not (due_again after o) o.due) [
      | inl same ↦ same
      | inr moved ↦
          (let counted =
          (due_moves before after added o.rule o.last o.due
          (due_again after o) with (due_by before o.rule o.last o.due is) (is_due_again after o)).0
          moved in
          let from = counted.1 in let to = counted.2 in
          let later = counted_later o.rule o.last days.known in
          let some = days.some in
          absurd (elim out [ inl early ↦ omega arith | inr late ↦ omega arith ]))
    ]

-- so does a holiday that is taken back
pub due_as_before_back : (before after : List ℕ) (removed : ℕ) (o : Obligation)
    → IsWithHoliday after removed before → HasDays o → IsDue before o.rule o.last o.due
    → (removed ≤ o.first) ⊎ (o.due < removed) → due_again after o ≡ o.due
due_as_before_back before after removed o with days is (inl early) =
    elim (same_or_not o.due (due_again after o)) [
      | inl same ↦ sym same
      | inr moved ↦
          (let counted =
          (due_moves after before removed o.rule o.last (due_again after o) o.due with
          (is_due_again after o) (due_by before o.rule o.last o.due is)).0 moved in
          let from = counted.1 in
          let later = counted_later o.rule o.last days.known in
          let some = days.some in
          absurd (omega arith))
    ]
due_as_before_back before after removed o with days is (inr late) =
    let same : EqualHolidays (due_from o.rule o.last) o.due before after =
    λ d low high. (
    let other : (removed == d) ≡ false = eq_not removed d (λ e. omega (arith, e, late, high)) in
    sym (with d ∙ ap (λ b. is_holiday after d || b) other ∙ or_none (is_holiday after d))) in
    due_one after o.rule o.last (due_again after o) o.due (is_due_again after o)
    (due_same before after o.rule o.last o.due o.due same (omega arith)
    (due_by before o.rule o.last o.due is))
  where
    or_none : (b : Bool) → (b || false) ≡ b
    or_none true = refl
    or_none false = refl

-- of two lists of holidays one has the day more than the other, or they have the same days
abbrev pub Turns : List ℕ → ℕ → List ℕ → Type 0
Turns before day after =
    IsWithHoliday before day after
    ⊎ (IsWithHoliday after day before
    ⊎ ((other : ℕ) → is_holiday after other ≡ is_holiday before other))

-- either way a due date moves only where the day is counted
pub due_as_turned : (before after : List ℕ) (day : ℕ) (o : Obligation) → Turns before day after
    → HasDays o → IsDue before o.rule o.last o.due → (day ≤ o.first) ⊎ (o.due < day)
    → due_again after o ≡ o.due
due_as_turned before after day o (inl more) days is out =
    due_as_before before after day o more days is out
due_as_turned before after day o (inr (inl less)) days is out =
    due_as_before_back before after day o less days is out
due_as_turned before after day o (inr (inr same)) days is out =
    let known = days.known in
    let from = from_later o.rule o.last known in
    due_one after o.rule o.last (due_again after o) o.due (is_due_again after o)
    (due_same before after o.rule o.last o.due o.due (λ d low high. same d) (omega arith)
    (due_by before o.rule o.last o.due is))

-- ---- all of them

by_first_again : (holidays : List ℕ) (rows : List Obligation) → ByFirstDay rows
    → ByFirstDay (map (again holidays) rows)
by_first_again holidays [] by = tt
by_first_again holidays (o ∷ rows) by = (
  (λ later has.
      (let from = has_mapped (again holidays) rows later has in
      let less = by.0 from.0 from.1 in
      let same : later.first ≡ from.0.first = ap (λ (p : Obligation). p.first) from.2 in
      omega arith)),
  by_first_again holidays rows by.1,
)

pub rows_again : (form : Form) (lines : List YearLine) (sums : List DaySum) (some all : List ℕ)
    (rows : List Obligation)
    → AreObligations form lines sums some rows → AreObligations form lines sums all
    (map (again all) rows)
rows_again form lines sums some all rows are = record {
  by_first_day = by_first_again all rows are.by_first_day;
  all = λ o. (
    (λ has.
        (let from = has_mapped (again all) rows o has in
        let p = from.0 in
        let owed = owed_again form lines sums some all p (due_again all p)
        (due_stated all p.rule p.last (due_again all p) (is_due_again all p))
        ((are.all p).0 from.1) in
        subst (IsObligation form lines sums all) (sym from.2) owed)),
    (λ owed.
        (let p : Obligation = again some o in
        let was = owed_again form lines sums all some o (due_again some o)
        (due_stated some o.rule o.last (due_again some o) (is_due_again some o)) owed in
        let has : Has (map (again all) rows) (again all o) = mapped_has (again all) rows p
        ((are.all p).1 was) in
        let due : due_again all o ≡ o.due = due_one all o.rule o.last (due_again all o) o.due
        (is_due_again all o) (due_by all o.rule o.last o.due owed.due) in
        subst (λ (d : ℕ). Has (map (again all) rows) (record o { due = d })) due has)),
  );
}
