-- What a holiday that is taken back does to due dates.
use Rattle.std.proofs.Common.{◌≡◌, ℕ, zero, suc, ◌+◌, ◌-◌, ◌≤◌, ◌<◌, inl, inr, List}
use Rattle.std.proofs.Common.{true, false, Bool, not, ◌&&◌, refl, sym, ap, ◌∙◌, ◌||◌, arith}
use Rattle.std.specs.Prelude.{nat_lt, if◌then◌else◌}
use Rattle.std.specs.List.{AllZip}
use Rattle.std.proofs.lemmas.Bool.{cases_lt}
use Rattle.std.proofs.Math.Bool.{or-false}
use Rattle.ftd_days.specs.Calendar.{weekday_of}
use Rattle.ftd_days.specs.Business.{is_holiday, is_business, business_days, IsOnOrAfter, IsNthAfter}
use Rattle.ftd_days.specs.Holidays.{IsWithHoliday}
use Rattle.ftd_days.proofs.Business.{count_at}
use Rattle.ftd_days.proofs.Years.{eq_not}
use Rattle.ftd_rules.specs.declared.Form.{Form}
use Rattle.ftd_rules.specs.declared.Rule.{Rule}
use Rattle.ftd_rules.specs.declared.Rule.TheVariants.{Monthly, Semiweekly, NextDay}
use Rattle.ftd_rules.specs.declared.DaySum.{DaySum}
use Rattle.ftd_rules.specs.declared.YearLine.{YearLine}
use Rattle.ftd_rules.specs.declared.Obligation.{Obligation}
use Rattle.ftd_rules.specs.Due.{IsDue}
use Rattle.ftd_rules.specs.Laws.{EqualHolidays}
use Rattle.ftd_rules.specs.Obligations.{AreObligations}
use Rattle.ftd_rules.specs.Private.Due.{IsDueBy, IsCountedBy}
use Rattle.ftd_rules.specs.Private.Obligations.{IsOwedPiece}
use Rattle.ftd_rules.proofs.DueDates.{due_some, due_one}
use Rattle.ftd_rules.proofs.Moving.{due_moves}
use Rattle.ftd_rules.proofs.Resting.{due_same, due_from, obligation_same}
use Rattle.ftd_rules.proofs.Rising.{paired}
use Rattle.ftd_rules.proofs.Stated.{due_by, counted_stated, rows_owed}
use Rattle.ftd_cases.specs.Laws.{ComesEarlier, IsMovedBack}

-- ---- it stays before the day

-- the days up to one before that day are holidays as they were
same_to : (before after : List ℕ) (taken from to : ℕ) → IsWithHoliday after taken before
    → to < taken → EqualHolidays from to before after
same_to before after taken from to with early day l m =
    sym (with day ∙ (ap (λ z. is_holiday after day || z) (eq_not taken day (λ e. omega arith))
    ∙ or-false (is_holiday after day)))

stays : (before after : List ℕ) (taken : ℕ) (rule : Rule) (last due new : ℕ)
    → IsWithHoliday after taken before → IsDueBy before rule last due → IsDueBy after rule last new
    → due < taken → new ≡ due
stays before after taken rule last due new with h k early =
    due_one after rule last new due k
    (due_same before after rule last due due
    (same_to before after taken (due_from rule last) due with early) (omega arith) h)

-- ---- it never comes later

-- a business day is still one
open_still : (before after : List ℕ) (taken day : ℕ) → IsWithHoliday after taken before
    → is_business before day ≡ true → is_business after day ≡ true
open_still before after taken day with opened =
    still (nat_lt (weekday_of day) 5) (is_holiday before day) (is_holiday after day) _ (with day)
    opened
  where
    still : (weekday before after other : Bool) → before ≡ (after || other)
        → (weekday && not before) ≡ true → (weekday && not after) ≡ true
    still true false false other e opened = refl
    still true false true other e opened = absurd cc
    still true true after other e opened = absurd cc
    still false before after other e opened = absurd cc

count_less : (before after : List ℕ) (taken day k : ℕ) → IsWithHoliday after taken before
    → business_days before day k ≤ business_days after day k
count_less before after taken day zero with = omega arith
count_less before after taken day (suc k) with =
    let less = count_less before after taken day k with in
    let one = more (is_business before (day + suc k)) (is_business after (day + suc k))
    (open_still before after taken (day + suc k) with) in
    omega arith
  where
    more : (a b : Bool) → (a ≡ true → b ≡ true)
        → (if a then 1 else 0) ≤ (if b then 1 else 0)
    more true b to = rw (to refl) (omega arith)
    more false b to = omega arith

on_not_later : (before after : List ℕ) (taken day due new : ℕ) → IsWithHoliday after taken before
    → IsOnOrAfter before day due → IsOnOrAfter after day new → new ≤ due
on_not_later before after taken day due new with h k = elim (cases_lt due new) [
  | inr not ↦ not
  | inl late ↦ absurd (no (k.least due h.after late)
      (open_still before after taken due with h.business))
]
  where
    no : {b : Bool} → b ≡ false → b ≡ true → ⊥
    no e f = absurd cc

nth_not_later : (before after : List ℕ) (taken day n due new : ℕ) → IsWithHoliday after taken before
    → IsNthAfter before day n due → IsNthAfter after day n new → new ≤ due
nth_not_later before after taken day n due new with h k = elim (cases_lt due new) [
  | inr not ↦ not
  | inl late ↦
      let from = h.after in
      let was = h.counts in
      let is = k.counts in
      let more = count_less before after taken day (due - day) with in
      let apart : (due - day) + (new - due) ≡ new - day = omega arith in
      let parts = rw apart at (count_at after day (due - day) (new - due) due (omega arith)) in
      k.least due from (omega arith)
]

not_later : (before after : List ℕ) (taken : ℕ) (rule : Rule) (last due new : ℕ)
    → IsWithHoliday after taken before → IsDueBy before rule last due → IsDueBy after rule last new
    → new ≤ due
not_later before after taken Monthly last due new with h k =
    on_not_later before after taken _ due new with h k
not_later before after taken Semiweekly last due new with h k =
    nth_not_later before after taken _ 3 due new with h k
not_later before after taken NextDay last due new with h k =
    nth_not_later before after taken _ 1 due new with h k

-- ---- the laws

due_comes_earlier : (before after : List ℕ) (taken : ℕ) (rule : Rule) (last due new : ℕ)
    → IsWithHoliday after taken before → IsDueBy before rule last due → IsDueBy after rule last new
    → ComesEarlier after taken rule last due new
due_comes_earlier before after taken rule last due new with h k =
    let moves = due_moves after before taken rule last new due with k h in
    let is = not_later before after taken rule last due new with h k in
    let stated = counted_stated after rule last due taken in
    let counted : new < due → IsCountedBy after rule last due taken = λ less.
    (let c = moves.0 (λ e. omega arith) in (
      c.0,
      c.1,
      elim (cases_lt due taken) [
        | inl late ↦ absurd
            (let e = stays before after taken rule last due new with h k late in omega arith)
        | inr in_time ↦ in_time
      ],
    )) in
    let earlier : IsCountedBy after rule last due taken → new < due = λ c.
    (elim (cases_lt new due) [
      | inl less ↦ less
      | inr same ↦ absurd
          (let l = c.2 in moves.1 (c.0, c.1, omega arith) (omega arith))
    ]) in
    (is, ((λ less. stated.0 (counted less)), (λ c. earlier (stated.1 c))))

pub dates_come_earlier : (before after : List ℕ) (taken : ℕ) (rule : Rule) (last due new : ℕ)
    → IsWithHoliday after taken before → IsDue before rule last due → IsDue after rule last new
    → ComesEarlier after taken rule last due new
dates_come_earlier before after taken rule last due new with h k =
    due_comes_earlier before after taken rule last due new with (due_by before rule last due h)
    (due_by after rule last new k)

-- an obligation by some holidays is one by others, but for its due date
due_anew : (form : Form) (lines : List YearLine) (sums : List DaySum) (some others : List ℕ)
    (o : Obligation) → IsOwedPiece form lines sums some o
    → (due : ℕ) × IsDueBy others o.rule o.last due
    × IsOwedPiece form lines sums others (record o { due = due })
due_anew form lines sums some others o is =
    let due = due_some others o.rule o.last in (
      due.0,
      due.1,
      obligation_same form lines sums sums some others (λ day lies. refl) o
          (record o { due = due.0 }) refl due.1 is,
    )

moved_so : (before after : List ℕ) (taken : ℕ) → IsWithHoliday after taken before
    → (o : Obligation) (due : ℕ) → IsDueBy before o.rule o.last o.due
    → IsDueBy after o.rule o.last due → IsMovedBack after taken o (record o { due = due })
moved_so before after taken with o due h k = record {
  first = refl;
  last = refl;
  rule = refl;
  amount = refl;
  due = due_comes_earlier before after taken o.rule o.last o.due due with h k;
}

pub rows_move_back : (form : Form) (lines : List YearLine) (sums : List DaySum)
    (before after : List ℕ) (taken : ℕ) (rows others : List Obligation)
    → IsWithHoliday after taken before
    → AreObligations form lines sums before rows → AreObligations form lines sums after others
    → AllZip (IsMovedBack after taken) rows others
rows_move_back form lines sums before after taken rows others with owed_before owed_after =
    let h = rows_owed form lines sums before rows owed_before in
    let k = rows_owed form lines sums after others owed_after in
    paired (IsMovedBack after taken) (λ o. o.first) (λ o. o.first) rows others h.by_first_day
    k.by_first_day (λ o p moved. sym moved.first)
    (λ o has. let is = (h.all o).0 has in
    let due = due_anew form lines sums before after o is in
    let p : Obligation = record o { due = due.0 } in
    (p, (k.all p).1 due.2, moved_so before after taken with o due.0 is.due due.1))
    (λ p has. let is = (k.all p).0 has in
    let due = due_anew form lines sums after before p is in
    let o : Obligation = record p { due = due.0 } in
    (o, (h.all o).1 due.2, moved_so before after taken with o p.due due.1 is.due))
