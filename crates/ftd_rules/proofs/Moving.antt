-- What a holiday that is added does to due dates.
use Rattle.std.proofs.Common.{◌≡◌, ◌≢◌, ℕ, zero, suc, ◌+◌, ◌-◌, ◌≤◌, ◌↔◌, ◌⊎◌, inl, inr, List}
use Rattle.std.proofs.Common.{true, false, not, ◌&&◌, ◌||◌, refl, sym, ap, ◌∙◌, arith}
use Rattle.std.specs.Prelude.{nat_lt}
use Rattle.std.specs.List.{AllZip}
use Rattle.std.proofs.lemmas.Bool.{false≢true, cases_Bool, cases_lt}
use Rattle.std.proofs.Math.Bool.{or-false, or-true, and-false}
use Rattle.ftd_days.specs.Calendar.{weekday_of, month_of, month_start}
use Rattle.ftd_days.specs.Private.Intervals.{interval_close}
use Rattle.ftd_days.specs.Business.{is_holiday, is_business, IsOnOrAfter, business_days, IsNthAfter}
use Rattle.ftd_days.specs.Holidays.{IsWithHoliday}
use Rattle.ftd_days.proofs.Years.{same_or_not, eq_same, eq_not}
use Rattle.ftd_days.proofs.Business.{on_or_after_one, nth_after_one}
use Rattle.ftd_rules.specs.declared.Form.{Form}
use Rattle.ftd_rules.specs.declared.Rule.{Rule}
use Rattle.ftd_rules.specs.declared.Rule.TheVariants.{Monthly, Semiweekly, NextDay}
use Rattle.ftd_rules.specs.declared.DaySum.{DaySum}
use Rattle.ftd_rules.specs.declared.YearLine.{YearLine}
use Rattle.ftd_rules.specs.declared.Obligation.{Obligation}
use Rattle.ftd_rules.specs.Laws.{IsMovedBy}
use Rattle.ftd_rules.specs.Private.Due.{IsDueBy, IsCountedBy}
use Rattle.ftd_rules.specs.Private.Obligations.{IsOwedPiece, AreOwedPieces}
use Rattle.ftd_rules.proofs.DueDates.{due_some}
use Rattle.ftd_rules.proofs.Resting.{obligation_same}
use Rattle.ftd_rules.proofs.Rising.{paired}
use Rattle.ftd_rules.proofs.Stated.{counted_stated}

-- another day is a business day as before, and the added one is none
other_day : (before after : List ℕ) (added e : ℕ) → IsWithHoliday before added after → added ≢ e
    → is_business after e ≡ is_business before e
other_day before after added e with n = ap (λ h. nat_lt (weekday_of e) 5 && not h)
    (with e ∙ (ap (λ z. is_holiday before e || z) (eq_not added e n)
    ∙ or-false (is_holiday before e)))

added_day : (before after : List ℕ) (added : ℕ) → IsWithHoliday before added after
    → is_business after added ≡ false
added_day before after added with =
    ap (λ h. nat_lt (weekday_of added) 5 && not h)
    (with added ∙ (ap (λ z. is_holiday before added || z) (eq_same added added refl)
    ∙ or-true (is_holiday before added)))
    ∙ and-false (nat_lt (weekday_of added) 5)

-- the days from a to b are business days as before
abbrev AreSame : List ℕ → List ℕ → ℕ → ℕ → Type 0
AreSame before after a b = (e : ℕ) → a ≤ e → e ≤ b → is_business after e ≡ is_business before e

-- so where the added day is not among them, or was no business day
same_unless : (before after : List ℕ) (added a b : ℕ) → IsWithHoliday before added after
    → ((is_business before added ≡ true) × (a ≤ added) × (added ≤ b)) ⊎ AreSame before after a b
same_unless before after added a b with =
    elim (cases_Bool (is_business before added)) [
      | inr closed ↦ inr (λ e l m. elim (same_or_not added e) [
        | inl same ↦ ap (is_business after) (sym same)
            ∙ (added_day before after added with ∙ (sym closed ∙ ap (is_business before) same))
        | inr n ↦ other_day before after added e with n
      ])
      | inl opened ↦ elim (cases_lt added a) [
        | inl early ↦ inr (λ e l m. other_day before after added e with (λ same. omega arith))
        | inr from ↦ elim (cases_lt b added) [
          | inl late ↦ inr (λ e l m. other_day before after added e with (λ same. omega arith))
          | inr to ↦ inl (opened, from, to)
        ]
      ]
    ]

count_as_before : (before after : List ℕ) (day k : ℕ) → AreSame before after (day + 1) (day + k)
    → business_days after day k ≡ business_days before day k
count_as_before before after day zero same = refl
count_as_before before after day (suc k) same =
    let less = count_as_before before after day k (λ e l m. same e l (omega arith)) in
    rw (less, same (day + suc k) (omega arith) (omega arith)) refl

count_one_less : (before after : List ℕ) (added day k : ℕ) → IsWithHoliday before added after
    → is_business before added ≡ true → day + 1 ≤ added → added ≤ day + k
    → business_days before day k ≡ business_days after day k + 1
count_one_less before after added day zero with opened l m = omega arith
count_one_less before after added day (suc k) with opened l m =
    elim (same_or_not added (day + suc k)) [
      | inl here ↦
          let less = count_as_before before after day k
          (λ e a b. other_day before after added e with (λ same. omega arith)) in
          let was : is_business before (day + suc k) ≡ true = ap (is_business before) (sym here)
          ∙ opened in
          let is : is_business after (day + suc k) ≡ false = ap (is_business after) (sym here)
          ∙ added_day before after added with in
          rw (was, is) (omega arith)
      | inr n ↦
          let less = count_one_less before after added day k with opened l (omega arith) in
          rw (other_day before after added (day + suc k) with n) (omega arith)
    ]

on_as_before : (before after : List ℕ) (day due : ℕ) → AreSame before after day due
    → IsOnOrAfter before day due → IsOnOrAfter after day due
on_as_before before after day due same h = record {
  after = h.after;
  business = (let a = h.after in same due a (omega arith) ∙ h.business);
  least = λ e l m. same e l (omega arith) ∙ h.least e l m;
}

nth_as_before : (before after : List ℕ) (day n due : ℕ) → AreSame before after (day + 1) due
    → IsNthAfter before day n due → IsNthAfter after day n due
nth_as_before before after day n due same h =
    let from = h.after in
    record {
      after = from;
      counts = count_as_before before after day (due - day) (λ e l m. same e l (omega arith))
          ∙ h.counts;
      least = λ e l is.
          elim (cases_lt e due) [
            | inr late ↦ late
            | inl early ↦ h.least e l
                (sym (count_as_before before after day (e - day) (λ d a b. same d a (omega arith)))
                ∙ is)
          ];
    }

on_moves : (before after : List ℕ) (added day due new : ℕ) → IsWithHoliday before added after
    → IsOnOrAfter before day due → IsOnOrAfter after day new
    → (new ≡ due → ⊥) ↔ ((is_business before added ≡ true) × (day ≤ added) × (added ≤ due))
on_moves before after added day due new with h k = (
  (λ n. elim (same_unless before after added day due with) [
    | inl counted ↦ counted
    | inr same ↦
        absurd (n (on_or_after_one after day new due k (on_as_before before after day due same h)))
  ]),
  (λ counted e.
      let opened = counted.0 in let from = counted.1 in let to = counted.2 in
      elim (cases_lt added due) [
        | inl early ↦ false≢true (sym (h.least added from early) ∙ opened)
        | inr late ↦
            let here : added ≡ new = omega arith in
            false≢true (sym (added_day before after added with)
            ∙ (ap (is_business after) here ∙ k.business))
      ]),
)

nth_moves : (before after : List ℕ) (added day n due new : ℕ) → IsWithHoliday before added after
    → IsNthAfter before day n due → IsNthAfter after day n new
    → (new ≡ due → ⊥) ↔ ((is_business before added ≡ true) × (day + 1 ≤ added) × (added ≤ due))
nth_moves before after added day n due new with h k = (
  (λ differs. elim (same_unless before after added (day + 1) due with) [
    | inl counted ↦ counted
    | inr same ↦
        absurd (differs
        (nth_after_one after day n new due k (nth_as_before before after day n due same h)))
  ]),
  (λ counted e.
      let opened = counted.0 in let from = counted.1 in let to = counted.2 in
      let start = h.after in
      let less = count_one_less before after added day (due - day) with opened from (omega arith) in
      let was = h.counts in
      let is : business_days after day (due - day) ≡ n = ap (λ z. business_days after day (z - day))
      (sym e) ∙ k.counts in
      absurd (omega arith)),
)

pub due_moves : (before after : List ℕ) (added : ℕ) (rule : Rule) (last due new : ℕ)
    → IsWithHoliday before added after → IsDueBy before rule last due → IsDueBy after rule last new
    → (new ≡ due → ⊥) ↔ IsCountedBy before rule last due added
due_moves before after added Monthly last due new with h k = on_moves before after added
    (month_start (month_of last + 1) + 14) due new with h k
due_moves before after added Semiweekly last due new with h k = nth_moves before after added
    (interval_close last) 3 due new with h k
due_moves before after added NextDay last due new with h k =
    nth_moves before after added last 1 due new with h k

-- ---- whole lists

-- obligations that differ in their due dates alone
moved_so : (before after : List ℕ) (added : ℕ) → IsWithHoliday before added after
    → (o : Obligation) (due : ℕ) → IsDueBy before o.rule o.last o.due
    → IsDueBy after o.rule o.last due → IsMovedBy before added o (record o { due = due })
moved_so before after added with o due h k = record {
  first = refl;
  last = refl;
  rule = refl;
  amount = refl;
  due =
      (let moves = due_moves before after added o.rule o.last o.due due with h k in
      let counted = counted_stated before o.rule o.last o.due added in
      ((λ n. counted.0 (moves.0 n)), (λ d. moves.1 (counted.1 d))));
}

-- each obligation by some holidays is one by others, but for its due date
due_anew : (form : Form) (lines : List YearLine) (sums : List DaySum) (before after : List ℕ)
    (o : Obligation) → IsOwedPiece form lines sums before o
    → (due : ℕ) × IsDueBy after o.rule o.last due
    × IsOwedPiece form lines sums after (record o { due = due })
due_anew form lines sums before after o is =
    let due = due_some after o.rule o.last in (
      due.0,
      due.1,
      obligation_same form lines sums sums before after (λ day lies. refl) o
          (record o { due = due.0 }) refl due.1 is,
    )

pub rows_moved : (form : Form) (lines : List YearLine) (sums : List DaySum)
    (before after : List ℕ) (added : ℕ) (rows others : List Obligation)
    → IsWithHoliday before added after
    → AreOwedPieces form lines sums before rows → AreOwedPieces form lines sums after others
    → AllZip (IsMovedBy before added) rows others
rows_moved form lines sums before after added rows others with h k =
    paired (IsMovedBy before added) (λ o. o.first) (λ o. o.first) rows others h.by_first_day
    k.by_first_day (λ o p moved. sym moved.first)
    (λ o has. let is = (h.all o).0 has in
    let due = due_anew form lines sums before after o is in
    let p : Obligation = record o { due = due.0 } in
    (p, (k.all p).1 due.2, moved_so before after added with o due.0 is.due due.1))
    (λ p has. let is = (k.all p).0 has in
    let due = due_anew form lines sums after before p is in
    let o : Obligation = record p { due = due.0 } in
    (o, (h.all o).1 due.2, moved_so before after added with o p.due due.1 is.due))
