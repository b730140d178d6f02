-- What an explanation adds up to and counts.
use Rattle.std.proofs.Common.{◌≡◌, ℕ, ◌+◌, ◌-◌, ◌≤◌, inl, inr, List, [], ◌∷◌, refl, sym, ap}
use Rattle.std.proofs.Common.{◌∙◌, subst, arith, Option, Some, Ok, true}
use Rattle.std.specs.Prelude.{option_map, IsSomeAnd}
use Rattle.std.specs.List.{sum_by, count_by}
use Rattle.std.proofs.lemmas.Bool.{cases_Bool, cases_lt}
use Rattle.ftd_days.specs.Business.{is_business, business_days, IsOnOrAfter, IsNthAfter}
use Rattle.ftd_days.proofs.Business.{count_at, count_none}
use Rattle.ftd_days.specs.declared.cents.Cents.{Cents}
use Rattle.ftd_rules.specs.declared.Obligation.{Obligation}
use Rattle.ftd_rules.specs.declared.Rule.{Rule}
use Rattle.ftd_rules.specs.declared.Rule.TheVariants.{Monthly, Semiweekly, NextDay}
use Rattle.ftd_rules.specs.Due.{IsDue, fifteenth_after}
use Rattle.ftd_rules.specs.Laws.{IsFirstCounted}
use Rattle.ftd_rules.specs.Lists.{Has, KeysRise}
use Rattle.ftd_rules.specs.Obligations.{IsObligation}
use Rattle.ftd_machine.specs.State.{State, Entries, entries_of, holidays, latest}
use Rattle.ftd_machine.specs.History.{form_of, live_sums, AreOwed}
use Rattle.ftd_machine.specs.Checks.{Answer, first_of}
use Rattle.ftd_machine.specs.Explaining.{IsKindOfDay, day_counted, day_of_payday, Explains}
use Rattle.ftd_machine.specs.Explaining.{IsExplanation}
use Rattle.ftd_machine.specs.Explaining.{IsExplained}
use Rattle.ftd_machine.specs.Questions.{question_checks, Tells}
use Rattle.ftd_machine.specs.Step.{Step}
use Rattle.ftd_machine.specs.Told.{explained_answer}
use Rattle.ftd_machine.specs.declared.explained.CountedDay.{CountedDay}
use Rattle.ftd_machine.specs.declared.explained.DayKind.TheVariants.{Business}
use Rattle.ftd_machine.specs.declared.explained.Explanation.{Explanation}
use Rattle.ftd_machine.specs.declared.explained.RunningSum.{RunningSum}
use Rattle.ftd_machine.specs.declared.facts.ExplainedDay.{ExplainedDay}
use Rattle.ftd_machine.specs.declared.facts.Facts.TheVariants as facts
use Rattle.ftd_machine.specs.declared.replies.Reply.{Reply}
use Rattle.ftd_machine.specs.declared.replies.Reply.TheVariants as reply
use Rattle.ftd_machine.specs.declared.requests.Question.{Question as Questions}
use Rattle.ftd_machine.specs.declared.requests.Question.TheVariants.{Explain}
use Rattle.ftd_machine.specs.declared.requests.Request.TheVariants.{Question}
use Rattle.ftd_machine.proofs.Deciding.{either}
use Rattle.ftd_machine.proofs.Counting.{kind_one, from_one}
use Rattle.ftd_machine.proofs.Refusing.{Refuses, refuses_none, refuses_needs, refuses_finds}
use Rattle.ftd_cases.specs.Laws.{last_of, total_of, cents_of_payday, business_days_of, IsDueDay}
use Rattle.ftd_cases.specs.Laws.{is_counted_business}
use Rattle.ftd_cases.proofs.AddedUp.{ArePaydays, paydays_add_up, last_total}
use Rattle.ftd_cases.proofs.CountedUp.{AreCounted, business_counted, last_on}

-- what a question is answered with a reply has passed the checks
pub told_by : (s : State) (question : Questions) (r : Reply) (after : State)
    → Refuses (question_checks s question) → Step s (Question question) (Ok r) after
    → Tells s question (Ok r)
told_by s question r after refuses step =
    elim (either (first_of (question_checks s question)) s (Ok r) after
    ((after ≡ s) × Tells s question (Ok r)) step) [
      | inl same ↦ absurd (refuses.never r same.0)
      | inr told ↦ told.1.1
    ]

abbrev explained_of : ExplainedDay → Answer
explained_of x = Ok (reply.Told (facts.Explained x))

same_explained : (a b : ExplainedDay) → explained_of a ≡ explained_of b → a ≡ b
same_explained a b e = cc

pub found_is : (name : List ℕ) (day : ℕ) (found other : Option Explanation)
    → explained_answer name day found ≡ explained_answer name day other → found ≡ other
found_is name day found other e = ap (λ (x : ExplainedDay). x.found) (same_explained _ _ e)

-- what is answered explains one of the obligations of the account
pub record IsTold (holidays : List ℕ) (own : Entries) (e : Explanation) : Type 0 where
  pub owed : List Obligation
  pub are_owed : AreOwed holidays own owed
  pub explains : Explains holidays own owed e

pub explanation_told : (s next : State) (name : List ℕ) (day : ℕ) (found : Option Explanation)
    → Step s (Question (Explain name day)) (explained_answer name day found) next
    → IsExplanation (holidays s) (entries_of s name) name day (explained_answer name day found)
explanation_told s next name day found step =
    told_by s (Explain name day) (reply.Told
    (facts.Explained (record { account = name; day = day; found = found }))) next
    (refuses_needs _ _ _
    (refuses_needs _ _ _ (refuses_finds _ _ _ (refuses_needs _ _ [] refuses_none)))) step

pub told : (s next : State) (name : List ℕ) (day : ℕ) (e : Explanation)
    → Step s (Question (Explain name day)) (explained_answer name day (Some e)) next
    → IsTold (holidays s) (entries_of s name) e
told s next name day e step =
    let own = entries_of s name in
    let is = explanation_told s next name day (Some e) step in
    let found : is.explained ≡ Some e = sym (found_is name day (Some e) is.explained is.told) in
    let explained : IsExplained (holidays s) own is.owed day (Some e) =
    subst (IsExplained (holidays s) own is.owed day) found is.is_explained in
    record { owed = is.owed; are_owed = is.are_owed; explains = explained.0 }

module _ (holidays : List ℕ) (own : Entries) (e : Explanation) (is : IsTold holidays own e) where
  obligation : IsObligation (form_of own.account) is.are_owed.0 (live_sums own) holidays
      e.obligation
  obligation = (is.are_owed.2.all e.obligation).0 is.explains.is_owed

  -- ---- its paydays

  are_paydays : ArePaydays (live_sums own) e.obligation.first e.obligation.first e.obligation.last
      e.paydays
  are_paydays = is.explains.paydays

  total_is : (xs : List RunningSum) → xs ≡ e.paydays
      → option_map total_of (last_of xs) ≡ Some e.obligation.cents
  total_is [] same =
      let none = paydays_add_up (live_sums own) e.obligation.first [] e.obligation.first
      e.obligation.last tt
      (subst (ArePaydays (live_sums own) e.obligation.first e.obligation.first e.obligation.last)
      (sym same) are_paydays) in
      let amount = obligation.amount in
      let some = obligation.positive in
      absurd (omega arith)
  total_is (x ∷ xs) same =
      let total = last_total (live_sums own) e.obligation.first x xs e.obligation.first
      e.obligation.last (omega arith)
      (subst (KeysRise day_of_payday) (sym same) is.explains.paydays_rise)
      (subst (ArePaydays (live_sums own) e.obligation.first e.obligation.first e.obligation.last)
      (sym same) are_paydays) in
      let amount = obligation.amount in
      ap Some (like (latest x xs).total e.obligation.cents (total ∙ sym amount))
    where
      like : (a b : Cents) → a.0 ≡ b.0 → a ≡ b
      like a b e = λ i. record { 0 = e i }

  pub last_total_is : option_map total_of (last_of e.paydays) ≡ Some e.obligation.cents
  last_total_is = total_is e.paydays refl

  pub paydays_sum : sum_by cents_of_payday e.paydays ≡ e.obligation.cents.0
  paydays_sum =
      paydays_add_up (live_sums own) e.obligation.first e.paydays e.obligation.first
      e.obligation.last is.explains.paydays_rise are_paydays
      ∙ sym obligation.amount

  -- ---- the days that are counted

  counted_from : (from : ℕ) → IsFirstCounted e.obligation.rule e.obligation.last from
      → AreCounted holidays from e.obligation.due e.days
  counted_from from first x = (
    (λ has. (let h = (is.explains.days x).0 has in
        let same = from_one e.obligation.rule e.obligation.last h.0 from h.1 first in
        let l = h.2 in
        (omega arith, h.3, h.4))),
    (λ h. (is.explains.days x).1 (from, first, h.0, h.1, h.2)),
  )

  -- the last of them is the due date, which is a business day
  last_is : (xs : List CountedDay) (from : ℕ) → xs ≡ e.days
      → IsFirstCounted e.obligation.rule e.obligation.last from → from ≤ e.obligation.due
      → is_business holidays e.obligation.due ≡ true
      → IsSomeAnd (last_of xs) (IsDueDay e.obligation)
  last_is [] from same first some opened =
      let due : CountedDay = record { day = e.obligation.due; kind = Business } in
      absurd (subst (λ ys. Has ys due) (sym same)
      ((counted_from from first due).1 (some, omega arith, opened)))
  last_is (x ∷ xs) from same first some opened =
      let rise = subst (KeysRise day_counted) (sym same) is.explains.days_rise in
      let are = subst (AreCounted holidays from e.obligation.due) (sym same)
      (counted_from from first) in
      let last = last_on holidays x xs from e.obligation.due rise are in
      let kind = ((are (latest x xs)).0 last.0).2 in (
        last.1,
        kind_one holidays e.obligation.due (latest x xs).kind Business
            (subst (λ d. IsKindOfDay holidays d (latest x xs).kind) last.1 kind) opened,
      )

  -- from a business day on or after the first one that is counted
  on_counted : (from : ℕ) → IsFirstCounted e.obligation.rule e.obligation.last (from + 1)
      → IsOnOrAfter holidays (from + 1) e.obligation.due →
      (count_by is_counted_business e.days ≡ 1)
      × IsSomeAnd (last_of e.days) (IsDueDay e.obligation)
  on_counted from first on =
      let after = on.after in
      let apart : from + (e.obligation.due - from) ≡ e.obligation.due = omega arith in
      let n : e.obligation.due - from - 1 + 1 ≡ e.obligation.due - from = omega arith in
      let none = count_none holidays from (e.obligation.due - from - 1)
      (λ d l m. on.least d (omega arith) (omega arith)) in
      let counted : count_by is_counted_business e.days
      ≡ business_days holidays from (e.obligation.due - from) =
      business_counted holidays e.days from (e.obligation.due - from) is.explains.days_rise
      (subst (λ b. AreCounted holidays (from + 1) b e.days) (sym apart)
      (counted_from (from + 1) first)) in
      let one : business_days holidays (e.obligation.due - 1) 1 ≡ 1 =
      (let e : e.obligation.due - 1 + 1 ≡ e.obligation.due = omega arith in
      rw (e, on.business) refl) in
      let parts = rw n at (count_at holidays from (e.obligation.due - from - 1) 1
      (e.obligation.due - 1) (omega arith)) in
      (omega arith, last_is e.days (from + 1) refl first on.after on.business)

  -- the nth business day after a day is one
  nth_open : (from n due : ℕ) → IsNthAfter holidays from (n + 1) due
      → is_business holidays due ≡ true
  nth_open from n due nth =
      let after = nth.after in
      elim (cases_Bool (is_business holidays due)) [
        | inl opened ↦ opened
        | inr closed ↦ absurd (elim (cases_lt from due) [
          | inr none ↦
              (let counts = nth.counts in
              let k : due - from ≡ 0 = omega arith in
              no_more (rw k at counts))
          | inl some ↦
              let one : business_days holidays (due - 1) 1 ≡ 0 =
              (let e : due - 1 + 1 ≡ due = omega arith in rw (e, closed) refl) in
              let apart : (due - 1 - from) + 1 ≡ due - from = omega arith in
              let parts = rw apart at (count_at holidays from (due - 1 - from) 1 (due - 1)
              (omega arith)) in
              let counts = nth.counts in
              let earlier = nth.least (due - 1) (omega arith) (omega arith) in
              omega arith
        ])
      ]
    where
      no_more : 0 ≡ n + 1 → ⊥
      no_more e = omega arith

  nth_counted : (from n : ℕ) → IsFirstCounted e.obligation.rule e.obligation.last (from + 1)
      → IsNthAfter holidays from (n + 1) e.obligation.due
      → (count_by is_counted_business e.days ≡ n + 1)
      × IsSomeAnd (last_of e.days) (IsDueDay e.obligation)
  nth_counted from n first nth =
      let after = nth.after in
      let apart : from + (e.obligation.due - from) ≡ e.obligation.due = omega arith in
      let counted : count_by is_counted_business e.days
      ≡ business_days holidays from (e.obligation.due - from) =
      business_counted holidays e.days from (e.obligation.due - from) is.explains.days_rise
      (subst (λ b. AreCounted holidays (from + 1) b e.days) (sym apart)
      (counted_from (from + 1) first)) in
      let opened = nth_open from n e.obligation.due nth in
      let some : from + 1 ≤ e.obligation.due = elim (cases_lt from e.obligation.due) [
        | inl some ↦ omega arith
        | inr none ↦ absurd
            (let counts = nth.counts in
            let k : e.obligation.due - from ≡ 0 = omega arith in
            no_more n (rw k at counts))
      ] in
      (counted ∙ nth.counts, last_is e.days (from + 1) refl first some opened)
    where
      no_more : (n : ℕ) → 0 ≡ n + 1 → ⊥
      no_more n e = omega arith

  by_rule : (rule : Rule) → e.obligation.rule ≡ rule
      → (count_by is_counted_business e.days ≡ business_days_of rule)
      × IsSomeAnd (last_of e.days) (IsDueDay e.obligation)
  by_rule Monthly same =
      let due : IsDue holidays Monthly e.obligation.last e.obligation.due =
      subst (λ r. IsDue holidays r e.obligation.last e.obligation.due) same obligation.due in
      let fifteenth = fifteenth_after e.obligation.last in
      let next : fifteenth ≡ (fifteenth - 1) + 1 = omega arith in
      on_counted (fifteenth - 1)
      (subst (λ r. IsFirstCounted r e.obligation.last ((fifteenth - 1) + 1)) (sym same) (sym next))
      (subst (λ d. IsOnOrAfter holidays d e.obligation.due) next due)
  by_rule Semiweekly same =
      let due : IsDue holidays Semiweekly e.obligation.last e.obligation.due =
      subst (λ r. IsDue holidays r e.obligation.last e.obligation.due) same obligation.due in
      nth_counted due.0 2
      (subst (λ r. IsFirstCounted r e.obligation.last (due.0 + 1)) (sym same)
      (due.0, due.1, refl)) due.2
  by_rule NextDay same =
      let due : IsDue holidays NextDay e.obligation.last e.obligation.due =
      subst (λ r. IsDue holidays r e.obligation.last e.obligation.due) same obligation.due in
      nth_counted e.obligation.last 0
      (subst (λ r. IsFirstCounted r e.obligation.last (e.obligation.last + 1)) (sym same) refl) due

  pub business_days_are : (count_by is_counted_business e.days ≡ business_days_of e.obligation.rule)
      × IsSomeAnd (last_of e.days) (IsDueDay e.obligation)
  business_days_are = by_rule e.obligation.rule refl
