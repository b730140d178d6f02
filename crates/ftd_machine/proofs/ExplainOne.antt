-- An obligation is explained in one way.
use Rattle.std.proofs.Common.{◌≡◌, ◌∙◌, refl, sym, ap, subst, ℕ, List, Option}
use Rattle.std.proofs.Common.{None}
use Rattle.std.proofs.Common.{Some, Ok}
use Rattle.std.specs.Prelude.{◌↔◌}
use Rattle.ftd_days.specs.Calendar.{quarter_of}
use Rattle.ftd_days.proofs.Business.{on_or_after_one}
use Rattle.ftd_rules.specs.declared.Kind.{Kind}
use Rattle.ftd_rules.specs.declared.Obligation.{Obligation}
use Rattle.ftd_rules.specs.Laws.{Covers}
use Rattle.ftd_rules.specs.Lists.{Has}
use Rattle.ftd_rules.specs.Returns.{month_after_ends}
use Rattle.ftd_rules.proofs.Covering.{covering_one}
use Rattle.ftd_rules.proofs.Stated.{rows_owed}
use Rattle.ftd_machine.specs.State.{Entries}
use Rattle.ftd_machine.specs.History.{form_of, live_sums, AreOwed}
use Rattle.ftd_machine.specs.Checks.{Answer}
use Rattle.ftd_machine.specs.Asking.{IsStatus}
use Rattle.ftd_machine.specs.Explaining.{IsPaydayOf, day_of_payday, IsCountedDay, day_counted}
use Rattle.ftd_machine.specs.Explaining.{IsPaymentOf, Explains, IsExplained, IsExplanation}
use Rattle.ftd_machine.specs.Kept.{IsPaymentBefore}
use Rattle.ftd_machine.specs.declared.explained.CountedDay.{CountedDay}
use Rattle.ftd_machine.specs.declared.explained.Explanation.{Explanation}
use Rattle.ftd_machine.specs.declared.explained.RunningSum.{RunningSum}
use Rattle.ftd_machine.specs.declared.kept.KeptPayment.{KeptPayment}
use Rattle.ftd_machine.specs.declared.replies.Reason.{Reason}
use Rattle.ftd_machine.specs.Told.{explained_answer, status_answer}
use Rattle.ftd_machine.specs.declared.facts.DaySchedule.{DaySchedule}
use Rattle.ftd_machine.specs.declared.facts.Facts.TheVariants.{Status}
use Rattle.ftd_machine.specs.declared.replies.Reply.TheVariants.{Told}
use Rattle.ftd_machine.proofs.KeptOne.{listed_one, two_once, day_paid_for, payment_number}
use Rattle.ftd_machine.proofs.Single.{IsOnce, members_one, owed_one, status_one}

-- the obligation that covers a day is one
pub covers_one : (holidays : List ℕ) (own : Entries) (owed : List Obligation)
    → AreOwed holidays own owed → (day : ℕ) (o p : Obligation) → Has owed o → Has owed p
    → Covers o day → Covers p day → o ≡ p
covers_one holidays own owed are day o p has_o has_p c d =
    let form = form_of own.account in
    let sums = live_sums own in
    let rows = rows_owed form are.0 sums holidays owed are.2 in
    covering_one form are.0 sums holidays day o p are.1.schedules ((rows.all o).0 has_o)
    ((rows.all p).0 has_p) c d

abbrev status_of : DaySchedule → Answer
status_of x = Ok (Told (Status x))

same_schedule : (a b : DaySchedule) → status_of a ≡ status_of b → a ≡ b
same_schedule a b e = cc

same_status : (day : ℕ) (k l : Kind) (r q : Reason)
    → status_answer day k r ≡ status_answer day l q → (k ≡ l) × (r ≡ q)
same_status day k l r q e =
    let same = same_schedule (record { day = day; kind = k; reason = r })
    (record { day = day; kind = l; reason = q }) e in
    (ap (λ (x : DaySchedule). x.kind) same, ap (λ (x : DaySchedule). x.reason) same)

module _ (holidays : List ℕ) (own : Entries) (owed : List Obligation) where
  -- two explanations of one obligation
  explains_one : (e f : Explanation) → IsOnce own → f.obligation ≡ e.obligation
      → Explains holidays own owed e → Explains holidays own owed f → e ≡ f
  explains_one e f once same g h =
      let form = form_of own.account in
      let day = e.obligation.first in
      let schedule : IsStatus own day (status_answer day f.kind f.reason) =
      subst (λ (o : Obligation). IsStatus own o.first (status_answer o.first f.kind f.reason)) same
      h.schedule in
      let statuses = same_status day e.kind f.kind e.reason f.reason (status_one own day
      (status_answer day e.kind e.reason) (status_answer day f.kind f.reason) once g.schedule
      schedule) in
      let kind : e.kind ≡ f.kind = statuses.0 in
      let reason : e.reason ≡ f.reason = statuses.1 in
      let also_paydays : (x : RunningSum) → Has f.paydays x ↔ IsPaydayOf own e.obligation x =
      subst (λ (o : Obligation). (x : RunningSum) → Has f.paydays x ↔ IsPaydayOf own o x) same
      h.paydays in
      let paydays : e.paydays ≡ f.paydays = members_one day_of_payday e.paydays f.paydays
      g.paydays_rise h.paydays_rise (λ x k. (also_paydays x).1 ((g.paydays x).0 k))
      (λ x k. (g.paydays x).1 ((also_paydays x).0 k)) in
      let also_days : (x : CountedDay) → Has f.days x ↔ IsCountedDay holidays e.obligation x =
      subst (λ (o : Obligation). (x : CountedDay) → Has f.days x ↔ IsCountedDay holidays o x) same
      h.days in
      let days : e.days ≡ f.days = members_one day_counted e.days f.days g.days_rise h.days_rise
      (λ x k. (also_days x).1 ((g.days x).0 k)) (λ x k. (g.days x).1 ((also_days x).0 k)) in
      let first : f.obligation.first ≡ e.obligation.first = ap (λ (o : Obligation). o.first) same in
      let return_due : e.return_due ≡ f.return_due = on_or_after_one holidays
      (month_after_ends form (quarter_of f.obligation.first)) e.return_due f.return_due
      (rw (first) g.return_due) h.return_due in
      let also : (x : KeptPayment) → Has f.payments x ↔ IsPaymentOf own e.obligation x =
      subst (λ (o : Obligation). (x : KeptPayment) → Has f.payments x ↔ IsPaymentOf own o x) same
      h.payments in
      let payments : e.payments ≡ f.payments = listed_one IsPaymentBefore
      (two_once day_paid_for payment_number) (IsPaymentOf own e.obligation) e.payments f.payments
      g.in_order h.in_order g.payments also in
      let obligation : e.obligation ≡ f.obligation = sym same in
      rw (obligation, kind, reason, paydays, days, return_due, payments) refl

  explained_one : (day : ℕ) (a b : Option Explanation) → IsOnce own → AreOwed holidays own owed
      → IsExplained holidays own owed day a → IsExplained holidays own owed day b → a ≡ b
  explained_one day None None once are g h = refl
  explained_one day None (Some f) once are g h = absurd (g f.obligation h.0.is_owed h.1)
  explained_one day (Some e) None once are g h = absurd (h e.obligation g.0.is_owed g.1)
  explained_one day (Some e) (Some f) once are g h =
      ap Some (explains_one e f once (covers_one holidays own owed are day f.obligation e.obligation
      h.0.is_owed g.0.is_owed h.1 g.1) g.0 h.0)

pub explanation_one : (holidays : List ℕ) (own : Entries) (name : List ℕ) (day : ℕ) (a b : Answer)
    → IsOnce own
    → IsExplanation holidays own name day a → IsExplanation holidays own name day b → a ≡ b
explanation_one holidays own name day a b once g h =
    let owed : h.owed ≡ g.owed = owed_one holidays own h.owed g.owed once h.are_owed g.are_owed in
    let also : IsExplained holidays own g.owed day h.explained =
    subst (λ os. IsExplained holidays own os day h.explained) owed h.is_explained in
    let same : g.explained ≡ h.explained = explained_one holidays own g.owed day g.explained
    h.explained once g.are_owed g.is_explained also in
    g.told ∙ ap (explained_answer name day) same ∙ sym h.told
