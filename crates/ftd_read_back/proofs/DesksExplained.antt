-- So has what a desk answers to the questions for the deposit schedule of a day, and why an
-- obligation is so.
use Rattle.std.proofs.Common.{◌≡◌, sym, ap, subst, ℕ, ◌<◌, ◌≤◌, Bool, true}
use Rattle.std.proofs.Common.{inl, inr, List, [], Option, Some, None, arith}
use Rattle.std.specs.Prelude.{IfSome, nat_le}
use Rattle.std.proofs.lemmas.Bool.{leb-true, and_parts}
use Rattle.ftd_days.specs.Calendar.{last_day, year_of, quarter_of}
use Rattle.ftd_days.proofs.Months.{day_in_years}
use Rattle.ftd_rules.specs.Accounts.{is_account_name}
use Rattle.ftd_rules.specs.Lists.{Has}
use Rattle.ftd_rules.specs.declared.TheConstants.{AMOUNTS_END}
use Rattle.ftd_rules.specs.declared.Kind.{Kind}
use Rattle.ftd_rules.specs.declared.Obligation.{Obligation}
use Rattle.ftd_rules.specs.declared.YearLine.{YearLine}
use Rattle.ftd_rules.proofs.Near.{due_near, return_near}
use Rattle.ftd_machine.specs.Asking.{IsReason, IsStatus}
use Rattle.ftd_machine.specs.Explaining.{Explains, IsExplained, IsExplanation}
use Rattle.ftd_machine.specs.History.{AreLinesOf, AreOwed, form_of}
use Rattle.ftd_machine.specs.Limits.{can_be_opened}
use Rattle.ftd_machine.specs.Sound.{IsSound}
use Rattle.ftd_machine.specs.State.{State, entries_of, holidays, kept_at}
use Rattle.ftd_machine.specs.Step.{Step}
use Rattle.ftd_machine.specs.Told.{explained_answer, status_answer}
use Rattle.ftd_machine.specs.declared.explained.Explanation.{Explanation}
use Rattle.ftd_machine.specs.declared.facts.DaySchedule.{DaySchedule}
use Rattle.ftd_machine.specs.declared.facts.ExplainedDay.{ExplainedDay}
use Rattle.ftd_machine.specs.declared.facts.Facts.TheVariants as facts
use Rattle.ftd_machine.specs.declared.replies.Reason.{Reason}
use Rattle.ftd_machine.specs.declared.replies.Reason.TheVariants as reason
use Rattle.ftd_machine.specs.declared.replies.Reply.TheVariants as reply
use Rattle.ftd_machine.specs.declared.requests.Question.TheVariants.{Explain, Status}
use Rattle.ftd_machine.specs.declared.requests.Request.TheVariants.{Question}
use Rattle.ftd_machine.proofs.Refusing.{refuses_none, refuses_needs, refuses_finds}
use Rattle.ftd_machine.proofs.Small.{liability_small}
use Rattle.ftd_read_back.specs.Rows.{IsExplanationInRange, IsReasonInRange}
use Rattle.ftd_read_back.proofs.Desks.{few, first_passed, is_early, payment_row, piece}
use Rattle.ftd_read_back.proofs.Desks.{quarter_in_year, small, told, told_by}
use Rattle.ftd_read_back.proofs.DesksKept.{second_passed, turn_within}

same_schedule : (a b : DaySchedule)
    → told (reply.Told (facts.Status a)) ≡ told (reply.Told (facts.Status b)) → a ≡ b
same_schedule a b e = cc

same_explained : (a b : ExplainedDay)
    → told (reply.Told (facts.Explained a)) ≡ told (reply.Told (facts.Explained b)) → a ≡ b
same_explained a b e = cc

module _ (s : State) (sound : IsSound s) where
  -- ---- the deposit schedule of a day

  reason_early : (name : List ℕ) (lines : List YearLine) → AreLinesOf (entries_of s name) lines
      → (line : YearLine) → Has lines line → (status : Kind) (why : Reason)
      → IsReason lines line status why → IsReasonInRange why
  reason_early name lines are line has status reason.Lookback is = tt
  reason_early name lines are line has status reason.Carried is = tt
  reason_early name lines are line has status (reason.Turned turn) (other, inl before) =
      subst (λ (o : Option ℕ). IfSome o (λ day. day ≤ last_day)) before.3
      (turn_within s sound name lines are before.0 before.1)
  reason_early name lines are line has status (reason.Turned turn) (other, inr own) =
      subst (λ (o : Option ℕ). IfSome o (λ day. day ≤ last_day)) own.2
      (turn_within s sound name lines are line has)

  schedule_early : (name : List ℕ) (day : ℕ) (kind : Kind) (why : Reason)
      → IsStatus (entries_of s name) day (status_answer day kind why) → IsReasonInRange why
  schedule_early name day kind why d =
      let same : why ≡ d.why = ap (λ (x : DaySchedule). x.reason) (same_schedule _ _ d.told) in
      subst IsReasonInRange (sym same)
      (reason_early name d.lines d.are_lines d.line d.open_year d.status d.why d.is_why)

  -- ---- why an obligation is so

  explains_early : (name : List ℕ) (owed : List Obligation) (e : Explanation)
      → AreOwed (holidays s) (entries_of s name) owed
      → Explains (holidays s) (entries_of s name) owed e → IsExplanationInRange e
  explains_early name owed e are is =
      let o : Obligation = e.obligation in
      let h = piece s sound name owed are o is.is_owed in
      let days = is_early s sound name owed are o is.is_owed in
      let first_year = days.0 in let last_year = days.1 in
      let first = day_in_years o.first (omega arith) in
      let last = day_in_years o.last (omega arith) in
      let few_days = few s sound in
      let due_by = due_near (holidays s) o.rule o.last o.due few_days (omega arith) h.due in
      let due = due_by.1.1 in
      let quarter : ℕ = quarter_of o.first in
      let year = quarter_in_year o.first in
      let by_return = return_near (form_of (entries_of s name).account) (holidays s) quarter
      e.return_due few_days (omega arith) is.return_due in
      record {
        first = first;
        last = last;
        amount = small s sound o.cents.0 (subst (λ n. n < AMOUNTS_END) (sym h.amount)
            (liability_small s name sound o.first o.last));
        due = due;
        reason = schedule_early name o.first e.kind e.reason is.schedule;
        paydays = λ x has. (let p = (is.paydays x).0 has in
            let to = p.0.1 in
            record {
              day = omega arith;
              amount = small s sound x.cents.0 (subst (λ n. n < AMOUNTS_END) (sym p.1)
                  (liability_small s name sound x.day x.day));
              total = small s sound x.total.0 (subst (λ n. n < AMOUNTS_END) (sym p.3)
                  (liability_small s name sound o.first x.day));
            });
        days = λ x has. (let c = (is.days x).0 has in let to = c.3 in omega arith);
        return_due = by_return.1.1;
        payments = λ x has. (let p = (is.payments x).0 has in
            payment_row s name x sound
            (subst (λ (v : Bool). kept_at x.number (entries_of s name).payments
            ≡ Some (record { value = x.payment; voided = v })) (sym p.2) p.0)
            (subst (λ (b : Option ℕ). IfSome b (λ day. day ≤ last_day)) (sym p.3) first));
      }

  explained_early : (name : List ℕ) (owed : List Obligation) (day : ℕ)
      (found : Option Explanation) → AreOwed (holidays s) (entries_of s name) owed
      → IsExplained (holidays s) (entries_of s name) owed day found
      → IfSome found IsExplanationInRange
  explained_early name owed day None are is = tt
  explained_early name owed day (Some e) are is = explains_early name owed e are is.0

  -- ---- what the questions are answered

  pub schedule_told : (account : List ℕ) (day : ℕ) (kind : Kind) (why : Reason) (after : State)
      → Step s (Question (Status account day)) (status_answer day kind why) after
      → (day ≤ last_day) × IsReasonInRange why
  schedule_told account day kind why after step =
      let passed = told_by s (Status account day)
      (reply.Told (facts.Status (record { day = day; kind = kind; reason = why }))) after
      (refuses_needs _ _ _
      (refuses_needs _ _ _ (refuses_finds _ _ _ (refuses_needs _ _ [] refuses_none)))) step in
      let opened : can_be_opened (year_of day) ≡ true =
      second_passed (is_account_name account) (can_be_opened (year_of day)) _ _ _ passed.0 in
      let last = leb-true (year_of day) 2098
      (and_parts (nat_le 2001 (year_of day)) (nat_le (year_of day) 2098) opened).1 in
      (day_in_years day (omega arith), schedule_early account day kind why passed.1)

  pub explained_told : (account : List ℕ) (day : ℕ) (found : Option Explanation) (after : State)
      → Step s (Question (Explain account day)) (explained_answer account day found) after
      → (is_account_name account ≡ true) × (day ≤ last_day) × IfSome found IsExplanationInRange
  explained_told account day found after step =
      let passed = told_by s (Explain account day)
      (reply.Told (facts.Explained (record { account = account; day = day; found = found })))
      after
      (refuses_needs _ _ _
      (refuses_needs _ _ _ (refuses_finds _ _ _ (refuses_needs _ _ [] refuses_none)))) step in
      let opened : can_be_opened (year_of day) ≡ true =
      second_passed (is_account_name account) (can_be_opened (year_of day)) _ _ _ passed.0 in
      let last = leb-true (year_of day) 2098
      (and_parts (nat_le 2001 (year_of day)) (nat_le (year_of day) 2098) opened).1 in
      let d : IsExplanation (holidays s) (entries_of s account) account day
      (explained_answer account day found) = passed.1 in
      let same : found ≡ d.explained =
      ap (λ (x : ExplainedDay). x.found) (same_explained _ _ d.told) in (
        first_passed (is_account_name account) _ _ passed.0,
        day_in_years day (omega arith),
        subst (λ (o : Option Explanation). IfSome o IsExplanationInRange) (sym same)
            (explained_early account d.owed day d.explained d.are_owed d.is_explained),
      )
