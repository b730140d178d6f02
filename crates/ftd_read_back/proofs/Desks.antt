-- The rows that a desk answers with have such values.
use Rattle.std.proofs.Common.{◌≡◌, refl, sym, ap, subst, ℕ, ◌<◌, ◌≤◌, ◌+◌, ◌^◌, Bool, true}
use Rattle.std.proofs.Common.{false, inl, inr, List, [], ◌∷◌, Option, Some, None, Ok, arith}
use Rattle.std.specs.Prelude.{IfSome, nat_le}
use Rattle.std.proofs.lemmas.Bool.{leb-true, and_parts}
use Rattle.ftd_days.specs.Calendar.{last_day, year_of, quarter_of, quarter_year}
use Rattle.ftd_days.specs.Holidays.{AreFew}
use Rattle.ftd_days.proofs.Months.{day_in_years, year_is}
use Rattle.ftd_days.proofs.Spelling.{same_text}
use Rattle.ftd_rules.specs.Accounts.{is_account_name}
use Rattle.ftd_rules.specs.Lists.{Has}
use Rattle.ftd_rules.specs.Private.Obligations.{IsOwedPiece}
use Rattle.ftd_rules.specs.Years.{AreLines}
use Rattle.ftd_rules.specs.declared.TheConstants.{AMOUNTS_END}
use Rattle.ftd_rules.specs.declared.DaySum.{DaySum}
use Rattle.ftd_rules.specs.declared.Form.{Form}
use Rattle.ftd_rules.specs.declared.Obligation.{Obligation}
use Rattle.ftd_rules.specs.declared.payment.Payment.{Payment}
use Rattle.ftd_rules.specs.declared.run.Voidable.{Voidable}
use Rattle.ftd_rules.specs.declared.YearLine.{YearLine}
use Rattle.ftd_rules.specs.declared.verdict.DueRow.{DueRow}
use Rattle.ftd_rules.specs.declared.verdict.Verdict.{Verdict}
use Rattle.ftd_rules.specs.declared.verdict.Verdict.TheVariants as verdict
use Rattle.ftd_rules.proofs.Covering.{line_is, within_period}
use Rattle.ftd_rules.proofs.Near.{due_near, return_near, makeup_near}
use Rattle.ftd_rules.proofs.Schedules.{year_facts}
use Rattle.ftd_rules.proofs.Stated.{rows_owed}
use Rattle.ftd_machine.specs.Agenda.{IsAgenda, IsDayFor, IsLeftBy, IsDueBetween}
use Rattle.ftd_machine.specs.Agenda.{IsAgendaRow}
use Rattle.ftd_machine.specs.Asking.{IsDueList, IsDueRow}
use Rattle.ftd_machine.specs.Checks.{Answer, first_of, needs}
use Rattle.ftd_machine.specs.History.{AreOwed, form_of, live_sums}
use Rattle.ftd_machine.specs.Kept.{ArePayments, IsHeldBy}
use Rattle.ftd_machine.specs.Limits.{can_have_calendar, is_amount, is_number}
use Rattle.ftd_machine.specs.Questions.{question_checks, Tells}
use Rattle.ftd_machine.specs.Sound.{IsSound}
use Rattle.ftd_machine.specs.State.{State, Enrolled, Entry, entries_of, holidays, account_of}
use Rattle.ftd_machine.specs.State.{is_named, is_open, kept_at}
use Rattle.ftd_machine.specs.Step.{Step}
use Rattle.ftd_machine.specs.Told.{agenda_answer, due_answer, due_facts, kept_answer, owed_answer}
use Rattle.ftd_machine.specs.declared.entries.Account.{Account}
use Rattle.ftd_machine.specs.declared.facts.Agenda.{Agenda as AgendaFacts}
use Rattle.ftd_machine.specs.declared.facts.DueList.{DueList as DueFacts}
use Rattle.ftd_machine.specs.declared.facts.OwedList.{OwedList}
use Rattle.ftd_machine.specs.declared.facts.Facts.TheVariants as facts
use Rattle.ftd_machine.specs.declared.kept.KeptPayment.{KeptPayment}
use Rattle.ftd_machine.specs.declared.kept.KeptRows.TheVariants as rows
use Rattle.ftd_machine.specs.declared.lists.AgendaRow.{AgendaRow}
use Rattle.ftd_machine.specs.declared.replies.Refusal.{Refusal}
use Rattle.ftd_machine.specs.declared.replies.Reply.{Reply}
use Rattle.ftd_machine.specs.declared.replies.Reply.TheVariants as reply
use Rattle.ftd_machine.specs.declared.requests.Question.{Question as Questions}
use Rattle.ftd_machine.specs.declared.requests.KeptList.TheVariants as kept
use Rattle.ftd_machine.specs.declared.requests.Question.TheVariants.{DueList, Agenda, Owed, Kept}
use Rattle.ftd_machine.specs.declared.requests.Request.TheVariants.{Question}
use Rattle.ftd_machine.proofs.Deciding.{either}
use Rattle.ftd_machine.proofs.Few.{few_in_force}
use Rattle.ftd_machine.proofs.Entered.{of_kept}
use Rattle.ftd_machine.proofs.Members.{enrolled_of, found_some, some_of}
use Rattle.ftd_machine.proofs.Refusing.{Refuses, refuses_none, refuses_needs, refuses_finds}
use Rattle.ftd_machine.proofs.Small.{liability_small, paid_small}
use Rattle.ftd_read_back.specs.Rows.{IsDueRowInRange, AreDueRowsInRange, IsAgendaRowInRange}
use Rattle.ftd_read_back.specs.Rows.{AreAgendaRowsInRange, IsPaymentInRange, ArePaymentsInRange}

-- ---- the days of an obligation

abbrev IsEarly : Obligation → Type 0
IsEarly o = (year_of o.first ≤ 2098) × (year_of o.last ≤ 2098)

early : (form : Form) (lines : List YearLine) (sums : List DaySum) (holidays : List ℕ)
    (o : Obligation) → AreLines sums lines → IsOwedPiece form lines sums holidays o → IsEarly o
early form lines sums holidays o are h =
    let year : ℕ = h.line.year in
    let w = within_period form lines sums holidays o h in
    let w0 = w.0 in let w1 = w.1 in let w2 = w.2 in
    let starts = h.period.1 in let ends = h.period.2 in
    let y = line_is lines sums h.line are h.open_year in
    let y0 = y.0 in let y1 = y.1 in
    let f = year_facts year y0 y1 in
    let f3 = f.3 in
    let first = year_is year o.first (omega arith) (omega arith) (omega arith) (omega arith) in
    let last = year_is year o.last (omega arith) (omega arith) (omega arith) (omega arith) in
    (omega arith, omega arith)

pub in_calendar : (day year : ℕ) → year_of day ≤ year + 1 → year ≤ 2198 → day ≤ last_day
in_calendar day year h low = day_in_years day (omega arith)

pub quarter_in_year : (day : ℕ) → quarter_year (quarter_of day) ≡ year_of day
quarter_in_year day = omega arith

-- ---- a row of a due list

module _ (s : State) (sound : IsSound s) where
  pub few : AreFew (holidays s)
  few = few_in_force s sound.few

  pub small : (n : ℕ) → n < AMOUNTS_END → n < 2 ^ 64
  small n h = omega arith

  module _ (name : List ℕ) (owed : List Obligation)
      (are : AreOwed (holidays s) (entries_of s name) owed) where
    abbrev form : Form
    form = form_of (entries_of s name).account

    abbrev sums : List DaySum
    sums = live_sums (entries_of s name)

    pub piece : (o : Obligation) → Has owed o → IsOwedPiece form are.0 sums (holidays s) o
    piece o has = ((rows_owed form are.0 sums (holidays s) owed are.2).all o).0 has

    pub is_early : (o : Obligation) → Has owed o → IsEarly o
    is_early o has = early form are.0 sums (holidays s) o are.1.schedules (piece o has)

    due_row : (quarter as_of : ℕ) (row : DueRow)
        → IsDueRow (holidays s) (entries_of s name) owed quarter as_of row → IsDueRowInRange row
    due_row quarter as_of row is =
        let o : Obligation = row.obligation in
        let h = piece o is.owed in
        let days = is_early o is.owed in
        let first = days.0 in
        let last = days.1 in
        let due = (due_near (holidays s) o.rule o.last o.due few (omega arith) h.due).1.0 in
        let makeup = (makeup_near form (holidays s) o.rule o.last o.due row.makeup few (omega arith)
        h.due is.makeup).1 in
        record {
          first = day_in_years o.first (omega arith);
          last = day_in_years o.last (omega arith);
          amount = small o.cents.0 (subst (λ n. n < AMOUNTS_END) (sym h.amount)
              (liability_small s name sound o.first o.last));
          due = in_calendar o.due (year_of o.last) due (omega arith);
          makeup = in_calendar row.makeup (year_of o.last) makeup (omega arith);
          paid = small row.paid.0 (subst (λ n. n < AMOUNTS_END) (sym is.paid)
              (paid_small s name sound o.first o.last as_of as_of));
        }

    -- the day by which to pay it
    day_for : (other : Form) (as_of : ℕ) (row : DueRow) (v : Verdict) (day : ℕ)
        → IsDueRowInRange row → year_of row.obligation.first ≤ 2098
        → IsDayFor other (holidays s) as_of row v day → day ≤ last_day
    day_for other as_of row verdict.Met day is low e = let d = is.due in omega arith
    day_for other as_of row verdict.WithReturn day is low (inl h) =
        let quarter : ℕ = quarter_of row.obligation.first in
        let year = quarter_in_year row.obligation.first in
        in_calendar day (quarter_year quarter)
        (return_near other (holidays s) quarter day few (omega arith) h.1).1.0 (omega arith)
    day_for other as_of row verdict.WithReturn day is low (inr h) =
        let d = is.due in let e = h.1 in omega arith
    day_for other as_of row verdict.Open day is low e = let d = is.due in omega arith
    day_for other as_of row verdict.MadeUp day is low e = let d = is.due in omega arith
    day_for other as_of row verdict.Short day is low e = let d = is.makeup in omega arith
    day_for other as_of row verdict.Late day is low e = let d = is.due in omega arith

  -- ---- a row of what is due over all accounts

  pub named : (name : List ℕ) (account : Account) → (entries_of s name).account ≡ Some account
      → is_account_name name ≡ true
  named name account is =
      let first = enrolled_of s name account is in
      let found = found_some account_of (is_named name) s.accounts first.0 first.1 in
      let e : Enrolled = found.0 in
      subst (λ n. is_account_name n ≡ true) (same_text e.name name found.2)
      (sound.names e found.1)

  pub agenda_row : (as_of : ℕ) (x : AgendaRow) → IsAgendaRow s as_of x → IsAgendaRowInRange x
  agenda_row as_of x is =
      let row = due_row x.account is.owed is.are_owed
      (quarter_of x.row.obligation.first) as_of x.row is.is_row in
      let days = is_early x.account is.owed is.are_owed x.row.obligation is.is_row.owed in
      record {
        name = named x.account is.account is.enrolled;
        row = row;
        pay_by = day_for x.account is.owed is.are_owed x.form as_of x.row x.row.verdict x.pay_by row
            days.0 is.pay_by;
      }

-- ---- what a question is answered

-- a question that is answered with a reply has passed its checks
pub told_by : (s : State) (question : Questions) (r : Reply) (after : State)
    → Refuses (question_checks s question) → Step s (Question question) (Ok r) after
    → (first_of (question_checks s question) ≡ None) × Tells s question (Ok r)
told_by s question r after refuses step =
    elim (either (first_of (question_checks s question)) s (Ok r) after
    ((after ≡ s) × Tells s question (Ok r)) step) [
      | inl same ↦ absurd (refuses.never r same.0)
      | inr told ↦ (told.0, told.1.1)
    ]

two_days : (a b : Bool) (one other : Refusal) → Refuses (needs a one ∷ needs b other ∷ [])
two_days a b one other = refuses_needs a one _ (refuses_needs b other [] refuses_none)

abbrev pub told : Reply → Answer
told r = Ok r

same_agenda : (a b : AgendaFacts)
    → told (reply.Told (facts.Agenda a)) ≡ told (reply.Told (facts.Agenda b)) → a ≡ b
same_agenda a b e = cc

same_owed : (a b : OwedList)
    → told (reply.Told (facts.Owed a)) ≡ told (reply.Told (facts.Owed b)) → a ≡ b
same_owed a b e = cc

same_due : (a b : DueFacts)
    → told (reply.Told (facts.Due a)) ≡ told (reply.Told (facts.Due b)) → a ≡ b
same_due a b e = cc

pub agenda_told : (s : State) (from to as_of : ℕ) (rows : List AgendaRow) (after : State)
    → IsSound s
    → Step s (Question (Agenda from to as_of)) (agenda_answer from to as_of rows) after
    → AreAgendaRowsInRange rows
agenda_told s from to as_of rows after sound step x has =
    let g : IsAgenda s (IsDueBetween from to) as_of (agenda_answer from to as_of)
    (agenda_answer from to as_of rows) =
    (told_by s (Agenda from to as_of)
    (reply.Told (facts.Agenda (record { from = from; to = to; as_of = as_of; rows = rows }))) after
    (two_days _ _ _ _) step).1 in
    let same : rows ≡ g.listed = ap (λ (a : AgendaFacts). a.rows) (same_agenda _ _ g.told) in
    agenda_row s sound as_of x ((g.all x).0 (subst (λ xs. Has xs x) same has)).0

pub owed_told : (s : State) (until as_of : ℕ) (rows : List AgendaRow) (after : State) → IsSound s
    → Step s (Question (Owed until as_of)) (owed_answer until as_of rows) after
    → AreAgendaRowsInRange rows
owed_told s until as_of rows after sound step x has =
    let g : IsAgenda s (IsLeftBy until) as_of (owed_answer until as_of)
    (owed_answer until as_of rows) =
    (told_by s (Owed until as_of)
    (reply.Told (facts.Owed (record { until = until; as_of = as_of; rows = rows }))) after
    (two_days _ _ _ _) step).1 in
    let same : rows ≡ g.listed = ap (λ (a : OwedList). a.rows) (same_owed _ _ g.told) in
    agenda_row s sound as_of x ((g.all x).0 (subst (λ xs. Has xs x) same has)).0

pub first_passed : (name : Bool) (refusal : Refusal) (checks : List (Option Answer))
    → first_of (needs name refusal ∷ checks) ≡ None → name ≡ true
first_passed true refusal checks e = refl
first_passed false refusal checks e = absurd cc

pub due_told : (s : State) (account : List ℕ) (quarter as_of : ℕ) (rows : List DueRow)
    (after : State) → IsSound s
    → Step s (Question (DueList account quarter as_of)) (due_answer account quarter as_of rows)
    after
    → (is_account_name account ≡ true) × AreDueRowsInRange rows
due_told s account quarter as_of rows after sound step =
    let passed = told_by s (DueList account quarter as_of)
    (reply.Told (due_facts account quarter as_of rows)) after
    (refuses_needs _ _ _
    (refuses_needs _ _ _
    (refuses_needs _ _ _ (refuses_finds _ _ _ (refuses_needs _ _ [] refuses_none))))) step in
    let d : IsDueList (holidays s) (entries_of s account) account quarter as_of
    (due_answer account quarter as_of rows) = passed.1 in
    let same : rows ≡ d.listed = ap (λ (a : DueFacts). a.rows) (same_due _ _ d.told) in (
      first_passed (is_account_name account) _ _ passed.0,
      λ row has. due_row s sound account d.rows d.owed quarter as_of row
          ((d.all row).0 (subst (λ xs. Has xs row) same has)),
    )

-- ---- the payments of a quarter

pub early_year : (s : State) (account : List ℕ) (year : ℕ) → IsSound s
    → is_open (entries_of s account) year ≡ true → year ≤ 2098
early_year s account year sound e =
    let some = some_of (kept_at year (entries_of s account).open_years) e in
    let found = of_kept account s.open_years sound.open_years year some.0 some.1 in
    let between = (and_parts (nat_le 2001 found.0.key) (nat_le found.0.key 2098)
    (sound.opened found.0 found.1).0).1 in
    let last = leb-true found.0.key 2098 between in
    let key = found.3 in
    omega arith

held : (s : State) (account : List ℕ) (owed : List Obligation) (day : ℕ) (o : Option ℕ) → IsSound s
    → AreOwed (holidays s) (entries_of s account) owed → IsHeldBy owed day o
    → IfSome o (λ first. first ≤ last_day)
held s account owed day None sound are is = tt
held s account owed day (Some first) sound are is =
    let early_first = (is_early s sound account owed are is.0 is.1).0 in
    subst (λ d. d ≤ last_day) is.3 (day_in_years is.0.first (omega arith))

pub payment_row : (s : State) (account : List ℕ) (x : KeptPayment) → IsSound s
    → kept_at x.number (entries_of s account).payments
    ≡ Some (record { value = x.payment; voided = x.voided })
    → IfSome x.obligation (λ first. first ≤ last_day) → IsPaymentInRange x
payment_row s account x sound kept obligation =
    let content : Voidable Payment = record { value = x.payment; voided = x.voided } in
    let found = of_kept account s.payments sound.payments x.number content kept in
    let e : Entry (Voidable Payment) = found.0 in
    let same : e.content ≡ content = found.4 in
    let number : is_number x.number ≡ true = subst (λ n. is_number n ≡ true) found.3
    (sound.payment_numbers e found.1) in
    let paid : can_have_calendar (year_of x.payment.paid) ≡ true =
    subst (λ (v : Voidable Payment). can_have_calendar (year_of v.value.paid) ≡ true) same
    (sound.paid_in e found.1) in
    let open_year : is_open (entries_of s account) (year_of x.payment.for_day) ≡ true =
    subst
    (λ (v : Voidable Payment). is_open (entries_of s account) (year_of v.value.for_day) ≡ true)
    same (subst (λ n. is_open (entries_of s n) (year_of e.content.value.for_day) ≡ true) found.2
    (sound.paid_days e found.1)) in
    let amount : is_amount x.payment.cents ≡ true =
    subst (λ (v : Voidable Payment). is_amount v.value.cents ≡ true) same
    (sound.paid_amounts e found.1) in
    let most = leb-true x.number 999_999_999
    (and_parts (nat_le 1 x.number) (nat_le x.number 999_999_999) number).1 in
    let last = leb-true (year_of x.payment.paid) 2099
    (and_parts (nat_le 2001 (year_of x.payment.paid)) (nat_le (year_of x.payment.paid) 2099) paid).1
    in
    let early_for = early_year s account (year_of x.payment.for_day) sound open_year in
    let cents = leb-true x.payment.cents.0 99_999_999_999 amount in
    record {
      number = omega arith;
      paid = day_in_years x.payment.paid (omega arith);
      for_day = day_in_years x.payment.for_day (omega arith);
      amount = omega arith;
      obligation = obligation;
    }

same_payments : (name : List ℕ) (quarter : ℕ) (a b : List KeptPayment)
    → kept_answer (rows.Payments name quarter a) ≡ kept_answer (rows.Payments name quarter b)
    → a ≡ b
same_payments name quarter a b e = cc

pub payments_told : (s : State) (account : List ℕ) (quarter : ℕ) (listed : List KeptPayment)
    (after : State) → IsSound s
    → Step s (Question (Kept (kept.Payments account quarter)))
    (kept_answer (rows.Payments account quarter listed)) after
    → (is_account_name account ≡ true) × ArePaymentsInRange listed
payments_told s account quarter listed after sound step =
    let passed = told_by s (Kept (kept.Payments account quarter))
    (reply.Told (facts.Kept (rows.Payments account quarter listed))) after
    (refuses_needs _ _ _ (refuses_needs _ _ _ (refuses_finds _ _ [] refuses_none))) step in
    let d : ArePayments (holidays s) (entries_of s account) account quarter
    (kept_answer (rows.Payments account quarter listed)) = passed.1 in
    let same : listed ≡ d.listed = same_payments account quarter listed d.listed d.told in (
      first_passed (is_account_name account) _ _ passed.0,
      λ x has. (let is = (d.all x).0 (subst (λ xs. Has xs x) same has) in
          payment_row s account x sound is.0
          (held s account d.owed x.payment.for_day x.obligation sound d.are_owed is.2)),
    )
