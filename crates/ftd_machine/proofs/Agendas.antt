-- What is due over all accounts against the due lists, and what is owed against what is due.
use Rattle.std.proofs.Common.{◌≡◌, ◌∙◌, inl, inr, sym, subst, ℕ, ◌<◌, ◌≤◌, Bool}
use Rattle.std.proofs.Common.{List, [], ◌∷◌, Some, Ok, ap}
use Rattle.std.specs.Prelude.{◌↔◌}
use Rattle.std.proofs.lemmas.Option.{same_Some}
use Rattle.ftd_days.specs.Calendar.{quarter_of}
use Rattle.ftd_rules.specs.declared.verdict.DueRow.{DueRow}
use Rattle.ftd_rules.specs.Lists.{Has}
use Rattle.ftd_machine.specs.State.{State, entries_of, holidays}
use Rattle.ftd_machine.specs.Sound.{IsSound}
use Rattle.ftd_machine.specs.Checks.{Answer, first_of, needs}
use Rattle.ftd_machine.specs.Asking.{IsDueRow, IsDueList}
use Rattle.ftd_machine.specs.Agenda.{due_date_of, first_day_of, left_of, IsAgendaRow, IsAgenda}
use Rattle.ftd_machine.specs.Agenda.{IsDueBetween, IsLeftBy, IsCutOf}
use Rattle.ftd_machine.specs.Questions.{question_checks, Tells}
use Rattle.ftd_machine.specs.Step.{Step}
use Rattle.ftd_machine.specs.declared.entries.Account.{Account}
use Rattle.ftd_machine.specs.declared.lists.AgendaRow.{AgendaRow}
use Rattle.ftd_machine.specs.declared.replies.Refusal.{Refusal}
use Rattle.ftd_machine.specs.declared.replies.Reply.{Reply}
use Rattle.ftd_machine.specs.Told.{agenda_answer, due_answer, due_facts, owed_answer}
use Rattle.ftd_machine.specs.declared.facts.Agenda.{Agenda as Agendas}
use Rattle.ftd_machine.specs.declared.facts.DueList.{DueList as Lists}
use Rattle.ftd_machine.specs.declared.facts.Facts.{Facts}
use Rattle.ftd_machine.specs.declared.facts.OwedList.{OwedList}
use Rattle.ftd_machine.specs.declared.facts.Facts.TheVariants as facts
use Rattle.ftd_machine.specs.declared.replies.Reply.TheVariants as reply
use Rattle.ftd_machine.specs.declared.requests.Question.{Question as Questions}
use Rattle.ftd_machine.specs.declared.requests.Question.TheVariants.{DueList, Agenda, Owed}
use Rattle.ftd_machine.specs.declared.requests.Request.TheVariants.{Question}
use Rattle.ftd_machine.proofs.Deciding.{either}
use Rattle.ftd_machine.proofs.Single.{owed_one}
use Rattle.ftd_machine.proofs.Soundness.{sound_once}
use Rattle.ftd_machine.proofs.Refusing.{Refuses, refuses_none, refuses_needs, refuses_finds}

-- what a question is answered with a reply has passed the checks
told_by : (s : State) (question : Questions) (r : Reply) (after : State)
    → Refuses (question_checks s question) → Step s (Question question) (Ok r) after
    → Tells s question (Ok r)
told_by s question r after refuses step =
    elim (either (first_of (question_checks s question)) s (Ok r) after
    ((after ≡ s) × Tells s question (Ok r)) step) [
      | inl same ↦ absurd (refuses.never r same.0)
      | inr told ↦ told.1.1
    ]

two_days : (a b : Bool) (one other : Refusal)
    → Refuses (needs a one ∷ needs b other ∷ [])
two_days a b one other = refuses_needs a one _ (refuses_needs b other [] refuses_none)

-- ---- the laws

abbrev agenda_facts : ℕ → ℕ → ℕ → List AgendaRow → Facts
agenda_facts from to as_of rows =
    facts.Agenda (record { from = from; to = to; as_of = as_of; rows = rows })

abbrev owed_facts : ℕ → ℕ → List AgendaRow → Facts
owed_facts until as_of rows =
    facts.Owed (record { until = until; as_of = as_of; rows = rows })

abbrev agenda_of : Agendas → Answer
agenda_of x = Ok (reply.Told (facts.Agenda x))

same_agenda : (a b : Agendas) → agenda_of a ≡ agenda_of b → a ≡ b
same_agenda a b e = cc

agenda_is : (from to as_of : ℕ) (rows listed : List AgendaRow)
    → agenda_answer from to as_of rows ≡ agenda_answer from to as_of listed → rows ≡ listed
agenda_is from to as_of rows listed e = ap (λ (x : Agendas). x.rows) (same_agenda _ _ e)

abbrev owed_of : OwedList → Answer
owed_of x = Ok (reply.Told (facts.Owed x))

same_owed : (a b : OwedList) → owed_of a ≡ owed_of b → a ≡ b
same_owed a b e = cc

owed_is : (until as_of : ℕ) (rows listed : List AgendaRow)
    → owed_answer until as_of rows ≡ owed_answer until as_of listed → rows ≡ listed
owed_is until as_of rows listed e = ap (λ (x : OwedList). x.rows) (same_owed _ _ e)

abbrev list_of : Lists → Answer
list_of x = Ok (reply.Told (facts.Due x))

same_list : (a b : Lists) → list_of a ≡ list_of b → a ≡ b
same_list a b e = cc

list_is : (name : List ℕ) (quarter as_of : ℕ) (due listed : List DueRow)
    → due_answer name quarter as_of due ≡ due_answer name quarter as_of listed → due ≡ listed
list_is name quarter as_of due listed e = ap (λ (x : Lists). x.rows) (same_list _ _ e)

pub agenda_cuts : (s after then : State) (from to as_of : ℕ) (rows : List AgendaRow)
    (x : AgendaRow) (account : Account) (due : List DueRow) → IsSound s
    → Step s (Question (Agenda from to as_of)) (agenda_answer from to as_of rows) after
    → (entries_of s x.account).account ≡ Some account
    → Step s (Question (DueList x.account (quarter_of (first_day_of x)) as_of))
    (due_answer x.account (quarter_of (first_day_of x)) as_of due) then
    → Has rows x ↔ IsCutOf (holidays s) from to as_of account due x
agenda_cuts s after then from to as_of rows x account due sound asked enrolled listing =
    let own = entries_of s x.account in
    let quarter = quarter_of (first_day_of x) in
    let g : IsAgenda s (IsDueBetween from to) as_of (agenda_answer from to as_of)
    (agenda_answer from to as_of rows) =
    told_by s (Agenda from to as_of) (reply.Told (agenda_facts from to as_of rows)) after
    (two_days _ _ _ _) asked in
    let d : IsDueList (holidays s) own x.account quarter as_of
    (due_answer x.account quarter as_of due) =
    told_by s (DueList x.account quarter as_of)
    (reply.Told (due_facts x.account quarter as_of due)) then
    (refuses_needs _ _ _
    (refuses_needs _ _ _
    (refuses_needs _ _ _ (refuses_finds _ _ _ (refuses_needs _ _ [] refuses_none))))) listing in
    let rows_are : rows ≡ g.listed = agenda_is from to as_of rows g.listed g.told in
    let due_are : due ≡ d.listed = list_is x.account quarter as_of due d.listed d.told in (
      (λ has.
          (let h = (g.all x).0 (subst (λ xs. Has xs x) rows_are has) in
          let r : IsAgendaRow s as_of x = h.0 in
          let same : r.account ≡ account = same_Some r.account account (sym r.enrolled ∙ enrolled)
          in
          let owed : r.owed ≡ d.rows = owed_one (holidays s) own r.owed d.rows
          (sound_once s sound x.account) r.are_owed d.owed in
          let is_row : IsDueRow (holidays s) own d.rows quarter as_of x.row =
          subst (λ os. IsDueRow (holidays s) own os quarter as_of x.row) owed r.is_row in
          record {
            form_is = subst (λ (a : Account). x.form ≡ a.form) same r.form_is;
            listed = subst (λ xs. Has xs x.row) (sym due_are) ((d.all x.row).1 is_row);
            pay_by = r.pay_by;
            between = h.1;
          })),
      (λ c.
          (let r : IsAgendaRow s as_of x = record {
            account = account;
            enrolled = enrolled;
            form_is = c.form_is;
            owed = d.rows;
            are_owed = d.owed;
            is_row = (d.all x.row).0 (subst (λ xs. Has xs x.row) due_are c.listed);
            pay_by = c.pay_by;
          } in
          subst (λ xs. Has xs x) (sym rows_are) ((g.all x).1 (r, c.between)))),
    )

pub owed_is_left : (s after then : State) (from until as_of : ℕ) (rows owed : List AgendaRow)
    (x : AgendaRow)
    → Step s (Question (Agenda from until as_of)) (agenda_answer from until as_of rows) after
    → Step s (Question (Owed until as_of)) (owed_answer until as_of owed) then
    → (Has owed x × (from ≤ due_date_of x)) ↔ (Has rows x × (0 < left_of x.row))
owed_is_left s after then from until as_of rows owed x asked also =
    let g : IsAgenda s (IsDueBetween from until) as_of (agenda_answer from until as_of)
    (agenda_answer from until as_of rows) =
    told_by s (Agenda from until as_of) (reply.Told (agenda_facts from until as_of rows)) after
    (two_days _ _ _ _) asked in
    let d : IsAgenda s (IsLeftBy until) as_of (owed_answer until as_of)
    (owed_answer until as_of owed) =
    told_by s (Owed until as_of) (reply.Told (owed_facts until as_of owed)) then
    (two_days _ _ _ _) also in
    let rows_are : rows ≡ g.listed = agenda_is from until as_of rows g.listed g.told in
    let owed_are : owed ≡ d.listed = owed_is until as_of owed d.listed d.told in (
      (λ h.
          (let k = (d.all x).0 (subst (λ xs. Has xs x) owed_are h.0) in (
            subst (λ xs. Has xs x) (sym rows_are) ((g.all x).1 (k.0, (h.1, k.1.0))),
            k.1.1,
          ))),
      (λ h.
          (let k = (g.all x).0 (subst (λ xs. Has xs x) rows_are h.0) in (
            subst (λ xs. Has xs x) (sym owed_are) ((d.all x).1 (k.0, (k.1.1, h.1))),
            k.1.0,
          ))),
    )
