-- States in which the same is in force answer each question alike, but what is kept; and the state
-- as if what is in force had been told at first is one of them.
use Rattle.std.proofs.Common.{◌≡◌, ◌∙◌, inl, inr, refl, sym, ap, subst, ℕ, false}
use Rattle.std.proofs.Common.{List, [], ◌∷◌, ◌++◌, map, filter, Some}
use Rattle.std.specs.Prelude.{◌↔◌, option_map, find}
use Rattle.std.proofs.lemmas.Bool.{cases_Bool, eqb-true}
use Rattle.std.proofs.lemmas.List.Elements.{filter-append}
use Rattle.ftd_days.specs.Calendar.{year_of, quarter_of, quarter_year}
use Rattle.ftd_days.specs.Holidays.{YearDays, holidays_of}
use Rattle.ftd_days.specs.declared.cents.Cents.{Cents}
use Rattle.ftd_days.proofs.Spelling.{same_text}
use Rattle.ftd_machine.specs.State.{State, Enrolled, Entry, Entries, Move, DayChange, entries_of}
use Rattle.ftd_machine.specs.State.{holidays, is_named, is_of, has_key, account_of, in_force}
use Rattle.ftd_machine.specs.State.{moves_of, all_at, latest, is_open, is_in_force, figure_at}
use Rattle.ftd_machine.specs.History.{AreOwed, figures}
use Rattle.ftd_machine.specs.Agenda.{IsAgenda, IsAgendaRow, IsDueBetween, IsLeftBy, IsPayBy}
use Rattle.ftd_machine.specs.Agenda.{first_day_of}
use Rattle.ftd_machine.specs.Asking.{IsDueList, IsDueRow, IsScheduleB, IsStatus}
use Rattle.ftd_machine.specs.Checks.{Answer, first_of}
use Rattle.ftd_machine.specs.Explaining.{IsExplanation}
use Rattle.ftd_machine.specs.Questions.{Tells, question_checks}
use Rattle.ftd_machine.specs.Requests.{status_checks, due_list_checks, schedule_b_checks}
use Rattle.ftd_machine.specs.Step.{Step}
use Rattle.ftd_machine.specs.Told.{agenda_answer, owed_answer}
use Rattle.ftd_machine.specs.Unapplied.{IsUnapplied, IsUnappliedOf, IsUnappliedRow}
use Rattle.ftd_machine.specs.declared.lists.AgendaRow.{AgendaRow}
use Rattle.ftd_machine.specs.declared.lists.UnappliedRow.{UnappliedRow}
use Rattle.ftd_machine.specs.declared.requests.Question.{Question}
use Rattle.ftd_machine.specs.declared.requests.Question.TheVariants.{Status, Explain, DueList}
use Rattle.ftd_machine.specs.declared.requests.Question.TheVariants.{ScheduleB, Agenda, Owed, Kept}
use Rattle.ftd_machine.specs.declared.requests.Question.TheVariants.{Unapplied}
use Rattle.ftd_machine.specs.declared.requests.Request.TheVariants as request
use Rattle.ftd_machine.proofs.Deciding.{either, decided, passed}
use Rattle.ftd_machine.proofs.Found.{filter_all}
use Rattle.ftd_cases.specs.ToldRight.{enrolled_right, reported_right, given_right, told_right}
use Rattle.ftd_cases.specs.ToldRight.{asks_what_is_kept}
use Rattle.ftd_cases.proofs.SameFigures.{with_figures, HaveSameFigures, figures_back, owed_to}
use Rattle.ftd_cases.proofs.SameFigures.{status_to, unapplied_to, due_row_to, due_list_to}
use Rattle.ftd_cases.proofs.SameFigures.{schedule_to, explanation_to}

-- ---- states in which the same is in force

-- the same figures of each account, the same account, open years, runs and payments, and the same
-- holidays
pub record HaveSameInForce (s t : State) : Type 0 where
  pub figures : (name : List ℕ) → HaveSameFigures (entries_of s name) (entries_of t name)
  pub rest : (name : List ℕ)
      → with_figures (entries_of s name) (entries_of t name) ≡ entries_of t name
  pub days : holidays t ≡ holidays s

in_force_back : (s t : State) → HaveSameInForce s t → HaveSameInForce t s
in_force_back s t same = record {
  figures = λ name. subst (λ own. HaveSameFigures own (entries_of s name)) (same.rest name)
      (figures_back (entries_of s name) (entries_of t name) (same.figures name));
  rest = λ name. ap (λ own. with_figures own (entries_of s name)) (sym (same.rest name));
  days = sym same.days;
}

module _ (s t : State) (same : HaveSameInForce s t) where
  -- what is so of the account with these figures is so of the account
  pub is_so : (P : Entries → Type 0) (name : List ℕ)
      → P (with_figures (entries_of s name) (entries_of t name)) → P (entries_of t name)
  is_so P name x = subst P (same.rest name) x

  -- and with these holidays
  on_days : (P : List ℕ → Type 0) → P (holidays s) → P (holidays t)
  on_days P x = subst P (sym same.days) x

  pub account_same : (name : List ℕ) → (entries_of t name).account ≡ (entries_of s name).account
  account_same name = ap (λ (own : Entries). own.account) (sym (same.rest name))

  owed_same : (name : List ℕ) (rows : _) → AreOwed (holidays s) (entries_of s name) rows
      → AreOwed (holidays t) (entries_of t name) rows
  owed_same name rows x =
      on_days (λ days. AreOwed days (entries_of t name) rows)
      (is_so (λ own. AreOwed (holidays s) own rows) name
      (owed_to (entries_of s name) (entries_of t name) (same.figures name) (holidays s) rows x))

  agenda_row_to : (as_of : ℕ) (x : AgendaRow) → IsAgendaRow s as_of x → IsAgendaRow t as_of x
  agenda_row_to as_of x row =
      let name = x.account in
      let quarter = quarter_of (first_day_of x) in
      record {
        account = row.account;
        enrolled = account_same name ∙ row.enrolled;
        form_is = row.form_is;
        owed = row.owed;
        are_owed = owed_same name row.owed row.are_owed;
        is_row = on_days (λ days. IsDueRow days (entries_of t name) row.owed quarter as_of x.row)
            (is_so (λ own. IsDueRow (holidays s) own row.owed quarter as_of x.row) name
            (due_row_to (holidays s) (entries_of s name) (entries_of t name) (same.figures name)
            row.owed quarter as_of x.row row.is_row));
        pay_by = on_days (λ days. IsPayBy days as_of x) row.pay_by;
      }

  unapplied_row_to : (x : UnappliedRow) → IsUnappliedRow s x → IsUnappliedRow t x
  unapplied_row_to x row =
      let name = x.account in
      record {
        account = row.account;
        enrolled = account_same name ∙ row.enrolled;
        owed = row.owed;
        are_owed = owed_same name row.owed row.are_owed;
        is_row = is_so (λ own. IsUnappliedOf own row.owed x.payment x) name
            (unapplied_to (entries_of s name) (entries_of t name) (same.figures name) row.owed
            x.payment x row.is_row);
      }

-- ---- what is told

module _ (s t : State) (same : HaveSameInForce s t) where
  agenda_to : (IsAsked : AgendaRow → Type 0) (as_of : ℕ) (as_answer : List AgendaRow → Answer)
      (answer : Answer)
      → IsAgenda s IsAsked as_of as_answer answer → IsAgenda t IsAsked as_of as_answer answer
  agenda_to IsAsked as_of as_answer answer x = record {
    listed = x.listed;
    in_order = x.in_order;
    all = λ row. (
      (λ has. (let is = (x.all row).0 has in (agenda_row_to s t same as_of row is.0, is.1))),
      (λ is. (x.all row).1 (agenda_row_to t s (in_force_back s t same) as_of row is.0, is.1)),
    );
    told = x.told;
  }

  unapplied_told_to : (until : ℕ) (answer : Answer) → IsUnapplied s until answer
      → IsUnapplied t until answer
  unapplied_told_to until answer x = record {
    listed = x.listed;
    in_order = x.in_order;
    all = λ row. (
      (λ has. (let is = (x.all row).0 has in (unapplied_row_to s t same row is.0, is.1))),
      (λ is. (x.all row).1 (unapplied_row_to t s (in_force_back s t same) row is.0, is.1)),
    );
    told = x.told;
  }

  tells_to : (question : Question) (answer : Answer) → asks_what_is_kept question ≡ false
      → Tells s question answer → Tells t question answer
  tells_to (Status name day) answer other x =
      is_so s t same (λ own. IsStatus own day answer) name
      (status_to (entries_of s name) (entries_of t name) (same.figures name) day answer x)
  tells_to (Explain name day) answer other x =
      on_days s t same (λ days. IsExplanation days (entries_of t name) name day answer)
      (is_so s t same (λ own. IsExplanation (holidays s) own name day answer) name
      (explanation_to (holidays s) (entries_of s name) (entries_of t name) (same.figures name) name
      day answer x))
  tells_to (DueList name quarter as_of) answer other x =
      on_days s t same (λ days. IsDueList days (entries_of t name) name quarter as_of answer)
      (is_so s t same (λ own. IsDueList (holidays s) own name quarter as_of answer) name
      (due_list_to (holidays s) (entries_of s name) (entries_of t name) (same.figures name) name
      quarter as_of answer x))
  tells_to (ScheduleB name quarter) answer other x =
      is_so s t same (λ own. IsScheduleB own name quarter answer) name
      (schedule_to (holidays s) (entries_of s name) (entries_of t name) (same.figures name) name
      quarter answer x)
  tells_to (Agenda from to as_of) answer other x =
      agenda_to (IsDueBetween from to) as_of (agenda_answer from to as_of) answer x
  tells_to (Owed until as_of) answer other x =
      agenda_to (IsLeftBy until) as_of (owed_answer until as_of) answer x
  tells_to (Unapplied until) answer other x = unapplied_told_to until answer x
  tells_to (Kept kept) answer other x = absurd cc

  -- the checks are the same
  checks_same : (question : Question) → asks_what_is_kept question ≡ false
      → question_checks t question ≡ question_checks s question
  checks_same (Status name day) other =
      ap (λ (own : Entries). status_checks name day own.account (is_open own (year_of day)))
      (sym (same.rest name))
  checks_same (Explain name day) other =
      ap (λ (own : Entries). status_checks name day own.account (is_open own (year_of day)))
      (sym (same.rest name))
  checks_same (DueList name quarter as_of) other =
      ap
      (λ (own : Entries).
      due_list_checks name quarter as_of own.account (is_open own (quarter_year quarter)))
      (sym (same.rest name))
  checks_same (ScheduleB name quarter) other =
      ap
      (λ (own : Entries).
      schedule_b_checks name quarter own.account (is_open own (quarter_year quarter)))
      (sym (same.rest name))
  checks_same (Agenda from to as_of) other = refl
  checks_same (Owed until as_of) other = refl
  checks_same (Unapplied until) other = refl
  checks_same (Kept kept) other = absurd cc

  answer_to : (question : Question) (answer : Answer) → asks_what_is_kept question ≡ false
      → Step s (request.Question question) answer s → Step t (request.Question question) answer t
  answer_to question answer other step =
      let checks : first_of (question_checks t question) ≡ first_of (question_checks s question) =
      ap first_of (checks_same question other) in
      elim (either (first_of (question_checks s question)) s answer s
      ((s ≡ s) × Tells s question answer) step) [
        | inl check ↦ decided (first_of (question_checks t question)) t answer
            ((t ≡ t) × Tells t question answer) (checks ∙ check.0)
        | inr told ↦ passed (first_of (question_checks t question)) t answer t
            ((t ≡ t) × Tells t question answer) (checks ∙ told.0)
            (refl, tells_to question answer other told.1.1)
      ]

-- ---- what was told right at first: the totals

-- as it is in force by the corrections of its own account
abbrev right_by : List (Entry Cents) → Entry Cents → Entry Cents
right_by corrected e =
    record { name = e.name; key = e.key; content = latest e.content (all_at e.key corrected) }

-- those of an account, told right, are those told right by the corrections of the account
own_right : (corrected : List (Entry Cents)) (name : List ℕ) (es : List (Entry Cents))
    → filter (is_of name) (map (reported_right corrected) es)
    ≡ map (right_by (filter (is_of name) corrected)) (filter (is_of name) es)
own_right corrected name [] = refl
own_right corrected name (e ∷ es) =
    let rest = own_right corrected name es in
    elim (cases_Bool (is_of name e)) [
      | inr other ↦ rw other rest
      | inl own ↦
          let here : reported_right corrected e ≡ right_by (filter (is_of name) corrected) e =
          ap (λ n. right_by (filter (is_of n) corrected) e) (same_text e.name name own) in
          rw own (λ i. here i ∷ rest i)
    ]

figures_right : (corrected es : List (Entry Cents))
    → figures (map (right_by corrected) es) [] ≡ figures es corrected
figures_right corrected [] = refl
figures_right corrected (e ∷ es) =
    ap (λ fs. (e.key, latest e.content (all_at e.key corrected)) ∷ fs) (figures_right corrected es)

figure_right : (quarter : ℕ) (corrected es : List (Entry Cents))
    → figure_at quarter (map (right_by corrected) es) [] ≡ figure_at quarter es corrected
figure_right quarter corrected [] = refl
figure_right quarter corrected (e ∷ es) = elim (cases_Bool (has_key quarter e)) [
  | inr other ↦ rw other (figure_right quarter corrected es)
  | inl here ↦ rw here
      (ap (λ k. Some (latest e.content (all_at k corrected))) (eqb-true e.key quarter here))
]

-- ---- the accounts

account_right : (moved : List Move) (name : List ℕ) (es : List Enrolled)
    → option_map (in_force []) (option_map account_of
    (find (is_named name) (map (enrolled_right moved) es)))
    ≡ option_map (in_force (moves_of name moved))
    (option_map account_of (find (is_named name) es))
account_right moved name [] = refl
account_right moved name (e ∷ es) = elim (cases_Bool (is_named name e)) [
  | inr other ↦ rw other (account_right moved name es)
  | inl here ↦ rw here
      (ap (λ n. Some (in_force (moves_of n moved) e.account)) (same_text e.name name here))
]

-- ---- the holidays

pub given_days_right : (changes : List DayChange) (given : List YearDays)
    → holidays_of (map (given_right changes) given)
    ≡ filter (is_in_force changes) (holidays_of given)
given_days_right changes [] = refl
given_days_right changes (g ∷ given) =
    ap (λ days. filter (is_in_force changes) g.days ++ days) (given_days_right changes given)
    ∙ sym (filter-append (is_in_force changes) g.days (holidays_of given))

holidays_right : (s : State) → holidays (told_right s) ≡ holidays s
holidays_right s =
    let test = is_in_force s.changed_days in
    filter_all (is_in_force []) (holidays_of (map (given_right s.changed_days) s.calendars)
    ++ filter test s.added_days) (λ day has. refl)
    ∙ ap (λ days. days ++ filter test s.added_days) (given_days_right s.changed_days s.calendars)
    ∙ sym (filter-append test (holidays_of s.calendars) s.added_days)

-- ---- so the same is in force

pub right_in_force : (s : State) → HaveSameInForce s (told_right s)
right_in_force s = record {
  figures = λ name.
      (let own = entries_of s name in
      record {
        quarters = ap (λ es. figures es []) (own_right s.corrected name s.reported)
            ∙ figures_right own.corrected own.reported;
        years = ap (λ es. figures es []) (own_right s.corrected_years name s.reported_years)
            ∙ figures_right own.corrected_years own.reported_years;
        at = λ quarter.
            ap (λ es. figure_at quarter es []) (own_right s.corrected name s.reported)
            ∙ figure_right quarter own.corrected own.reported;
      });
  rest = λ name.
      (let account = sym (account_right s.moved name s.accounts) in
      λ i. record (entries_of (told_right s) name) { account = account i });
  days = holidays_right s;
}

pub answers_right : (s : State) (question : Question) (answer : Answer)
    → asks_what_is_kept question ≡ false
    → Step s (request.Question question) answer s
    ↔ Step (told_right s) (request.Question question) answer (told_right s)
answers_right s question answer other =
    let same = right_in_force s in (
      answer_to s (told_right s) same question answer other,
      answer_to (told_right s) s (in_force_back s (told_right s) same) question answer other,
    )
