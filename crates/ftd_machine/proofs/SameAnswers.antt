-- What each question's answers have in common, one clause a question: states that agree on an
-- account tell the same of it; one thing is told; and something is told where the checks pass.
use Rattle.std.proofs.Common.{◌≡◌, ◌∙◌, refl, sym, ap, subst, ℕ, Bool, true, List, [], Option}
use Rattle.std.proofs.Common.{None, Some}
use Rattle.std.specs.Prelude.{unwrap_or}
use Rattle.ftd_days.specs.Calendar.{year_of, quarter_year}
use Rattle.ftd_rules.specs.Accounts.{is_account_name}
use Rattle.ftd_rules.specs.declared.YearLine.{YearLine}
use Rattle.ftd_machine.specs.declared.entries.Account.{Account}
use Rattle.ftd_machine.specs.State.{State, Entries, entries_of, holidays, is_open}
use Rattle.ftd_machine.specs.History.{AreLinesOf}
use Rattle.ftd_machine.specs.Limits.{can_be_opened}
use Rattle.ftd_machine.specs.Checks.{Answer, first_of}
use Rattle.ftd_machine.specs.Requests.{status_checks, due_list_checks, schedule_b_checks}
use Rattle.ftd_machine.specs.Requests.{kept_of_checks, kept_in_quarter_checks}
use Rattle.ftd_machine.specs.Asking.{IsStatus, IsDueList, IsScheduleB}
use Rattle.ftd_machine.specs.Agenda.{IsDueBetween, IsLeftBy, ComesBefore, IsAgenda}
use Rattle.ftd_machine.specs.Explaining.{IsExplanation}
use Rattle.ftd_machine.specs.Kept.{kept_checks, TellsKept, account_kept, AreYears, AreTotals}
use Rattle.ftd_machine.specs.Kept.{AreRuns, ArePayments}
use Rattle.ftd_machine.specs.Questions.{question_checks, Tells, AsksOf}
use Rattle.ftd_machine.specs.Laws.{AgreeOn}
use Rattle.ftd_machine.specs.declared.lists.AgendaRow.{AgendaRow}
use Rattle.ftd_machine.specs.Told.{agenda_answer, owed_answer}
use Rattle.ftd_machine.specs.declared.replies.Refusal.TheVariants.{BadName, BadDay}
use Rattle.ftd_machine.specs.declared.replies.Refusal.TheVariants.{UnknownAccount, YearNotOpen}
use Rattle.ftd_machine.specs.declared.requests.Question.{Question}
use Rattle.ftd_machine.specs.declared.requests.Question.TheVariants.{Status, Explain, DueList}
use Rattle.ftd_machine.specs.declared.requests.Question.TheVariants.{ScheduleB, Agenda, Owed, Kept}
use Rattle.ftd_machine.specs.declared.requests.Question.TheVariants.{Unapplied}
use Rattle.ftd_machine.specs.declared.requests.KeptList.{KeptList}
use Rattle.ftd_machine.specs.declared.requests.KeptList.TheVariants.{Accounts, Years, Reported}
use Rattle.ftd_machine.specs.declared.requests.KeptList.TheVariants.{Holidays, Runs, Payments}
use Rattle.ftd_machine.proofs.Heads.{gives_needs, skip_needs, skip_finds}
use Rattle.ftd_machine.proofs.Single.{IsOnce, status_one, due_list_one, schedule_one}
use Rattle.ftd_machine.proofs.Ordered.{ordered_one}
use Rattle.ftd_machine.proofs.AgendaOrder.{not_both}
use Rattle.ftd_machine.proofs.KeptOne.{kept_one}
use Rattle.ftd_machine.proofs.ToldSome.{status_some, schedule_some}
use Rattle.ftd_machine.proofs.DueSome.{due_list_some}
use Rattle.ftd_machine.proofs.KeptSome.{kept_told}
use Rattle.ftd_machine.proofs.ExplainOne.{explanation_one}
use Rattle.ftd_machine.proofs.ExplainSome.{explanation_some}
use Rattle.ftd_machine.proofs.AgendaSome.{agenda_some, between_or, left_or}
use Rattle.ftd_machine.proofs.UnappliedSome.{unapplied_one, unapplied_some}

-- ---- states that agree on an account

pub same_holidays : (name : List ℕ) (s t : State) → AgreeOn name s t → holidays t ≡ holidays s
same_holidays name s t agree = rw (agree.calendars, agree.added_days, agree.changed_days) refl

-- they agree on the account that is named
agree_on : (own name : List ℕ) (s t : State) → Some own ≡ Some name → AgreeOn name s t
    → AgreeOn own s t
agree_on own name s t named agree =
    subst (λ x. AgreeOn x s t) (sym (ap (λ o. unwrap_or o own) named)) agree

same_kept_checks : (s t : State) (kept : KeptList) (name : List ℕ) → account_kept kept ≡ Some name
    → AgreeOn name s t → first_of (kept_checks t kept) ≡ first_of (kept_checks s kept)
same_kept_checks s t Accounts name named agree = absurd cc
same_kept_checks s t (Years own) name named agree =
    let agrees : AgreeOn own s t = agree_on own name s t named agree in
    ap (λ (e : Entries). first_of (kept_of_checks own e.account)) agrees.own
same_kept_checks s t (Reported own) name named agree =
    let agrees : AgreeOn own s t = agree_on own name s t named agree in
    ap (λ (e : Entries). first_of (kept_of_checks own e.account)) agrees.own
same_kept_checks s t (Holidays year) name named agree = absurd cc
same_kept_checks s t (Runs own quarter) name named agree =
    let agrees : AgreeOn own s t = agree_on own name s t named agree in
    ap (λ (e : Entries). first_of (kept_in_quarter_checks own quarter e.account)) agrees.own
same_kept_checks s t (Payments own quarter) name named agree =
    let agrees : AgreeOn own s t = agree_on own name s t named agree in
    ap (λ (e : Entries). first_of (kept_in_quarter_checks own quarter e.account)) agrees.own

same_kept : (s t : State) (kept : KeptList) (name : List ℕ) → account_kept kept ≡ Some name
    → AgreeOn name s t → (answer : Answer) → TellsKept s kept answer → TellsKept t kept answer
same_kept s t Accounts name named agree answer told = absurd cc
same_kept s t (Years own) name named agree answer told =
    let agrees : AgreeOn own s t = agree_on own name s t named agree in
    subst (λ e. AreYears e own answer) (sym agrees.own) told
same_kept s t (Reported own) name named agree answer told =
    let agrees : AgreeOn own s t = agree_on own name s t named agree in
    subst (λ e. AreTotals e own answer) (sym agrees.own) told
same_kept s t (Holidays year) name named agree answer told = absurd cc
same_kept s t (Runs own quarter) name named agree answer told =
    let agrees : AgreeOn own s t = agree_on own name s t named agree in
    subst (λ e. AreRuns e own quarter answer) (sym agrees.own) told
same_kept s t (Payments own quarter) name named agree answer told =
    let agrees : AgreeOn own s t = agree_on own name s t named agree in
    subst (λ h. ArePayments h (entries_of t own) own quarter answer)
    (sym (same_holidays own s t agrees))
    (subst (λ e. ArePayments (holidays s) e own quarter answer) (sym agrees.own) told)

-- the checks of a question that names an account answer the same
pub same_checks : (s t : State) (question : Question) (name : List ℕ) → AsksOf question name
    → AgreeOn name s t
    → first_of (question_checks t question) ≡ first_of (question_checks s question)
same_checks s t (Status own day) name named agree =
    let agrees : AgreeOn own s t = agree_on own name s t named agree in
    ap (λ (e : Entries). first_of (status_checks own day e.account (is_open e (year_of day))))
    agrees.own
same_checks s t (Explain own day) name named agree =
    let agrees : AgreeOn own s t = agree_on own name s t named agree in
    ap (λ (e : Entries). first_of (status_checks own day e.account (is_open e (year_of day))))
    agrees.own
same_checks s t (DueList own quarter as_of) name named agree =
    let agrees : AgreeOn own s t = agree_on own name s t named agree in
    ap (λ (e : Entries). first_of (due_list_checks own quarter as_of e.account
    (is_open e (quarter_year quarter)))) agrees.own
same_checks s t (ScheduleB own quarter) name named agree =
    let agrees : AgreeOn own s t = agree_on own name s t named agree in
    ap (λ (e : Entries). first_of (schedule_b_checks own quarter e.account
    (is_open e (quarter_year quarter)))) agrees.own
same_checks s t (Agenda from to as_of) name named agree = absurd cc
same_checks s t (Owed until as_of) name named agree = absurd cc
same_checks s t (Unapplied until) name named agree = absurd cc
same_checks s t (Kept kept) name named agree = same_kept_checks s t kept name named agree

-- and the same is told
pub same_told : (s t : State) (question : Question) (name : List ℕ) → AsksOf question name
    → AgreeOn name s t → (answer : Answer) → Tells s question answer → Tells t question answer
same_told s t (Status own day) name named agree answer told =
    let agrees : AgreeOn own s t = agree_on own name s t named agree in
    subst (λ e. IsStatus e day answer) (sym agrees.own) told
same_told s t (Explain own day) name named agree answer told =
    let agrees : AgreeOn own s t = agree_on own name s t named agree in
    subst (λ h. IsExplanation h (entries_of t own) own day answer) (sym (same_holidays own s t agrees))
    (subst (λ e. IsExplanation (holidays s) e own day answer) (sym agrees.own) told)
same_told s t (DueList own quarter as_of) name named agree answer told =
    let agrees : AgreeOn own s t = agree_on own name s t named agree in
    subst (λ h. IsDueList h (entries_of t own) own quarter as_of answer)
    (sym (same_holidays own s t agrees))
    (subst (λ e. IsDueList (holidays s) e own quarter as_of answer) (sym agrees.own) told)
same_told s t (ScheduleB own quarter) name named agree answer told =
    let agrees : AgreeOn own s t = agree_on own name s t named agree in
    subst (λ e. IsScheduleB e own quarter answer) (sym agrees.own) told
same_told s t (Agenda from to as_of) name named agree answer told = absurd cc
same_told s t (Owed until as_of) name named agree answer told = absurd cc
same_told s t (Unapplied until) name named agree answer told = absurd cc
same_told s t (Kept kept) name named agree answer told =
    same_kept s t kept name named agree answer told

-- ---- one thing is told

agenda_one : (s : State) (IsAsked : AgendaRow → Type 0) (as_of : ℕ)
    (as_answer : List AgendaRow → Answer) (a b : Answer)
    → IsAgenda s IsAsked as_of as_answer a → IsAgenda s IsAsked as_of as_answer b → a ≡ b
agenda_one s IsAsked as_of as_answer a b g h =
    let listed : g.listed ≡ h.listed = ordered_one ComesBefore not_both g.listed h.listed g.in_order
    h.in_order
    (λ x has. (h.all x).1 ((g.all x).0 has)) (λ x has. (g.all x).1 ((h.all x).0 has)) in
    g.told ∙ ap as_answer listed ∙ sym h.told

pub tells_one : (s : State) (question : Question) (a b : Answer)
    → ((name : List ℕ) → IsOnce (entries_of s name))
    → Tells s question a → Tells s question b → a ≡ b
tells_one s (Status name day) a b once g h =
    status_one (entries_of s name) day a b (once name) g h
tells_one s (Explain name day) a b once g h =
    explanation_one (holidays s) (entries_of s name) name day a b (once name) g h
tells_one s (DueList name quarter as_of) a b once g h =
    due_list_one (holidays s) (entries_of s name) name quarter as_of a b (once name) g h
tells_one s (ScheduleB name quarter) a b once g h =
    schedule_one (entries_of s name) name quarter a b g h
tells_one s (Agenda from to as_of) a b once g h =
    agenda_one s (IsDueBetween from to) as_of (agenda_answer from to as_of) a b g h
tells_one s (Owed until as_of) a b once g h =
    agenda_one s (IsLeftBy until) as_of (owed_answer until as_of) a b g h
tells_one s (Unapplied until) a b once g h = unapplied_one s until a b g h
tells_one s (Kept kept) a b once g h = kept_one s kept a b once g h

-- ---- something is told, where each account has lines and the checks pass

open_of_status : (name : List ℕ) (day : ℕ) (account : Option Account) (there : Bool)
    → first_of (status_checks name day account there) ≡ None → there ≡ true
open_of_status name day account there e =
    (skip_needs (is_account_name name) BadName _ _
    (skip_needs (can_be_opened (year_of day)) BadDay _ _
    (skip_finds account UnknownAccount _ _
    (gives_needs there (YearNotOpen (year_of day)) [])))).fact e

pub tells_some : (s : State) (question : Question)
    → ((name : List ℕ) → IsOnce (entries_of s name))
    → ((name : List ℕ) → (lines : List YearLine) × AreLinesOf (entries_of s name) lines)
    → first_of (question_checks s question) ≡ None
    → (answer : Answer) × Tells s question answer
tells_some s (Status name day) once lines e =
    let own = entries_of s name in
    status_some own (lines name).0 day (lines name).1
    (open_of_status name day own.account (is_open own (year_of day)) e)
tells_some s (Explain name day) once lines e =
    explanation_some (holidays s) (entries_of s name) (lines name).0 (lines name).1 name day
tells_some s (DueList name quarter as_of) once lines e =
    due_list_some (holidays s) (entries_of s name) name (lines name).0 quarter as_of (lines name).1
tells_some s (ScheduleB name quarter) once lines e =
    schedule_some (entries_of s name) name quarter
tells_some s (Agenda from to as_of) once lines e =
    agenda_some s as_of once lines (IsDueBetween from to) (agenda_answer from to as_of)
    (between_or from to)
tells_some s (Owed until as_of) once lines e =
    agenda_some s as_of once lines (IsLeftBy until) (owed_answer until as_of) (left_or until)
tells_some s (Unapplied until) once lines e = unapplied_some s once lines until
tells_some s (Kept kept) once lines e = kept_told s kept lines e
