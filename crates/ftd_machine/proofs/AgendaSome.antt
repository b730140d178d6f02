-- What is due over all accounts can be listed, wherever each account has lines.
use Rattle.std.proofs.Common.{◌≡◌, ◌∙◌, inl, inr, refl, sym, ap, subst, ℕ, List, [], ◌∷◌}
use Rattle.std.proofs.Common.{◌++◌, Option, None, Some}
use Rattle.std.specs.Prelude.{◌↔◌}
use Rattle.std.proofs.lemmas.Bool.{cases_lt}
use Rattle.ftd_days.specs.Calendar.{quarter_of}
use Rattle.ftd_days.proofs.Business.{some_business}
use Rattle.ftd_days.proofs.Spelling.{same_text}
use Rattle.ftd_rules.specs.declared.Form.{Form}
use Rattle.ftd_rules.specs.declared.Obligation.{Obligation}
use Rattle.ftd_rules.specs.declared.YearLine.{YearLine}
use Rattle.ftd_rules.specs.declared.verdict.DueRow.{DueRow}
use Rattle.ftd_rules.specs.declared.verdict.Verdict.{Verdict}
use Rattle.ftd_rules.specs.declared.verdict.Verdict.TheVariants.{Met, WithReturn, Open, MadeUp}
use Rattle.ftd_rules.specs.declared.verdict.Verdict.TheVariants.{Short, Late}
use Rattle.ftd_rules.specs.Lists.{Has}
use Rattle.ftd_rules.specs.Returns.{month_after_ends}
use Rattle.ftd_rules.proofs.Owed.{has_append, has_left, has_right}
use Rattle.ftd_machine.specs.State.{State, Enrolled, entries_of, holidays, is_named, account_of}
use Rattle.ftd_machine.specs.History.{AreLinesOf, AreOwed}
use Rattle.ftd_machine.specs.Asking.{IsDueRow}
use Rattle.ftd_machine.specs.Checks.{Answer}
use Rattle.ftd_machine.specs.Agenda.{due_date_of, left_of, return_last_of, IsDayFor, IsAgendaRow}
use Rattle.ftd_machine.specs.Agenda.{ComesBefore}
use Rattle.ftd_machine.specs.Agenda.{IsDueBetween, IsLeftBy, IsAgenda}
use Rattle.ftd_machine.specs.declared.entries.Account.{Account}
use Rattle.ftd_machine.specs.declared.lists.AgendaRow.{AgendaRow}
use Rattle.ftd_machine.proofs.Members.{enrolled_of, found_some}
use Rattle.ftd_machine.proofs.Single.{IsOnce, owed_one}
use Rattle.ftd_machine.proofs.Lined.{owed_some}
use Rattle.ftd_machine.proofs.DueSome.{Or, both_or, le_or, row_some}
use Rattle.ftd_machine.proofs.Ordered.{ordered_some}
use Rattle.ftd_machine.proofs.Choosing.{chosen}
use Rattle.ftd_machine.proofs.AgendaOrder.{agenda_row_one, comes_then, rows_total}

-- the day by which to pay
day_some : (form : Form) (hs : List ℕ) (as_of : ℕ) (row : DueRow) (verdict : Verdict)
    → (day : ℕ) × IsDayFor form hs as_of row verdict day
day_some form hs as_of row Met = (row.obligation.due, refl)
day_some form hs as_of row WithReturn =
    elim (cases_lt (return_last_of form row) as_of) [
      | inl over ↦
          let due = some_business hs (month_after_ends form (quarter_of row.obligation.first)) in
          (due.0, inl (over, due.1))
      | inr runs ↦ (row.obligation.due, inr (runs, refl))
    ]
day_some form hs as_of row Open = (row.obligation.due, refl)
day_some form hs as_of row MadeUp = (row.obligation.due, refl)
day_some form hs as_of row Short = (row.makeup, refl)
day_some form hs as_of row Late = (row.obligation.due, refl)

module _ (s : State) (as_of : ℕ) (once : (name : List ℕ) → IsOnce (entries_of s name))
    (lines : (name : List ℕ) → (lines : List YearLine) × AreLinesOf (entries_of s name) lines) where
  -- the rows of some obligations of an account
  rows_of : (name : List ℕ) (account : Account) → (entries_of s name).account ≡ Some account
      → (owed : List Obligation) → AreOwed (holidays s) (entries_of s name) owed
      → (some : List Obligation) → ((o : Obligation) → Has some o → Has owed o)
      → (xs : List AgendaRow) × ((x : AgendaRow) → Has xs x
      ↔ ((x.account ≡ name) × Has some x.row.obligation × IsAgendaRow s as_of x))
  rows_of name account enrolled owed are_owed [] sub =
      ([], λ x. ((λ has. absurd has), (λ h. absurd h.1)))
  rows_of name account enrolled owed are_owed (o ∷ some) sub =
      let rest = rows_of name account enrolled owed are_owed some (λ p has. sub p (inr has)) in
      let row = row_some (holidays s) (entries_of s name) owed (quarter_of o.first) as_of o
      (sub o (inl refl)) refl in
      let day = day_some account.form (holidays s) as_of row.0 row.0.verdict in
      let z : AgendaRow =
      record { account = name; form = account.form; row = row.0; pay_by = day.0 } in
      let is : IsAgendaRow s as_of z = record {
        account = account;
        enrolled = enrolled;
        form_is = refl;
        owed = owed;
        are_owed = are_owed;
        is_row = subst (λ (p : Obligation). IsDueRow (holidays s) (entries_of s name) owed
            (quarter_of p.first) as_of row.0) (sym row.1) row.2;
        pay_by = day.1;
      } in (
        z ∷ rest.0,
        λ x. (
          (λ has. elim has [
            | inl same ↦ (
              ap (λ (r : AgendaRow). r.account) same,
              inl (ap (λ (r : AgendaRow). r.row.obligation) same ∙ row.1),
              subst (IsAgendaRow s as_of) (sym same) is,
            )
            | inr more ↦ (let h = (rest.1 x).0 more in (h.0, inr h.1, h.2))
          ]),
          (λ h. elim h.1 [
            | inl same ↦ inl (agenda_row_one s as_of once x z h.0
                (ap (λ (p : Obligation). p.first) (same ∙ sym row.1)) h.2 is)
            | inr more ↦ inr ((rest.1 x).1 (h.0, more, h.2))
          ]),
        ),
      )

  -- the rows of an account
  rows_if : (name : List ℕ) (o : Option Account) → (entries_of s name).account ≡ o
      → (xs : List AgendaRow) × ((x : AgendaRow) → Has xs x
      ↔ ((x.account ≡ name) × IsAgendaRow s as_of x))
  rows_if name None e = (
    [],
    λ x. (
      (λ has. absurd has),
      (λ h. absurd (let some : (entries_of s name).account ≡ Some h.1.account =
          subst (λ n. (entries_of s n).account ≡ Some h.1.account) h.0 h.1.enrolled in
          never h.1.account (sym e ∙ some))),
    ),
  )
    where
      never : (a : Account) → None ≡ Some a → ⊥
      never a e = absurd cc
  rows_if name (Some account) e =
      let owed = owed_some (holidays s) (entries_of s name) (lines name).0 (lines name).1 in
      let rows = rows_of name account e owed.0 owed.1 owed.0 (λ o has. has) in (
        rows.0,
        λ x. (
          (λ has. (let h = (rows.1 x).0 has in (h.0, h.2))),
          (λ h. (let same : h.1.owed ≡ owed.0 =
              owed_one (holidays s) (entries_of s name) h.1.owed owed.0 (once name)
              (subst (λ n. AreOwed (holidays s) (entries_of s n) h.1.owed) h.0 h.1.are_owed)
              owed.1 in
              (rows.1 x).1 (h.0, subst (λ os. Has os x.row.obligation) same h.1.is_row.owed, h.1))),
        ),
      )

  -- the rows of some accounts
  all_rows : (accounts : List Enrolled)
      → (xs : List AgendaRow) × ((x : AgendaRow) → Has xs x
      ↔ (((e : Enrolled) × Has accounts e × (x.account ≡ e.name)) × IsAgendaRow s as_of x))
  all_rows [] = ([], λ x. ((λ has. absurd has), (λ h. absurd h.0.1)))
  all_rows (e ∷ accounts) =
      let own = rows_if e.name (entries_of s e.name).account refl in
      let rest = all_rows accounts in (
        own.0 ++ rest.0,
        λ x. (
          (λ has. elim (has_append own.0 rest.0 x has) [
            | inl here ↦ (let h = (own.1 x).0 here in ((e, inl refl, h.0), h.1))
            | inr there ↦
                (let h = (rest.1 x).0 there in ((h.0.0, inr h.0.1, h.0.2), h.1))
          ]),
          (λ h. elim h.0.1 [
            | inl is ↦ has_left own.0 rest.0 x ((own.1 x).1
                (h.0.2 ∙ ap (λ (k : Enrolled). k.name) is, h.1))
            | inr more ↦ has_right own.0 rest.0 x ((rest.1 x).1 ((h.0.0, more, h.0.2), h.1))
          ]),
        ),
      )

  -- each row is one of an account that is enrolled
  named : (x : AgendaRow) → IsAgendaRow s as_of x
      → (e : Enrolled) × Has s.accounts e × (x.account ≡ e.name)
  named x h =
      let was = enrolled_of s x.account h.account h.enrolled in
      let found = found_some account_of (is_named x.account) s.accounts was.0 was.1 in
      (found.0, found.1, sym (same_text found.0.name x.account found.2))

  pub agenda_some : (IsAsked : AgendaRow → Type 0) (as_answer : List AgendaRow → Answer)
      → ((x : AgendaRow) → Or (IsAsked x))
      → (answer : Answer) × IsAgenda s IsAsked as_of as_answer answer
  agenda_some IsAsked as_answer asked_or =
      let all = all_rows s.accounts in
      let some = chosen IsAsked asked_or all.0 in
      let each : (x : AgendaRow) → Has some.0 x → IsAgendaRow s as_of x =
      λ x has. ((all.1 x).0 ((some.1 x).0 has).0).1 in
      let listed = ordered_some ComesBefore (IsAgendaRow s as_of) comes_then
      (rows_total s as_of once) some.0 each in (
        as_answer listed.0,
        record {
          listed = listed.0;
          in_order = listed.1;
          all = λ x. (
            (λ has. (let in_some = (listed.2 x).0 has in
                (each x in_some, ((some.1 x).0 in_some).1))),
            (λ h. (listed.2 x).1 ((some.1 x).1 ((all.1 x).1 (named x h.0, h.0), h.1))),
          );
          told = refl;
        },
      )

-- ---- what is asked for

pub between_or : (from to : ℕ) (x : AgendaRow) → Or (IsDueBetween from to x)
between_or from to x = both_or (le_or from (due_date_of x)) (le_or (due_date_of x) to)

pub left_or : (until : ℕ) (x : AgendaRow) → Or (IsLeftBy until x)
left_or until x = both_or (le_or (due_date_of x) until) (le_or 1 (left_of x.row))
