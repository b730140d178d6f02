-- The rows of an agenda, one by one.
use Rattle.std.proofs.Common.{◌≡◌, ◌∙◌, sym, ap, subst, ℕ, ◌+◌, ◌<◌, List, [], ◌∷◌, ◌++◌}
use Rattle.std.proofs.Common.{length, take, get_or, Option, None, Some, Ok, inl, inr}
use Rattle.std.specs.Prelude.{string_bytes}
use Rattle.std.proofs.lemmas.Bool.{cases_lt, lt-ltb, le-ltb}
use Rattle.ftd_days.specs.Calendar.{quarter_of}
use Rattle.ftd_rules.specs.declared.Obligation.{Obligation}
use Rattle.ftd_rules.specs.declared.verdict.DueRow.{DueRow}
use Rattle.ftd_rules.specs.declared.verdict.Verdict.{Verdict}
use Rattle.ftd_rules.specs.declared.verdict.Verdict.TheVariants.{Met, WithReturn, Open, MadeUp}
use Rattle.ftd_rules.specs.declared.verdict.Verdict.TheVariants.{Short, Late}
use Rattle.ftd_rules.specs.Lists.{Has}
use Rattle.ftd_rules.specs.Returns.{IsReturnDue}
use Rattle.ftd_sql.specs.Standing.{Tables}
use Rattle.ftd_store.specs.Lists.{Pairs}
use Rattle.ftd_store.specs.declared.obligation_cells.AccountObligation.{AccountObligation}
use Rattle.ftd_store.proofs.Items.{taken, pairs_more}
use Rattle.ftd_machine.specs.State.{State, entries_of, holidays}
use Rattle.ftd_machine.specs.History.{AreOwed}
use Rattle.ftd_machine.specs.Asking.{IsDueRow}
use Rattle.ftd_machine.specs.Agenda.{first_day_of, return_last_of, IsDayFor, IsAgendaRow}
use Rattle.ftd_machine.specs.Checks.{Answer}
use Rattle.ftd_machine.specs.declared.lists.AgendaRow.{AgendaRow}
use Rattle.ftd_machine.specs.Told.{due_answer}
use Rattle.ftd_machine.specs.declared.facts.DueList.{DueList}
use Rattle.ftd_machine.specs.declared.facts.Facts.TheVariants.{Due}
use Rattle.ftd_machine.specs.declared.replies.Reply.TheVariants.{Told}
use Rattle.ftd_questions.specs.Agendas.{IsListOf, KnowsList, KnowsLast, IsLast, day_for, IsRowOf}
use Rattle.ftd_questions.specs.Agendas.{AddsRow, KnowsLastYears, KnowsRow}
use Rattle.ftd_questions.specs.Listing.{ListsDue}
use Rattle.ftd_questions.specs.declared.agenda_rows.AccountList.{AccountList}
use Rattle.ftd_questions.specs.declared.agenda_rows.QuarterList.{QuarterList}

-- the day by which to pay is the one that the list makes it
pays_by : (row : DueRow) (list : AccountList) (hs : List ℕ) (as_of : ℕ)
    → IsReturnDue list.form hs (quarter_of row.obligation.first) list.return_due
    → (verdict : Verdict) (day : ℕ) → day ≡ day_for verdict row list as_of
    → IsDayFor list.form hs as_of row verdict day
pays_by row list hs as_of is Met day e = e
pays_by row list hs as_of is WithReturn day e =
    elim (cases_lt (return_last_of list.form row) as_of) [
      | inl over ↦
          let its : day ≡ list.return_due =
          rw (lt-ltb (return_last_of list.form row) as_of over) at e in
          inl (
            over,
            subst (IsReturnDue list.form hs (quarter_of row.obligation.first)) (sym its)
                is,
          )
      | inr runs ↦
          let its : day ≡ row.obligation.due =
          rw (le-ltb (return_last_of list.form row) as_of runs) at e in
          inr (runs, its)
    ]
pays_by row list hs as_of is Open day e = e
pays_by row list hs as_of is MadeUp day e = e
pays_by row list hs as_of is Short day e = e
pays_by row list hs as_of is Late day e = e

abbrev due_of : DueList → Answer
due_of list = Ok (Told (Due list))

told_list : (list other : DueList) → due_of list ≡ due_of other → list ≡ other
told_list list other e = cc

list_is : (name : List ℕ) (quarter as_of : ℕ) (rows listed : List DueRow)
    → due_answer name quarter as_of rows ≡ due_answer name quarter as_of listed → rows ≡ listed
list_is name quarter as_of rows listed e =
    ap (λ (list : DueList). list.rows) (told_list _ _ e)

-- a row of the account's due list is one of an agenda
row_is : (s : State) (as_of : ℕ) (owed : AccountObligation) (list : AccountList) (x : AgendaRow)
    → IsListOf s (string_bytes owed.account) (quarter_of owed.obligation.first) as_of list
    → IsRowOf owed list as_of x → IsAgendaRow s as_of x
row_is s as_of owed list x l r =
    let name = string_bytes owed.account in
    let rows : list.rows.items ≡ l.due_list.listed =
    list_is name (quarter_of owed.obligation.first) as_of list.rows.items l.due_list.listed
    l.due_list.told in
    let first : quarter_of owed.obligation.first ≡ quarter_of (first_day_of x) =
    ap (λ (o : Obligation). quarter_of o.first) (sym r.obligation) in
    let is_row : IsDueRow (holidays s) (entries_of s name) l.due_list.rows
    (quarter_of owed.obligation.first) as_of x.row =
    (l.due_list.all x.row).0 (subst (λ rs. Has rs x.row) rows r.listed) in
    let there : IsDueRow (holidays s) (entries_of s name) l.due_list.rows
    (quarter_of (first_day_of x)) as_of x.row =
    subst (λ q. IsDueRow (holidays s) (entries_of s name) l.due_list.rows q as_of x.row) first
    is_row in
    let return_due : IsReturnDue list.form (holidays s) (quarter_of (first_day_of x))
    list.return_due =
    subst (λ q. IsReturnDue list.form (holidays s) q list.return_due) first l.return_due in
    record {
      account = l.account;
      enrolled = subst (λ n. (entries_of s n).account ≡ Some l.account) (sym r.account) l.enrolled;
      form_is = r.form_is ∙ l.form_is;
      owed = l.due_list.rows;
      are_owed = subst (λ n. AreOwed (holidays s) (entries_of s n) l.due_list.rows) (sym r.account)
          l.due_list.owed;
      is_row = subst (λ n. IsDueRow (holidays s) (entries_of s n) l.due_list.rows
          (quarter_of (first_day_of x)) as_of x.row) (sym r.account) there;
      pay_by = subst (λ f. IsDayFor f (holidays s) as_of x.row x.row.verdict x.pay_by)
          (sym r.form_is)
          (pays_by x.row list (holidays s) as_of return_due x.row.verdict x.pay_by r.pay_by);
    }

pub row_known : (as_of : ℕ) (t : Tables) (owed : AccountObligation) (name : List ℕ) (quarter : ℕ)
    (list : AccountList) (x : AgendaRow) → name ≡ string_bytes owed.account
    → quarter ≡ quarter_of owed.obligation.first → KnowsList name quarter as_of list t
    → IsRowOf owed list as_of x → KnowsRow as_of t owed x
row_known as_of t owed name quarter list x named its knows r = record {
  account = r.account;
  obligation = r.obligation;
  is_row = λ s stands sound. row_is s as_of owed list x
      (subst (λ n. IsListOf s n (quarter_of owed.obligation.first) as_of list) named
      (subst (λ q. IsListOf s name q as_of list) its (knows s stands sound))) r;
}

-- ---- row after row

-- of the obligations that were listed, these have their rows, and the due list that was read last
-- is known
pub record SoFar (unpaid : Option ℕ) (from to as_of : ℕ) (listed done : List AccountObligation)
    (rows : List AgendaRow) (last : Option QuarterList) (t : Tables) : Type 0 where
  pub lists : ListsDue unpaid from to listed t
  pub are_rows : Pairs (KnowsRow as_of t) done rows
  pub last_is : KnowsLast as_of last t
  pub years_are : KnowsLastYears last t

module _ (unpaid : Option ℕ) (from to as_of : ℕ) (listed : List AccountObligation) where
  -- with the row of one obligation more
  pub so_far_more : (i : ℕ) (x : AccountObligation) (rows after : List AgendaRow)
      (last new : Option QuarterList) (t : Tables) → i < length listed → x ≡ get_or listed i x
      → IsLast x new → AddsRow x new as_of rows after
      → SoFar unpaid from to as_of listed (take i listed) rows last t
      → KnowsLast as_of new t × KnowsLastYears new t
      → SoFar unpaid from to as_of listed (take (i + 1) listed) after new t
  so_far_more i x rows after last None t some is its adds so_far knows = absurd its
  so_far_more i x rows after last (Some new) t some is its adds so_far knows =
      let row = adds.0 in
      let known = row_known as_of t x (string_bytes new.account) new.quarter new.list row its.0
      its.1 knows.0 adds.1 in
      record {
        lists = so_far.lists;
        are_rows = subst (λ os. Pairs (KnowsRow as_of t) os after) (sym (taken listed i x some is))
            (subst (Pairs (KnowsRow as_of t) (take i listed ++ x ∷ [])) (sym adds.2)
            (pairs_more (KnowsRow as_of t) (take i listed) rows x row so_far.are_rows known));
        last_is = knows.0;
        years_are = knows.1;
      }
