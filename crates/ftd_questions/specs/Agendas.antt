-- What is known of the rows of an agenda, by what the tables have.
use Rattle.std.specs.Prelude.{◌≡◌, ◌++◌, ℕ, List, [], ◌∷◌, Option, None, Some, ⊤}
use Rattle.std.specs.Prelude.{string_bytes, nat_lt, if◌then◌else◌}
use Rattle.ftd_days.specs.Calendar.{quarter_of}
use Rattle.ftd_rules.specs.declared.verdict.DueRow.{DueRow}
use Rattle.ftd_rules.specs.declared.verdict.Verdict.{Verdict}
use Rattle.ftd_rules.specs.declared.verdict.Verdict.TheVariants.{Met, WithReturn, Open, MadeUp}
use Rattle.ftd_rules.specs.declared.verdict.Verdict.TheVariants.{Short, Late}
use Rattle.ftd_rules.specs.Lists.{Has}
use Rattle.ftd_rules.specs.Returns.{IsReturnDue}
use Rattle.ftd_sql.specs.Standing.{Tables}
use Rattle.ftd_store.specs.Lists.{Pairs}
use Rattle.ftd_store.specs.declared.obligation_cells.AccountObligation.{AccountObligation}
use Rattle.ftd_machine.specs.State.{State, entries_of, holidays}
use Rattle.ftd_machine.specs.Sound.{IsSound}
use Rattle.ftd_machine.specs.Asking.{IsDueList}
use Rattle.ftd_machine.specs.Agenda.{return_last_of, IsAgendaRow}
use Rattle.ftd_machine.specs.declared.entries.Account.{Account}
use Rattle.ftd_machine.specs.declared.lists.AgendaRow.{AgendaRow}
use Rattle.ftd_machine.specs.Told.{due_answer}
use Rattle.ftd_entries.specs.Standing.{StandsFor}
use Rattle.ftd_questions.specs.DueRows.{KnowsYears}
use Rattle.ftd_questions.specs.Listing.{ListsDue}
use Rattle.ftd_questions.specs.declared.agenda_rows.AccountList.{AccountList}
use Rattle.ftd_questions.specs.declared.agenda_rows.QuarterList.{QuarterList}

-- ---- a due list

-- the account is enrolled on the form, the rows are its due list of the quarter, and the quarter's
-- return is due on the day
pub record IsListOf (s : State) (name : List ℕ) (quarter as_of : ℕ) (list : AccountList)
    : Type 0 where
  pub account : Account
  pub enrolled : (entries_of s name).account ≡ Some account
  pub form_is : list.form ≡ account.form
  pub due_list : IsDueList (holidays s) (entries_of s name) name quarter as_of
      (due_answer name quarter as_of list.rows.items)
  pub return_due : IsReturnDue list.form (holidays s) quarter list.return_due

-- so in each sound state for which the tables stand
abbrev pub KnowsList : List ℕ → ℕ → ℕ → AccountList → Tables → Type 0
KnowsList name quarter as_of list t =
    (s : State) → StandsFor t s → IsSound s → IsListOf s name quarter as_of list

abbrev pub KnowsLast : ℕ → Option QuarterList → Tables → Type 0
KnowsLast as_of None t = ⊤
KnowsLast as_of (Some last) t = KnowsList (string_bytes last.account) last.quarter as_of last.list t

-- so are the holidays of the year of its quarter and of the next
abbrev pub KnowsLastYears : Option QuarterList → Tables → Type 0
KnowsLastYears None t = ⊤
KnowsLastYears (Some last) t = KnowsYears last.quarter last.holidays t

-- the obligation of an account is on the list
abbrev pub IsLast : AccountObligation → Option QuarterList → Type 0
IsLast owed None = ⊥
IsLast owed (Some last) =
    (string_bytes last.account ≡ string_bytes owed.account)
    × (last.quarter ≡ quarter_of owed.obligation.first)

-- ---- a row

-- the day by which to pay what is left of a row of the list with the verdict, as of a day
abbrev pub day_for : Verdict → DueRow → AccountList → ℕ → ℕ
day_for Met row list as_of = row.obligation.due
day_for WithReturn row list as_of =
    if nat_lt (return_last_of list.form row) as_of then list.return_due else row.obligation.due
day_for Open row list as_of = row.obligation.due
day_for MadeUp row list as_of = row.obligation.due
day_for Short row list as_of = row.makeup
day_for Late row list as_of = row.obligation.due

-- it is the row of the obligation of an account on the list, as of a day
pub record IsRowOf (owed : AccountObligation) (list : AccountList) (as_of : ℕ) (x : AgendaRow)
    : Type 0 where
  pub account : x.account ≡ string_bytes owed.account
  pub form_is : x.form ≡ list.form
  pub listed : Has list.rows.items x.row
  pub obligation : x.row.obligation ≡ owed.obligation
  pub pay_by : x.pay_by ≡ day_for x.row.verdict x.row list as_of

-- it was added to the rows
abbrev pub AddsRow : AccountObligation → Option QuarterList → ℕ → List AgendaRow → List AgendaRow
    → Type 0
AddsRow owed None as_of before after = ⊥
AddsRow owed (Some last) as_of before after =
    (x : AgendaRow) × IsRowOf owed last.list as_of x × (after ≡ before ++ x ∷ [])

-- it is the row of the account's obligation; so in each sound state for which the tables stand
pub record KnowsRow (as_of : ℕ) (t : Tables) (owed : AccountObligation) (x : AgendaRow)
    : Type 0 where
  pub account : x.account ≡ string_bytes owed.account
  pub obligation : x.row.obligation ≡ owed.obligation
  pub is_row : (s : State) → StandsFor t s → IsSound s → IsAgendaRow s as_of x

-- ---- the rows

-- these are the rows of the obligations that are due on one of the days and not paid, by account
-- and first day
pub record KnowsRowsDue (unpaid : Option ℕ) (from to as_of : ℕ) (rows : List AgendaRow) (t : Tables)
    : Type 0 where
  pub owed : List AccountObligation
  pub listed : ListsDue unpaid from to owed t
  pub are_rows : Pairs (KnowsRow as_of t) owed rows
