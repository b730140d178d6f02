-- The rows of a due list, of an agenda and of what is owed beside those of the tables, whatever else
-- these hold.
use Rattle.std.specs.Prelude.{◌≡◌, ℕ, true, List, filter, map, Option, None, Some, Ok}
use Rattle.std.specs.List.Sorted.{IsPermutation}
use Rattle.ftd_rules.specs.declared.verdict.DueRow.{DueRow}
use Rattle.ftd_rules.specs.declared.Form.{Form}
use Rattle.ftd_rules.specs.Accounts.{is_account_name}
use Rattle.ftd_rules.specs.Lists.{Has, KeysDoNotFall}
use Rattle.ftd_sql.specs.Rows.{ObligationRow}
use Rattle.ftd_sql.specs.Standing.{Tables}
use Rattle.ftd_sql.specs.declared.TableName.TheVariants.{Obligations}
use Rattle.ftd_store.specs.Rows.{obligation_row}
use Rattle.ftd_store.specs.Walking.{rows_in}
use Rattle.ftd_machine.specs.Asking.{first_of_row}
use Rattle.ftd_machine.specs.Agenda.{due_date_of}
use Rattle.ftd_machine.specs.Checks.{Answer}
use Rattle.ftd_machine.specs.declared.facts.Agenda.{Agenda}
use Rattle.ftd_machine.specs.declared.facts.DueList.{DueList}
use Rattle.ftd_machine.specs.declared.facts.Facts.TheVariants as facts
use Rattle.ftd_machine.specs.declared.facts.Facts.TheVariants.{Due, Owed}
use Rattle.ftd_machine.specs.declared.facts.OwedList.{OwedList}
use Rattle.ftd_machine.specs.declared.lists.AgendaRow.{AgendaRow}
use Rattle.ftd_machine.specs.declared.replies.Reply.TheVariants.{Told}
use Rattle.ftd_questions.specs.DueRows.{KnowsDueList, KnowsReturnDue}
use Rattle.ftd_questions.specs.Listing.{is_due_in}
use Rattle.ftd_questions.specs.declared.due.QuarterRows.{QuarterRows}

-- the account's obligation of a row, as it stands in the tables
abbrev pub row_shown : List ℕ → DueRow → ObligationRow
row_shown name row = obligation_row name row.obligation

-- the rows are those of exactly the account's obligations in the tables that begin in the quarter,
-- each once, by first day
pub record ShowsRows (name : List ℕ) (quarter : ℕ) (rows : List DueRow) (t : Tables)
    : Type 0 where
  pub all : IsPermutation (rows_in name quarter t) (map (row_shown name) rows)
  pub by_first_day : KeysDoNotFall first_of_row rows

-- the rows are the due list of each sound state for which the tables stand, and show the tables'
-- rows as they stand
abbrev pub KnowsRowsOf : List ℕ → Form → ℕ → ℕ → List DueRow → Tables → Type 0
KnowsRowsOf name form quarter as_of rows t =
    KnowsDueList name form quarter as_of rows t × ShowsRows name quarter rows t

-- so are these, and the return of the quarter is due on this day in each sound state for which the
-- tables stand
abbrev pub KnowsQuarter : List ℕ → Form → ℕ → ℕ → QuarterRows → Tables → Type 0
KnowsQuarter name form quarter as_of found t =
    KnowsRowsOf name form quarter as_of found.rows.items t
    × KnowsReturnDue form quarter found.return_due t

-- a due list that is answered shows the tables' rows as they stand
abbrev pub ShowsList : List ℕ → ℕ → Answer → Tables → Type 0
ShowsList name quarter answer t =
    (list : DueList) → answer ≡ Ok (Told (Due list)) → ShowsRows name quarter list.rows t

-- ---- all accounts

-- the obligation of a row of an agenda, as it stands in the tables
abbrev pub owed_shown : AgendaRow → ObligationRow
owed_shown x = obligation_row x.account x.row.obligation

-- the rows are those of exactly the obligations in the tables that are due on one of the days, of
-- the accounts in the table of accounts, each once, by due date; of those that begin in the year
-- before the first day or later, and not after the last; and where a day is given, of those alone
-- that are not paid in full as of it. Each name is the name of an account
pub record ShowsDue (unpaid : Option ℕ) (from to : ℕ) (rows : List AgendaRow) (t : Tables)
    : Type 0 where
  pub all : IsPermutation (filter (is_due_in unpaid from to t) (t Obligations))
      (map owed_shown rows)
  pub by_due_date : KeysDoNotFall due_date_of rows
  pub names : (x : AgendaRow) → Has rows x → is_account_name x.account ≡ true

-- so does an agenda that is answered
abbrev pub ShowsAgenda : ℕ → ℕ → Answer → Tables → Type 0
ShowsAgenda from to answer t =
    (list : Agenda) → answer ≡ Ok (Told (facts.Agenda list)) → ShowsDue None from to list.rows t

-- and what is answered as owed until a day
abbrev pub ShowsOwed : ℕ → ℕ → Answer → Tables → Type 0
ShowsOwed until as_of answer t =
    (list : OwedList) → answer ≡ Ok (Told (Owed list)) → ShowsDue (Some as_of) 0 until list.rows t
