-- Obligations that are read one at a time.
use Rattle.std.specs.Prelude.{ℕ, ◌+◌, ◌-◌, List, [], ◌∷◌, ◌++◌, map, filter, Option, None, Some}
use Rattle.sqlite.specs.Store as store
use Rattle.sqlite.specs.State.{State}
use Rattle.sqlite.specs.Held.{state}
use Rattle.sqlite.specs.declared.rows.stream.Rows.{Rows}
use Rattle.sqlite.specs.Given.{HasGiven}
use Rattle.ftd_days.specs.Calendar.{quarter_start}
use Rattle.ftd_rules.specs.declared.Obligation.{Obligation}
use Rattle.ftd_sql.specs.declared.TableName.TheVariants.{Obligations}
use Rattle.ftd_sql.specs.Rows.{ObligationRow}
use Rattle.ftd_sql.specs.Standing.{Tables, Stands}
use Rattle.ftd_sql.specs.declared.texts.TheConstants.{LIST_OBLIGATIONS}
use Rattle.ftd_sql.specs.Given.{pair_given}
use Rattle.ftd_sql.specs.Orders.{ObligationsRise}
use Rattle.ftd_sql.specs.Tests.{is_obligation_between}
use Rattle.ftd_store.specs.Cells.{day_number, obligation_cells}
use Rattle.ftd_store.specs.Lists.{Lists, ListsFirst}
use Rattle.ftd_store.specs.Finds.{IsObligation}

-- the obligations of the account with a first day in the quarter
abbrev pub rows_in : List ℕ → ℕ → Tables → List ObligationRow
rows_in account quarter t =
    filter (is_obligation_between account (day_number (quarter_start quarter))
    (day_number (quarter_start (quarter + 1) - 1))) (t Obligations)

module _ {S : Type 0} (g : store.Ghosts S) where
  -- what is shown of the store that they borrow
  abbrev pub walked : Rows S g → State
  walked rows = state g rows.conn.now

  -- these obligations of the account's quarter have been given
  abbrev pub HasListed : List ℕ → ℕ → Rows S g → List Obligation → Type 0
  HasListed account quarter rows listed =
      HasGiven g LIST_OBLIGATIONS.now
      (pair_given account (day_number (quarter_start quarter))
      (day_number (quarter_start
      (quarter + 1) - 1))) rows.conn.now (map obligation_cells listed)

  -- one more is given, and those so far are the first of the quarter; or they are all of it
  abbrev pub Continues : List ℕ → ℕ → Rows S g → List Obligation → Option Obligation → Type 0
  Continues account quarter rows listed (Some o) =
      HasListed account quarter rows (listed ++ o ∷ [])
      × ((t : Tables) → Stands (walked rows).now t
      → ListsFirst ObligationsRise (IsObligation account) (rows_in account quarter t)
      (listed ++ o ∷ []))
  Continues account quarter rows listed None =
      (t : Tables) → Stands (walked rows).now t
      → Lists ObligationsRise (IsObligation account) (rows_in account quarter t) listed
