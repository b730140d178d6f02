-- What a reading of the store leaves, and what walks over an account's obligations tell.
use Rattle.std.specs.Prelude.{◌≡◌, ℕ, Bool, List, IsTrue, filter}
use Rattle.std.specs.List.{list_any}
use Rattle.sqlite.specs.State as database
use Rattle.sqlite.specs.State.{HasCleanDisk}
use Rattle.ftd_rules.specs.declared.Form.{Form}
use Rattle.ftd_rules.specs.declared.Obligation.{Obligation}
use Rattle.ftd_sql.specs.States.{CrashKeeps}
use Rattle.ftd_sql.specs.Standing.{Tables, Stands}
use Rattle.ftd_store.specs.Ends.{IsSettled, LeavesRows}
use Rattle.ftd_machine.specs.State.{State}
use Rattle.ftd_machine.specs.Asking.{return_period, has_next_day}
use Rattle.ftd_entries.specs.Standing.{StandsFor}
use Rattle.ftd_entries.specs.Words.{IsKept}
use Rattle.ftd_questions.specs.DueRows.{begins_in, is_next_day_row}

-- the rows of the tables are as they were, and a crash finds what it would have found
pub record Stays (old new : database.State) : Type 0 where
  pub rows : HasCleanDisk new → LeavesRows old new
  pub crash : CrashKeeps old new

-- the same, where the rows that are seen are those of the last commit
pub record StaysIfSettled (old new : database.State) : Type 0 where
  pub rows : HasCleanDisk new → IsSettled old → LeavesRows old new
  pub crash : CrashKeeps old new

-- if the store is open, its tables have these rows
abbrev pub StandIfOpen : database.State → Tables → Type 0
StandIfOpen db t = IsTrue db.is_open → Stands db.now t

-- if the store is open, its tables keep this state
abbrev pub KeptIfOpen : database.State → State → Type 0
KeptIfOpen db s = IsTrue db.is_open → IsKept db.now s

-- the account's obligations that begin in the quarter, by first day, in a state for which the
-- tables stand
abbrev pub begun : {t : Tables} {s : State} → StandsFor t s → List ℕ → ℕ → List Obligation
begun stands name quarter = filter (begins_in quarter) (stands.settled name).owed

-- whether one of them is a next-day one
abbrev pub KnowsNextDay : List ℕ → ℕ → Bool → Tables → Type 0
KnowsNextDay name quarter found t =
    (s : State) (stands : StandsFor t s)
    → found ≡ list_any is_next_day_row (begun stands name quarter)

-- whether one of the account's obligations that begin in the return period of the quarter is
abbrev pub KnowsNextDayOfReturn : List ℕ → Form → ℕ → Bool → Tables → Type 0
KnowsNextDayOfReturn name form quarter found t =
    (s : State) (stands : StandsFor t s)
    → found ≡ has_next_day form (stands.settled name).owed (return_period form quarter)
