-- What a desk holds.
use Rattle.std.specs.Prelude.{◌≡◌, IsTrue}
use Rattle.sqlite.specs.Store as store
use Rattle.sqlite.specs.State as database
use Rattle.ftd_store.specs.declared.store.Store.{Store}
use Rattle.ftd_store.specs.Seen.{seen}
use Rattle.ftd_machine.specs.State.{State}
use Rattle.ftd_entries.specs.Words.{IsKept}
use Rattle.ftd_desk.specs.Books.{IsKnown}
use Rattle.ftd_desk.specs.declared.known.Known.{Known}
use Rattle.ftd_desk.specs.declared.desk.Desk.{Desk}

-- its tables, and whether a commit has stopped it
abbrev pub store_of : {S : Type 0} → Desk S → Store S
store_of desk = desk.store

abbrev pub IsStopped : {S : Type 0} → Desk S → Type 0
IsStopped desk = IsTrue desk.stopped

-- the database, and what it keeps from request to request
pub record Held : Type 1 where
  pub db : database.State
  pub known : Known

abbrev pub held : {S : Type 0} → store.Ghosts S → Desk S → Held
held g desk = record { db = seen g desk.store; known = desk.known }

-- between requests: what is seen of the database is committed, and keeps this state
pub record Rests (db : database.State) (s : State) : Type 0 where
  pub kept : IsKept db.now s
  pub committed : db.committed ≡ db.now

-- between requests the desk stands for this state: the database rests in it, and what is kept is
-- right
pub record Keeps (h : Held) (s : State) : Type 0 where
  pub rests : Rests h.db s
  pub known : IsKnown h.known s

-- it does, if its connection is open
abbrev pub KeepsIfOpen : Held → State → Type 0
KeepsIfOpen h s = IsTrue h.db.is_open → Keeps h s
