-- What a store shows: the state of its connection.
use Rattle.sqlite.specs.Store as store
use Rattle.sqlite.specs.State.{State}
use Rattle.sqlite.specs.Held.{state}
use Rattle.ftd_store.specs.declared.store.Store.{Store}
use Rattle.ftd_store.specs.declared.tx.Tx.{Tx}

abbrev pub seen : {S : Type 0} → store.Ghosts S → Store S → State
seen g it = state g it.conn

abbrev pub shown : {S : Type 0} → store.Ghosts S → Tx S → State
shown g tx = seen g tx.store.now
