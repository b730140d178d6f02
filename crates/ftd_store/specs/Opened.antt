-- A store and its database.
use Rattle.std.specs.Prelude.{◌≡◌}
use Rattle.sqlite.specs.Held.{Held}
use Rattle.ftd_store.specs.declared.store.Store.{Store}

-- the connection is that of the store
abbrev pub IsOver : {S : Type 0} → Store S → Held S → Type 0
IsOver it conn = conn ≡ it.conn
