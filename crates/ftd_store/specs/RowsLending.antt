-- What a store ends as once its obligations are no longer read.
use Rattle.std.specs.Prelude.{Result}
use Rattle.std.specs.Borrow.{Fml, RattleType, MutBor, Lends, RestsIfErr}
use Rattle.sqlite.specs.Store as store
use Rattle.sqlite.specs.State.{HasCleanDisk}
use Rattle.sqlite.specs.Held.{Held, state}
use Rattle.sqlite.specs.declared.error.Error.{Error}
use Rattle.sqlite.specs.declared.rows.stream.Rows.{Rows}
use Rattle.sqlite.specs.contracts.connection.Connection as connection
use Rattle.ftd_sql.specs.States.{CrashKeeps}
use Rattle.ftd_store.specs.Ends.{LeavesRows}
use Rattle.ftd_store.specs.declared.store.Store.{Store}
use Rattle.ftd_store.specs.contracts.store.Store as contracts

module _ (S : RattleType) (g : store.Ghosts S.Denot) where
  -- the store ends with its connection as it was left
  abbrev pub lends_connection : MutBor (Store S.Denot) → MutBor (Held S.Denot) → Fml
  lends_connection s r =
      Lends (contracts.the_row S g) (connection.the_row S g) s r (λ last. record { conn = last })

  -- where no reading begins, the rows are as they were, and a crash finds what it would have found
  abbrev pub rows_rest : MutBor (Held S.Denot) → Result (Rows S.Denot g) Error → Fml
  rows_rest conn result =
      RestsIfErr (connection.the_row S g) conn (λ rows. rows.conn.ghost_name) result
      (λ last. (HasCleanDisk (state g last) → LeavesRows (state g conn.now) (state g last))
      × CrashKeeps (state g conn.now) (state g last))
