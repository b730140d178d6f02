-- What a store ends as where it begins no transaction.
use Rattle.std.specs.Prelude.{Result}
use Rattle.std.specs.Borrow.{Fml, RattleType, MutBor, RestsIfErr}
use Rattle.sqlite.specs.Store as store
use Rattle.sqlite.specs.State.{HasCleanDisk}
use Rattle.ftd_sql.specs.States.{CrashKeeps}
use Rattle.ftd_store.specs.declared.faults.StoreFault.{StoreFault}
use Rattle.ftd_store.specs.declared.store.Store.{Store}
use Rattle.ftd_store.specs.declared.tx.Tx.{Tx}
use Rattle.ftd_store.specs.contracts.store.Store as contracts
use Rattle.ftd_store.specs.Seen.{seen}
use Rattle.ftd_store.specs.Ends.{LeavesRows}

module _ (S : RattleType) (g : store.Ghosts S.Denot) where
  -- the rows are as they were, and a crash finds what it would have found
  abbrev pub store_rests : MutBor (Store S.Denot) → Result (Tx S.Denot) StoreFault → Fml
  store_rests s r =
      RestsIfErr (contracts.the_row S g) s (λ it. it.store.ghost_name) r
      (λ last. (HasCleanDisk (seen g last) → LeavesRows (seen g s.now) (seen g last))
      × CrashKeeps (seen g s.now) (seen g last))
