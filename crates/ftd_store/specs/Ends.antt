-- How a transaction begins and ends.
use Rattle.std.specs.Prelude.{◌≡◌, true, IsTrue}
use Rattle.sqlite.specs.Effect.{Database}
use Rattle.sqlite.specs.Tree.{Trees}
use Rattle.sqlite.specs.State.{State, Shows}

-- a transaction began: it shows the rows of the last commit
pub record Begins (old new : State) : Type 0 where
  pub shows : Shows old new old.now old.committed true
  pub settled : old.now ≡ old.committed

-- what is seen is what is committed
abbrev pub IsSettled : State → Type 0
IsSettled s = IsTrue s.is_open → s.now ≡ s.committed

-- what is seen and what is committed are as they were
pub record LeavesRows (old new : State) : Type 0 where
  pub was_open : IsTrue new.is_open → IsTrue old.is_open
  pub now_is : IsTrue new.is_open → new.now ≡ old.now
  pub committed_is : IsTrue new.is_open → new.committed ≡ old.committed

-- what is seen and what is committed are this database
abbrev pub EndsAs : State → Database → Type 0
EndsAs s db = (s.now ≡ db) × (s.committed ≡ db)

-- a crash now leaves this database alone
abbrev pub CrashLeaves : State → Database → Type 0
CrashLeaves s db = (left : Trees) → s.may_leave left → left ≡ db.trees
