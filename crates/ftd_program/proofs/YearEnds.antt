-- What came of opening a year of each account.
use Rattle.std.proofs.Common.{◌≡◌, ◌-◌, ◌∷◌, [], ℕ, Bool, true, List, length, Option, arith, refl}
use Rattle.sqlite.specs.Store as store
use Rattle.ftd_machine.specs.Limits.{can_be_opened}
use Rattle.ftd_machine.specs.declared.requests.Request.{Request}
use Rattle.ftd_desk.specs.Desks.{held}
use Rattle.ftd_desk.specs.declared.desk.Desk.{Desk}
use Rattle.ftd_program.specs.OpenYears.{AreToOpen, OpensEach, OpensYears, none, none_text, opened}
use Rattle.ftd_program.specs.Performing.{PrintsOut}
use Rattle.ftd_program.specs.declared.performing.JobEnd.{JobEnd}

module _ {S O E : Type 0} (g : store.Ghosts S) (o_taken : O → Option (List ℕ)) (o_failed : O → Bool)
    (e_taken : E → Option (List ℕ)) (e_failed : E → Bool) (out : O) (err : E) (p : JobEnd O E)
    (old between new : Desk S) (db : List ℕ) (year : ℕ) (can : can_be_opened year ≡ true) where
  -- no account has the year before open
  pub opens_none : (requests : List Request) → length requests ≡ 0
      → AreToOpen (held g old) (held g new) year requests
      → PrintsOut o_taken o_failed e_taken e_failed out err p 0 (none_text (year - 1))
      → OpensYears g o_taken o_failed e_taken e_failed out err p old new db year
  opens_none [] empty are prints = none can are prints
  opens_none (first ∷ later) empty are prints = absurd (omega (arith, empty))

  -- some account has it
  pub opens_some : (requests : List Request) → (length requests ≡ 0 → ⊥)
      → AreToOpen (held g old) (held g between) year requests
      → OpensEach g o_taken o_failed e_taken e_failed out err p between new db requests
      → OpensYears g o_taken o_failed e_taken e_failed out err p old new db year
  opens_some [] some are each = absurd (some refl)
  opens_some (first ∷ later) some are each = opened first later between can are each
