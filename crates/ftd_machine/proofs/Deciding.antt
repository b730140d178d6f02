-- What follows from a request's checks.
use Rattle.std.proofs.Common.{◌≡◌, ◌⊎◌, inl, inr, refl, sym, ap, Option, None, Some}
use Rattle.ftd_machine.specs.State.{State}
use Rattle.ftd_machine.specs.Checks.{Answer, Decides}

-- the checks decided, and the state is as it was, or they passed
pub either : (check : Option Answer) (s : State) (answer : Answer) (new : State) (Else : Type 0)
    → Decides check s answer new Else → ((check ≡ Some answer) × (new ≡ s))
    ⊎ ((check ≡ None) × Else)
either (Some given) s answer new Else d = inl (ap Some (sym d.0), d.1)
either None s answer new Else d = inr (refl, d)

pub decided : (check : Option Answer) (s : State) (given : Answer) (Else : Type 0)
    → check ≡ Some given → Decides check s given s Else
decided check s given Else e = rw e (refl, refl)

pub passed : (check : Option Answer) (s : State) (answer : Answer) (new : State) (Else : Type 0)
    → check ≡ None → Else → Decides check s answer new Else
passed check s answer new Else e otherwise = rw e otherwise
