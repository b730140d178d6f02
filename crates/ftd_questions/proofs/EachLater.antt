-- Lists of which each item stands so to those after it.
use Rattle.std.proofs.Common.{◌≡◌, inl, inr, sym, subst, ℕ, zero, suc, ◌<◌, List, [], ◌∷◌, length}
use Rattle.std.proofs.Common.{take, get_or, arith}
use Rattle.ftd_rules.specs.Lists.{Has}
use Rattle.ftd_store.proofs.Items.{has_at}
use Rattle.ftd_machine.specs.Agenda.{EachToLater}

-- each item before a place stands so to the one there
pub each_at : {X : Type 0} (R : X → X → Type 0) (xs : List X) (i : ℕ) (x a : X) → EachToLater R xs
    → i < length xs → x ≡ get_or xs i x → Has (take i xs) a → R a x
each_at R [] i x a each some is has = absurd (omega arith)
each_at R (y ∷ xs) zero x a each some is has = absurd has
each_at R (y ∷ xs) (suc i) x a each some is (inl here) =
    subst (λ b. R b x) (sym here) (each.0 x (has_at xs i x (omega arith) is))
each_at R (y ∷ xs) (suc i) x a each some is (inr later) =
    each_at R xs i x a each.1 (omega arith) is later
