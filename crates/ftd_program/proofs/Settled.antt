-- Payments of what is left that were asked one after the other.
use Rattle.std.proofs.Common.{◌≡◌, ◌∙◌, ◌++◌, ◌∷◌, [], ◌+◌, ◌<◌, ℕ, Bool, List, Option, refl, sym, ap}
use Rattle.std.proofs.Common.{◌≤◌, arith, get_or, length, take}
use Rattle.std.proofs.lemmas.List.{take_more}
use Rattle.sqlite.specs.Store as store
use Rattle.ftd_rules.specs.declared.payment.Payment.{Payment}
use Rattle.ftd_desk.specs.declared.desk.Desk.{Desk}
use Rattle.ftd_program.specs.Settling.{PaysAll, PaysEach, PaysLeft, PaysOne}
use Rattle.ftd_program.specs.declared.performing.JobEnd.{JobEnd}

module _ {S O E : Type 0} (g : store.Ghosts S) (o_taken : O → Option (List ℕ)) (o_failed : O → Bool)
    (e_taken : E → Option (List ℕ)) (e_failed : E → Bool) (db account : List ℕ) (due : ℕ) where
  -- one more was paid
  pub paid_more : (out above : O) (err told : E) (old mid new : Desk S) (before : List Payment)
      (payment : Payment) (end : JobEnd O E)
      → PaysAll g o_taken o_failed e_taken e_failed db account due out above err told old mid before
      → PaysOne g o_taken o_failed e_taken e_failed db account due above told end mid new payment
      → end.status ≡ 0
      → PaysAll g o_taken o_failed e_taken e_failed db account due out end.out err end.err old new
      (before ++ payment ∷ [])
  paid_more out above err told old mid new [] payment end all one zero =
      (end, new, rw (sym all.0, sym all.1, sym all.2) one, zero, (refl, refl, refl))
  paid_more out above err told old mid new (first ∷ before) payment end all one zero = (
    all.0,
    all.1,
    all.2,
    all.3,
    paid_more all.0.out above all.0.err told all.1 mid new before payment end all.4 one zero,
  )

  -- so of the payments up to one
  pub paid_next : (out above : O) (err told : E) (old mid new : Desk S) (payments : List Payment)
      (i : ℕ) (payment : Payment) (end : JobEnd O E) → i < length payments
      → payment ≡ get_or payments i payment
      → PaysAll g o_taken o_failed e_taken e_failed db account due out above err told old mid
      (take i payments)
      → PaysOne g o_taken o_failed e_taken e_failed db account due above told end mid new payment
      → end.status ≡ 0
      → PaysAll g o_taken o_failed e_taken e_failed db account due out end.out err end.err old new
      (take (i + 1) payments)
  paid_next out above err told old mid new payments i payment end some is all one zero =
      rw (take_more payments i payment some
      ∙ ap (λ (x : Payment). take i payments ++ x ∷ []) (sym is))
      (paid_more out above err told old mid new (take i payments) payment end all one zero)

  -- where there is a payment, each was asked
  pub pays_some : (out : O) (err : E) (p : JobEnd O E) (old new : Desk S) (payments : List Payment)
      → 1 ≤ length payments
      → PaysEach g o_taken o_failed e_taken e_failed db account due out err p old new payments
      → PaysLeft g o_taken o_failed e_taken e_failed db account due out err p old new payments
  pays_some out err p old new [] some each = absurd (omega (arith, some))
  pays_some out err p old new (first ∷ later) some each = each
