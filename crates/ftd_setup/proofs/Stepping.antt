-- Steps inside a transaction, one after the other.
use Rattle.std.proofs.Common.{◌≡◌, ℕ, List, [], refl, Ok, Err, ◌∙◌, arith}
use Rattle.std.specs.Prelude.{Result, IfOk, OnOk}
use Rattle.sqlite.specs.Store as store
use Rattle.sqlite.specs.State.{State, Executes}
use Rattle.sqlite.specs.declared.transaction.Transaction.{Transaction}
use Rattle.sqlite.proofs.InsideLemmas.{keeps_then}
use Rattle.ftd_store.specs.declared.faults.StoreFault.{StoreFault}
use Rattle.ftd_sql.specs.States.{within}
use Rattle.ftd_sql.proofs.Controls.{keeps_self, crash_none, crash_then}
use Rattle.ftd_sql.specs.declared.TableName.{TableName}
use Rattle.ftd_sql.proofs.IndexTexts.{Indexes, indexes}
use Rattle.ftd_setup.specs.Steps.{Steps}
use Rattle.ftd_setup.specs.Versions.{KeepsRows}

module _ {S : Type 0} {g : store.Ghosts S} where
  -- nothing was done yet
  pub steps_none : {A : Type 0} {tx : Transaction S} {x : A} {Does : A → State → State → Type 0}
      → Does x (within g tx) (within g tx) → Steps g tx tx (Ok x) Does
  steps_none {tx = tx} h = record {
    same = refl;
    mode = λ clean. refl;
    kept = λ clean. keeps_self (within g tx);
    crash = crash_none (within g tx);
    does = λ clean. h;
  }

  -- one more step, which may fail
  pub steps_then : {A B : Type 0} {a b c : Transaction S} {x : A} {r : Result B StoreFault}
      {P : A → State → State → Type 0} {Q R : B → State → State → Type 0}
      → Steps g a b (Ok x) P → Steps g b c r Q → ((y : B) → P x (within g a) (within g b)
      → Q y (within g b) (within g c) → R y (within g a) (within g c)) → Steps g a c r R
  steps_then {B = B} {a = a} {b = b} {c = c} {x = x} {r = r} {P = P} {Q = Q} {R = R} p q both =
      record {
        same = q.same ∙ p.same;
        mode = λ clean. on r (p.mode (omega (arith, q.crash.clean))) (q.mode clean);
        kept = λ clean. keeps_then (within g a) (within g b) (within g c)
            (p.kept (omega (arith, q.crash.clean))) (q.kept clean);
        crash = crash_then (within g a) (within g b) (within g c) p.crash q.crash;
        does = λ clean. go r (p.does (omega (arith, q.crash.clean))) (q.does clean);
      }
    where
      on : (r : Result B StoreFault) → (within g b).in_transaction ≡ (within g a).in_transaction
          → OnOk r ((within g c).in_transaction ≡ (within g b).in_transaction)
          → OnOk r ((within g c).in_transaction ≡ (within g a).in_transaction)
      on (Ok y) h k = k ∙ h
      on (Err e) h k = tt

      go : (r : Result B StoreFault) → P x (within g a) (within g b)
          → IfOk r (λ y. Q y (within g b) (within g c))
          → IfOk r (λ y. R y (within g a) (within g c))
      go (Ok y) h k = both y h k
      go (Err e) h k = tt

  -- what was done in other words
  pub steps_so : {A B : Type 0} {a b : Transaction S} {x : A} {y : B}
      {P : A → State → State → Type 0} {Q : B → State → State → Type 0} → Steps g a b (Ok x) P
      → (P x (within g a) (within g b) → Q y (within g a) (within g b)) → Steps g a b (Ok y) Q
  steps_so p so = record {
    same = p.same;
    mode = p.mode;
    kept = p.kept;
    crash = p.crash;
    does = λ clean. so (p.does clean);
  }

  -- two steps that were done
  pub steps_both : {A B C : Type 0} {a b c : Transaction S} {x : A} {y : B}
      {P : A → State → State → Type 0} {Q : B → State → State → Type 0} (z : C)
      (R : C → State → State → Type 0) → Steps g a b (Ok x) P → Steps g b c (Ok y) Q
      → (P x (within g a) (within g b) → Q y (within g b) (within g c)
      → R z (within g a) (within g c)) → Steps g a c (Ok z) R
  steps_both {a = a} {b = b} {c = c} z R p q both = record {
    same = q.same ∙ p.same;
    mode = λ clean. q.mode clean ∙ p.mode (omega (arith, q.crash.clean));
    kept = λ clean. keeps_then (within g a) (within g b) (within g c)
        (p.kept (omega (arith, q.crash.clean))) (q.kept clean);
    crash = crash_then (within g a) (within g b) (within g c) p.crash q.crash;
    does = λ clean. both (p.does (omega (arith, q.crash.clean))) (q.does clean);
  }

  -- a step that made an index, and one where there was none to make
  pub steps_indexed : {n : TableName} {text : List ℕ} {a b : Transaction S} {count : ℕ}
      → Indexes n text
      → Steps g a b (Ok count) (λ count old new. Executes text [] old new (Ok count))
      → Steps {A = Unit {0}} g a b (Ok tt) (λ _ old new. KeepsRows old.now new.now)
  steps_indexed i p = steps_so p (λ ran t stands. indexes _ _ i _ _ _ t stands ran)

  pub steps_kept : {a : Transaction S}
      → Steps {A = Unit {0}} g a a (Ok tt) (λ _ old new. KeepsRows old.now new.now)
  steps_kept = steps_none (λ t stands. (stands, λ name u at place. (place, refl)))
