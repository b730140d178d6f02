-- A call of a transaction that goes on, or gives up.
use Rattle.std.specs.Borrow.{MutBor}
use Rattle.ftd_store.specs.declared.store.Store.{Store}
use Rattle.std.proofs.Common.{refl, false, ◌≡◌, Result, Ok, Err, sym, subst, ◌∙◌, arith}
use Rattle.std.proofs.lemmas.Bool.{false≢true}
use Rattle.sqlite.specs.Store as store
use Rattle.sqlite.specs.State.{State, KeepsCommit, HasCleanDisk}
use Rattle.sqlite.proofs.InsideLemmas.{keeps_then}
use Rattle.ftd_sql.specs.States.{CrashKeeps}
use Rattle.ftd_store.specs.declared.faults.StoreFault.{StoreFault}
use Rattle.ftd_store.specs.declared.tx.Tx.{Tx}
use Rattle.ftd_store.specs.Seen.{seen, shown}
use Rattle.ftd_store.specs.Frame.{HasFailed, Frame, Calls, Writes}
use Rattle.ftd_sql.proofs.Controls.{crash_then}
use Rattle.ftd_sql.specs.declared.TableName.{TableName}
use Rattle.ftd_sql.specs.Standing.{Tables}
use Rattle.ftd_sql.proofs.OneOfAll.{stands_same, foreign_then}

module _ {S A B : Type 0} (g : store.Ghosts S) (old : Tx S) where
  -- what follows from its last step
  pub goes_on : (new : Tx S) (x : A) (y : B) → Frame g old new (Ok x) → Frame g old new (Ok y)
  goes_on new x y k = record {
    same = k.same;
    told = k.told;
    stopped = λ failed. absurd (false≢true (sym k.told.0 ∙ failed));
    stays = k.stays;
    kept = k.kept;
    crash = k.crash;
  }

  -- it gives up after a step
  pub gives_up : (mid new : Tx S) (x : A) (e : StoreFault) → Frame g old mid (Ok x)
      → new.store ≡ mid.store → HasFailed new → Frame {A = B} g old new (Err e)
  gives_up mid new x e k untouched failed = record {
    same = subst (λ s. s.ghost_name ≡ old.store.ghost_name) (sym untouched) k.same;
    told = failed;
    stopped = λ h. absurd (false≢true (sym k.told.0 ∙ h));
    stays = λ clean. tt;
    kept = subst (λ s. HasCleanDisk (seen g s.now) → KeepsCommit (shown g old) (seen g s.now))
        (sym untouched) k.kept;
    crash = subst (λ s. CrashKeeps (shown g old) (seen g s.now)) (sym untouched) k.crash;
  }

-- a step of the engine failed, and the call gives up
pub fails : {S A : Type 0} (g : store.Ghosts S) (old new : Tx S) (left : MutBor (Store S))
    (result : Result A StoreFault) (e : StoreFault) → result ≡ Err e → new.store ≡ left
    → HasFailed new → left.ghost_name ≡ old.store.ghost_name → old.failed ≡ false
    → (HasCleanDisk (seen g left.now) → KeepsCommit (shown g old) (seen g left.now))
    → CrashKeeps (shown g old) (seen g left.now) → Frame g old new result
fails {A = A} g old new left result e is untouched failed same sound kept crash =
    subst (Frame {A = A} g old new) (sym is) (record {
      same = subst (λ s. s.ghost_name ≡ old.store.ghost_name) (sym untouched) same;
      told = failed;
      stopped = λ h. absurd (false≢true (sym sound ∙ h));
      stays = λ clean. tt;
      kept = subst (λ s. HasCleanDisk (seen g s.now) → KeepsCommit (shown g old) (seen g s.now))
          (sym untouched) kept;
      crash = subst (λ s. CrashKeeps (shown g old) (seen g s.now)) (sym untouched) crash;
    })

-- two calls, one after the other
pub then_goes : {S A B C : Type 0} {g : store.Ghosts S} {old mid new : Tx S} {x : A} {y : B} (z : C)
    → Frame g old mid (Ok x) → Frame g mid new (Ok y) → Frame g old new (Ok z)
then_goes {g = g} {old = old} {mid = mid} {new = new} z p q = record {
  same = q.same ∙ p.same;
  told = (p.told.0, q.told.1);
  stopped = λ failed. absurd (false≢true (sym p.told.0 ∙ failed));
  stays = λ clean.
      let first = p.stays (omega (arith, q.crash.clean)) in
      let second = q.stays clean in
      record {
        was_open = first.was_open;
        is_open = second.is_open;
        now_is = refl;
        committed_is =
            second.committed_is ∙ first.committed_is;
        mode = second.mode ∙ first.mode;
      };
  kept = λ clean. keeps_then (shown g old) (shown g mid) (shown g new)
      (p.kept (omega (arith, q.crash.clean))) (q.kept clean);
  crash = crash_then (shown g old) (shown g mid) (shown g new) p.crash q.crash;
}

pub then_fails : {S A B C : Type 0} {g : store.Ghosts S} {old mid new : Tx S} {x : A}
    {e : StoreFault} → Frame g old mid (Ok x) → Frame {A = B} g mid new (Err e)
    → Frame {A = C} g old new (Err e)
then_fails {g = g} {old = old} {mid = mid} {new = new} p q = record {
  same = q.same ∙ p.same;
  told = q.told;
  stopped = λ failed. absurd (false≢true (sym p.told.0 ∙ failed));
  stays = λ clean. tt;
  kept = λ clean. keeps_then (shown g old) (shown g mid) (shown g new)
      (p.kept (omega (arith, q.crash.clean))) (q.kept clean);
  crash = crash_then (shown g old) (shown g mid) (shown g new) p.crash q.crash;
}

-- two calls, whatever comes of the second
pub then_call : {S A B : Type 0} {g : store.Ghosts S} {old mid new : Tx S} {x : A}
    {result : Result B StoreFault} → Frame g old mid (Ok x) → Frame g mid new result
    → Frame g old new result
then_call {result = Ok y} p q = then_goes y p q
then_call {result = Err e} p q = then_fails p q

-- a call that fails after another
pub fails_after : {S A B C : Type 0} {g : store.Ghosts S} {old mid new : Tx S} {x : A}
    {e : StoreFault} {result : Result C StoreFault} {Does : C → State → State → Tables → Type 0}
    → result ≡ Err e → Frame g old mid (Ok x) → Frame {A = B} g mid new (Err e)
    → Calls g old new result Does
fails_after {C = C} {g = g} {old = old} {new = new} {Does = Does} is p q =
    subst (λ r. Calls {A = C} g old new r Does) (sym is)
    (record { frame = then_fails p q; does = λ clean. tt })

pub call_fails_after : {S A B C : Type 0} {g : store.Ghosts S} {old mid new : Tx S} {x : A}
    {e : StoreFault} {result : Result C StoreFault} {First : A → State → State → Tables → Type 0}
    {Second : B → State → State → Tables → Type 0} {Does : C → State → State → Tables → Type 0}
    → result ≡ Err e → Calls g old mid (Ok x) First → Calls g mid new (Err e) Second
    → Calls g old new result Does
call_fails_after is p q = fails_after is p.frame q.frame

-- two changes, one after the other
pub then_writes : {S A B C : Type 0} {g : store.Ghosts S} {old mid new : Tx S} {x : A} {y : B}
    {f h : Tables → Tables} (z : C) (both : Tables → Tables)
    → Writes g old mid (Ok x) f → Writes g mid new (Ok y) h
    → ((t : Tables) (n : TableName) → h (f t) n ≡ both t n) → Writes g old new (Ok z) both
then_writes {g = g} {old = old} {mid = mid} {new = new} {f = f} {h = h} z both p q same = record {
  frame = then_goes z p.frame q.frame;
  does = λ clean t stands.
      let one = p.does (omega (arith, q.frame.crash.clean)) t stands in
      let two = q.does clean (f t) one.0 in (
        stands_same (shown g new).now (h (f t)) (both t) (same t) two.0,
        foreign_then (shown g old).now (shown g mid).now (shown g new).now one.1 two.1,
      );
}

-- the same change in other words
pub writes_same : {S A : Type 0} {g : store.Ghosts S} {old new : Tx S} {x : A}
    {f : Tables → Tables} (h : Tables → Tables) → Writes g old new (Ok x) f
    → ((t : Tables) (n : TableName) → f t n ≡ h t n) → Writes g old new (Ok x) h
writes_same {g = g} {new = new} {f = f} h p same = record {
  frame = p.frame;
  does = λ clean t stands. let one = p.does clean t stands in
      (stands_same (shown g new).now (f t) (h t) (same t) one.0, one.1);
}
