-- Calls that read rows or make others of them, one after the other.
use Rattle.std.proofs.Common.{◌≡◌, List, Result, Ok, Err, true, refl, sym, subst, arith}
use Rattle.std.specs.Prelude.{is_err}
use Rattle.sqlite.specs.Store as store
use Rattle.sqlite.specs.State.{State}
use Rattle.ftd_sql.specs.Standing.{Tables, Stands, KeepsForeign}
use Rattle.ftd_sql.proofs.OneOfAll.{foreign_then}
use Rattle.ftd_store.specs.declared.faults.StoreFault.{StoreFault}
use Rattle.ftd_store.specs.declared.tx.Tx.{Tx}
use Rattle.ftd_store.specs.Seen.{shown}
use Rattle.ftd_store.specs.Frame.{Frame, Calls, Reads, Writes, WritesOne, Rewrites}
use Rattle.ftd_store.proofs.Going.{goes_on, then_goes, then_call, then_fails}

module _ {S : Type 0} {g : store.Ghosts S} where
  -- a call that gives up
  pub gave_up : {A : Type 0} (old new : Tx S) (result : Result A StoreFault) (Does : A → State
      → State → Tables → Type 0) → Frame g old new result → is_err result ≡ true
      → Calls g old new result Does
  gave_up old new (Ok x) Does frame fails = absurd cc
  gave_up old new (Err e) Does frame fails = record { frame = frame; does = λ clean. tt }

  -- a call that gives up after another
  pub gave_up_after : {A B : Type 0} {old mid new : Tx S} {x : A} {result : Result B StoreFault}
      {Does : B → State → State → Tables → Type 0} → Frame g old mid (Ok x)
      → Frame g mid new result → is_err result ≡ true → Calls g old new result Does
  gave_up_after {old = old} {new = new} {result = result} {Does = Does} first frame fails =
      gave_up old new result Does (then_call first frame) fails

  -- a reading leaves the rows
  pub reads_turn : {A : Type 0} {old new : Tx S} {x : A} {Fact : A → Tables → Type 0}
      → Reads g old new (Ok x) Fact → Rewrites g old new (Ok x) (λ y t u. Fact y t × (u ≡ t))
  reads_turn {old = old} r = record {
    frame = r.frame;
    does = λ clean t stands.
        let told = r.does clean t stands in
        let same = told.1.0.now_is in (
          t,
          (told.0, refl),
          (
            subst (λ db. Stands db t) (sym same) stands,
            subst (λ db. KeepsForeign (shown g old).now db) (sym same)
                (λ name table at place other. (place, refl)),
          ),
        );
  }

  -- a change makes the rows that it says
  pub writes_turn : {A : Type 0} {old new : Tx S} {x : A} {change : Tables → Tables}
      → Writes g old new (Ok x) change → Rewrites g old new (Ok x) (λ y t u. u ≡ change t)
  writes_turn {change = change} w =
      record { frame = w.frame; does = λ clean t stands. (change t, refl, w.does clean t stands) }

  pub one_turns : {A X : Type 0} {old new : Tx S} {x : A} {found : Tables → List X}
      {change : Tables → Tables} → WritesOne g old new (Ok x) found change
      → Rewrites g old new (Ok x) (λ y t u. u ≡ change t)
  one_turns {change = change} w =
      record {
        frame = w.frame;
        does = λ clean t stands. (change t, refl, (w.does clean t stands).1);
      }

  -- what follows of a change
  pub turns_on : {A B : Type 0} {old new : Tx S} {x : A} {So : A → Tables → Tables → Type 0}
      (y : B) (More : B → Tables → Tables → Type 0) → Rewrites g old new (Ok x) So
      → ((t u : Tables) → So x t u → More y t u) → Rewrites g old new (Ok y) More
  turns_on {old = old} {new = new} {x = x} y More p tells = record {
    frame = goes_on g old new x y p.frame;
    does = λ clean t stands. let one = p.does clean t stands in (one.0, tells t one.0 one.1, one.2);
  }

  -- two changes, one after the other
  pub turns_then : {A B C : Type 0} {old mid new : Tx S} {x : A} {y : B}
      {First : A → Tables → Tables → Type 0} {Second : B → Tables → Tables → Type 0} (z : C)
      (Both : C → Tables → Tables → Type 0) → Rewrites g old mid (Ok x) First
      → Rewrites g mid new (Ok y) Second
      → ((t u v : Tables) → First x t u → Second y u v → Both z t v)
      → Rewrites g old new (Ok z) Both
  turns_then {old = old} {mid = mid} {new = new} z Both p q tells = record {
    frame = then_goes z p.frame q.frame;
    does = λ clean t stands.
        let one = p.does (omega (arith, q.frame.crash.clean)) t stands in
        let two = q.does clean one.0 one.2.0 in (
          two.0,
          tells t one.0 two.0 one.1 two.1,
          (
            two.2.0,
            foreign_then (shown g old).now (shown g mid).now (shown g new).now one.2.1
                two.2.1,
          ),
        );
  }

  -- rows are read, and then others made of them
  pub read_then_turn : {A B : Type 0} {old mid new : Tx S} {x : A} {result : Result B StoreFault}
      {Fact : A → Tables → Type 0} {So : B → Tables → Tables → Type 0}
      (All : B → Tables → Tables → Type 0) → Reads g old mid (Ok x) Fact
      → Rewrites g mid new result So
      → ((y : B) (t u : Tables) → Fact x t → So y t u → All y t u) → Rewrites g old new result All
  read_then_turn {result = Ok y} {So = So} All r w tells =
      turns_then y All (reads_turn r) w
      (λ t u v known so. tells y t v known.0 (subst (λ (z : Tables). So y z v) known.1 so))
  read_then_turn {result = Err e} All r w tells =
      record { frame = then_fails r.frame w.frame; does = λ clean. tt }
