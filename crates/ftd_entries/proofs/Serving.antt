-- What follows of the calls of a request, one after the other.
use Rattle.std.proofs.Common.{Ok, sym, subst, arith}
use Rattle.sqlite.specs.State as database
use Rattle.sqlite.specs.Store as store
use Rattle.ftd_sql.specs.Standing.{Tables, Stands}
use Rattle.ftd_store.specs.declared.tx.Tx.{Tx}
use Rattle.ftd_store.specs.Frame.{Calls, Reads, Writes, Rewrites}
use Rattle.ftd_store.proofs.Going.{goes_on, then_goes}
use Rattle.ftd_store.proofs.Turning.{writes_turn}
use Rattle.ftd_machine.specs.State.{State}
use Rattle.ftd_machine.specs.Sound.{IsSound}
use Rattle.ftd_machine.specs.Checks.{Answer}
use Rattle.ftd_machine.specs.Step.{Step}
use Rattle.ftd_machine.specs.declared.requests.Request.{Request}
use Rattle.ftd_machine.proofs.Soundness.{step_sound}
use Rattle.ftd_entries.specs.Standing.{StandsFor}
use Rattle.ftd_entries.specs.Words.{Serves}

-- where the tables are so, the request is answered as the machine answers it
abbrev pub ServesWhere : (Tables → Type 0) → Request → Answer → database.State → database.State
    → Tables → Type 0
ServesWhere Where request answer before after t = Where t → Serves request answer before after t

module _ {S : Type 0} {g : store.Ghosts S} (Where : Tables → Type 0) (request : Request) where
  -- what was read decides, and the state stays
  pub served_looked_where : {A : Type 0} {old new : Tx S} {x : A} {Fact : A → Tables → Type 0}
      (answer : Answer) → Reads g old new (Ok x) Fact
      → ((t : Tables) (s : State) → StandsFor t s → IsSound s → Where t → Fact x t
      → Step s request answer s) → Calls g old new (Ok answer) (ServesWhere Where request)
  served_looked_where {old = old} {new = new} {x = x} answer r decides = record {
    frame = goes_on g old new x answer r.frame;
    does = λ clean t stands known s stands_for sound.
        let told = r.does clean t stands in (
          s,
          decides t s stands_for sound known told.0,
          record {
            tables = t;
            stands = subst (λ db. Stands db t) (sym told.1.0.now_is) stands;
            stands_for = stands_for;
            sound = sound;
          },
        );
  }

  -- what was read lets the change pass, which makes other rows, and these stand for the machine's
  -- next state
  pub served_turned_where : {A B : Type 0} {old mid new : Tx S} {x : A} {y : B}
      {Fact : A → Tables → Type 0} {So : B → Tables → Tables → Type 0} (answer : Answer)
      → Reads g old mid (Ok x) Fact → Rewrites g mid new (Ok y) So
      → ((t u : Tables) (s : State) → StandsFor t s → IsSound s → Where t → Fact x t → So y t u
      → (next : State) × Step s request answer next × StandsFor u next)
      → Calls g old new (Ok answer) (ServesWhere Where request)
  served_turned_where answer r w makes = record {
    frame = then_goes answer r.frame w.frame;
    does = λ clean t stands known s stands_for sound.
        let told = r.does (omega (arith, w.frame.crash.clean)) t stands in
        let made = w.does clean t (subst (λ db. Stands db t) (sym told.1.0.now_is) stands) in
        let step = makes t made.0 s stands_for sound known told.0 made.1 in (
          step.0,
          step.1,
          record {
            tables = made.0;
            stands = made.2.0;
            stands_for = step.2;
            sound = step_sound s request answer step.0 step.1 sound;
          },
        );
  }

  -- so where the rows that it makes are a function of those before
  pub served_changed_where : {A B : Type 0} {old mid new : Tx S} {x : A} {y : B}
      {Fact : A → Tables → Type 0} {change : Tables → Tables} (answer : Answer)
      → Reads g old mid (Ok x) Fact → Writes g mid new (Ok y) change
      → ((t : Tables) (s : State) → StandsFor t s → IsSound s → Where t → Fact x t → (next : State)
      × Step s request answer next × StandsFor (change t) next)
      → Calls g old new (Ok answer) (ServesWhere Where request)
  served_changed_where answer r w makes =
      served_turned_where answer r (writes_turn w)
      (λ t u s stands sound known told is. let step = makes t s stands sound known told in
      (step.0, step.1, subst (λ v. StandsFor v step.0) (sym is) step.2))

-- the same, whatever the tables are
abbrev Always : Tables → Type 0
Always t = Unit {0}

module _ {S : Type 0} {g : store.Ghosts S} (request : Request) where
  always : (old new : Tx S) (answer : Answer) → Calls g old new (Ok answer)
      (ServesWhere Always request) → Calls g old new (Ok answer) (Serves request)
  always old new answer c =
      record { frame = c.frame; does = λ clean t stands. c.does clean t stands tt }

  pub served_looked : {A : Type 0} {old new : Tx S} {x : A} {Fact : A → Tables → Type 0}
      (answer : Answer) → Reads g old new (Ok x) Fact
      → ((t : Tables) (s : State) → StandsFor t s → IsSound s → Fact x t → Step s request answer s)
      → Calls g old new (Ok answer) (Serves request)
  served_looked answer r decides =
      always _ _ answer (served_looked_where Always request answer r
      (λ t s stands sound _. decides t s stands sound))

  pub served_changed : {A B : Type 0} {old mid new : Tx S} {x : A} {y : B}
      {Fact : A → Tables → Type 0} {change : Tables → Tables} (answer : Answer)
      → Reads g old mid (Ok x) Fact → Writes g mid new (Ok y) change
      → ((t : Tables) (s : State) → StandsFor t s → IsSound s → Fact x t → (next : State)
      × Step s request answer next × StandsFor (change t) next)
      → Calls g old new (Ok answer) (Serves request)
  served_changed answer r w makes =
      always _ _ answer (served_changed_where Always request answer r w
      (λ t s stands sound _. makes t s stands sound))

  pub served_turned : {A B : Type 0} {old mid new : Tx S} {x : A} {y : B}
      {Fact : A → Tables → Type 0} {So : B → Tables → Tables → Type 0} (answer : Answer)
      → Reads g old mid (Ok x) Fact → Rewrites g mid new (Ok y) So
      → ((t u : Tables) (s : State) → StandsFor t s → IsSound s → Fact x t → So y t u
      → (next : State) × Step s request answer next × StandsFor u next)
      → Calls g old new (Ok answer) (Serves request)
  served_turned answer r w makes =
      always _ _ answer (served_turned_where Always request answer r w
      (λ t u s stands sound _. makes t u s stands sound))

-- what was read says of the answer what it tells of the tables, whatever they stand for
pub tells_by : {S A : Type 0} {g : store.Ghosts S} {old new : Tx S} {x : A}
    {Fact : A → Tables → Type 0} (answer : Answer) (Says : Answer → Tables → Type 0)
    → Reads g old new (Ok x) Fact → ((t : Tables) → Fact x t → Says answer t)
    → Calls g old new (Ok answer) (λ said before after t. Says said t)
tells_by {g = g} {old = old} {new = new} {x = x} answer Says r tells = record {
  frame = goes_on g old new x answer r.frame;
  does = λ clean t stands. tells t (r.does clean t stands).0;
}
