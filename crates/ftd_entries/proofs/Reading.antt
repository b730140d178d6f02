-- What two readings tell, one after the other, and a change of a row that is there.
use Rattle.std.proofs.Common.{◌≡◌, List, Result, Ok, Err, true}
use Rattle.std.specs.Prelude.{is_err}
use Rattle.sqlite.specs.State.{State}
use Rattle.sqlite.specs.Store as store
use Rattle.ftd_sql.specs.Standing.{Tables}
use Rattle.ftd_store.specs.declared.tx.Tx.{Tx}
use Rattle.ftd_store.specs.declared.faults.StoreFault.{StoreFault}
use Rattle.ftd_store.specs.Frame.{Calls, Frame, Reads, Writes, WritesOne, Rewrites}
use Rattle.ftd_store.proofs.Going.{fails_after, then_fails}
use Rattle.ftd_store.proofs.Telling.{reads_on, then_reads}
use Rattle.ftd_store.proofs.Turning.{gave_up_after, turns_then}

abbrev pub Both : {A B : Type 0} → (A → Tables → Type 0) → (B → Tables → Type 0) → A × B → Tables
    → Type 0
Both First Second found t = First found.0 t × Second found.1 t

pub both_read : {S A B : Type 0} {g : store.Ghosts S} {old mid new : Tx S} {x : A} {y : B}
    {First : A → Tables → Type 0} {Second : B → Tables → Type 0}
    → Reads g old mid (Ok x) First → Reads g mid new (Ok y) Second
    → Reads g old new (Ok (x, y)) (Both First Second)
both_read {x = x} {y = y} {First = First} {Second = Second} p q =
    then_reads (x, y) (Both First Second) p q (λ t first second. (first, second))

-- one reading tells two things
pub reads_too : {S A : Type 0} {g : store.Ghosts S} {old new : Tx S} {x : A}
    {First Second : A → Tables → Type 0}
    → Reads g old new (Ok x) First → Reads g old new (Ok x) Second
    → Reads g old new (Ok x) (λ y t. First y t × Second y t)
reads_too p q = record {
  frame = p.frame;
  does = λ clean t stands. let one = p.does clean t stands in
      ((one.0, (q.does clean t stands).0), one.1);
}

-- the row of a key is changed, which is there
pub one_written : {S A X : Type 0} {g : store.Ghosts S} {old new : Tx S} {x : A}
    {found : Tables → List X} {change : Tables → Tables}
    → WritesOne g old new (Ok x) found change → Writes g old new (Ok x) change
one_written w = record { frame = w.frame; does = λ clean t stands. (w.does clean t stands).1 }

-- what follows from what was read, whatever comes of it
pub reads_as : {S A : Type 0} {g : store.Ghosts S} {old new : Tx S} {result : Result A StoreFault}
    {Fact : A → Tables → Type 0} (More : A → Tables → Type 0) → Reads g old new result Fact
    → ((x : A) (t : Tables) → Fact x t → More x t) → Reads g old new result More
reads_as {result = Ok x} More r tells = reads_on x More r (tells x)
reads_as {result = Err e} More r tells = record { frame = r.frame; does = λ clean. tt }

-- two changes, one after the other, of which the second may fail
pub turn_then_turn : {S A B : Type 0} {g : store.Ghosts S} {old mid new : Tx S} {x : A}
    {result : Result B StoreFault} {First : A → Tables → Tables → Type 0}
    {Second : B → Tables → Tables → Type 0} (All : B → Tables → Tables → Type 0)
    → Rewrites g old mid (Ok x) First → Rewrites g mid new result Second
    → ((y : B) (t u v : Tables) → First x t u → Second y u v → All y t v)
    → Rewrites g old new result All
turn_then_turn {result = Ok y} All p q tells = turns_then y All p q (tells y)
turn_then_turn {result = Err e} All p q tells =
    record { frame = then_fails p.frame q.frame; does = λ clean. tt }

-- what follows from three readings, one after the other, and from four
module _ {S A B C : Type 0} {g : store.Ghosts S} {start one two three : Tx S} {a : A} {b : B}
    {c : C}
    {First : A → Tables → Type 0} {Second : B → Tables → Type 0} {Third : C → Tables → Type 0}
    (p : Reads g start one (Ok a) First) (q : Reads g one two (Ok b) Second)
    (r : Reads g two three (Ok c) Third) where
  pub three_told : {D : Type 0} (d : D) (More : D → Tables → Type 0)
      → ((t : Tables) → First a t → Second b t → Third c t → More d t)
      → Reads g start three (Ok d) More
  three_told d More tells =
      then_reads d More (both_read p q) r (λ t told third. tells t told.0 told.1 third)

  pub four_told : {D E : Type 0} {four : Tx S} {d : D} {Fourth : D → Tables → Type 0} (e : E)
      (More : E → Tables → Type 0) → Reads g three four (Ok d) Fourth
      → ((t : Tables) → First a t → Second b t → Third c t → Fourth d t → More e t)
      → Reads g start four (Ok e) More
  four_told e More last tells =
      then_reads e More (both_read (both_read p q) r) last
      (λ t told fourth. tells t told.0.0 told.0.1 told.1 fourth)

  -- a call that fails after them
  pub fails_after_three : {D E : Type 0} {four : Tx S} {e : StoreFault}
      {result : Result E StoreFault}
      {Does : E → State → State → Tables → Type 0} → result ≡ Err e
      → Frame {A = D} g three four (Err e) → Calls g start four result Does
  fails_after_three is failed = fails_after is (both_read (both_read p q) r).frame failed

  -- and one that gives up after four
  pub gives_up_after_four : {D E : Type 0} {four five : Tx S} {d : D}
      {Fourth : D → Tables → Type 0} {result : Result E StoreFault}
      {Does : E → State → State → Tables → Type 0} → Reads g three four (Ok d) Fourth
      → Frame g four five result → is_err result ≡ true → Calls g start five result Does
  gives_up_after_four last frame fails =
      gave_up_after (both_read (both_read (both_read p q) r) last).frame frame fails
