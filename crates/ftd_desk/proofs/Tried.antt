-- Requests that are answered in a transaction which is dropped.
use Rattle.std.proofs.Common.{subst, refl, inr, IsTrue, Ok, Err, List, []}
use Rattle.std.proofs.lemmas.List.Elements.{All-nil}
use Rattle.sqlite.specs.State as database
use Rattle.sqlite.specs.State.{HasCleanDisk, KeepsCommit}
use Rattle.ftd_sql.specs.States.{CrashKeeps}
use Rattle.ftd_sql.proofs.Controls.{crash_none, crash_then}
use Rattle.ftd_store.specs.Ends.{Begins, LeavesRows, EndsAs}
use Rattle.ftd_machine.specs.State.{State}
use Rattle.ftd_machine.specs.Checks.{Answer}
use Rattle.ftd_machine.specs.Runs.{IsFault}
use Rattle.ftd_machine.specs.declared.replies.Refusal.{Refusal}
use Rattle.ftd_machine.specs.declared.replies.Refusal.TheVariants as refusal
use Rattle.ftd_machine.specs.declared.requests.Request.{Request}
use Rattle.ftd_entries.specs.Words.{IsKept}
use Rattle.ftd_desk.specs.Books.{IsKnown}
use Rattle.ftd_desk.specs.Desks.{Held, Keeps}
use Rattle.ftd_desk.specs.Telling.{StandsAsBefore}
use Rattle.ftd_desk.specs.Trials.{Tries}
use Rattle.ftd_desk.specs.Words.{AreSteps, HandlesTogether}
use Rattle.ftd_desk.specs.declared.known.Known.{Known}
use Rattle.ftd_desk.proofs.Handled.{IsRefusedBy, together_dropped, together_still}
use Rattle.ftd_desk.proofs.Handled.{together_unbegun}
use Rattle.ftd_desk.proofs.Handling.{clean_at, kept_at, was_open}

-- a list of which nothing was kept leaves the desk as it was
as_before : (old new : Held) (requests : List Request) (why : Refusal)
    → HandlesTogether old new requests (Err why) → CrashKeeps old.db new.db
    → StandsAsBefore old new
as_before old new requests why h crash = record {
  honest = h.honest;
  opens = h.opens;
  stands = λ clean is_open s keeps.
      let done = h.answered clean s keeps in
      subst (λ (end : State). Keeps new end) done.1.1 (done.2 is_open);
  crash = crash;
}

-- a fault
fault_tried : (old new : Held) (requests : List Request) (why : Refusal)
    → HandlesTogether old new requests (Err why) → CrashKeeps old.db new.db
    → Tries old new requests (Err why)
fault_tried old new requests why h crash = record {
  stands = as_before old new requests why h crash;
  answered = λ clean s keeps. let done = h.answered clean s keeps in (done.0, done.1);
  shut = h.shut;
}

-- nothing was touched
pub as_it_was : (old : Held) → StandsAsBefore old old
as_it_was old = record {
  honest = λ clean. clean;
  opens = λ clean is_open. is_open;
  stands = λ clean is_open s keeps. keeps;
  crash = crash_none old.db;
}

-- there was no request
pub tries_none : (old : Held) → Tries old old [] (Ok [])
tries_none old = record {
  stands = as_it_was old;
  answered = λ clean s keeps. (s, refl);
  shut = λ clean closed. All-nil IsFault;
}

module _ (requests : List Request) (fault : Refusal) (is_fault : IsRefusedBy fault) where
  -- nothing was touched
  pub tries_still : (old : Held) → Tries old old requests (Err fault)
  tries_still old = fault_tried old old requests fault (together_still requests fault is_fault old)
      (crash_none old.db)

  -- no transaction began, and what was known is forgotten
  pub tries_unbegun : (old new : Held) → CrashKeeps old.db new.db
      → (HasCleanDisk new.db → LeavesRows old.db new.db) → ((s : State) → IsKnown new.known s)
      → Tries old new requests (Err fault)
  tries_unbegun old new crash left forgotten =
      fault_tried old new requests fault
      (together_unbegun requests fault is_fault old new crash left forgotten) crash

-- the transaction was dropped, and what was known is forgotten
module _ (old new : Held) (b m : database.State) (requests : List Request)
    (entered : CrashKeeps old.db b) (begun : HasCleanDisk b → Begins old.db b)
    (crash : CrashKeeps b m) (kept : HasCleanDisk m → KeepsCommit b m)
    (undone : HasCleanDisk new.db → IsTrue new.db.is_open → EndsAs new.db m.committed)
    (left : CrashKeeps m new.db)
    (opens : HasCleanDisk new.db → IsTrue new.db.is_open → IsTrue m.is_open)
    (forgotten : (s : State) → IsKnown new.known s) where
  leaves : CrashKeeps old.db new.db
  leaves = crash_then old.db b new.db entered (crash_then b m new.db crash left)

  -- there was a fault
  pub tries_dropped : (fault : Refusal) → IsRefusedBy fault → Tries old new requests (Err fault)
  tries_dropped fault is_fault =
      fault_tried old new requests fault
      (together_dropped old new b m requests entered begun crash kept fault is_fault undone left
      opens forgotten) leaves

  -- the requests were answered
  pub tries_answered : (answers : List Answer) (later : Known)
      → (HasCleanDisk m → (s : State) → IsKept b.now s → IsKnown old.known s → (end : State)
      × AreSteps s requests answers end × IsKept m.now end × IsTrue m.is_open × IsKnown later end)
      → Tries old new requests (Ok answers)
  tries_answered answers later serves = record {
    stands = (tries_dropped refusal.Store (inr refl)).stands;
    answered = λ clean s keeps.
        let clean_m = clean_at m new.db (λ _. ⊥) left clean in
        let done = serves clean_m s
        (kept_at old.db b m new.db entered begun crash kept clean_m s keeps.rests) keeps.known in
        (done.0, done.1);
    shut = λ clean closed. absurd (closed (was_open old.db b m new.db entered begun crash kept
        (clean_at m new.db (λ _. ⊥) left clean)));
  }
