-- A list of requests from its first call to its last.
use Rattle.std.proofs.Common.{◌≡◌, ◌⊎◌, inl, inr, refl, sym, subst, IsTrue, false, Ok, Err, List}
use Rattle.std.proofs.Common.{[], IfOk, Result}
use Rattle.std.proofs.lemmas.Bool.{true≢false}
use Rattle.std.proofs.lemmas.List.Elements.{All-nil}
use Rattle.sqlite.specs.Effect.{Database}
use Rattle.sqlite.specs.State as database
use Rattle.sqlite.specs.State.{HasCleanDisk, KeepsCommit, Survives, Shows}
use Rattle.sqlite.specs.Tree.{Trees}
use Rattle.sqlite.proofs.StateLemmas.{survives_then, survives_weaker}
use Rattle.ftd_sql.specs.States.{CrashKeeps}
use Rattle.ftd_sql.proofs.Controls.{crash_none, crash_then}
use Rattle.ftd_store.specs.Ends.{Begins, LeavesRows, EndsAs, CrashLeaves}
use Rattle.ftd_machine.specs.State.{State}
use Rattle.ftd_machine.specs.Checks.{Answer}
use Rattle.ftd_machine.specs.Runs.{IsFault}
use Rattle.ftd_machine.specs.declared.replies.Refusal.{Refusal}
use Rattle.ftd_machine.specs.declared.replies.Refusal.TheVariants as refusal
use Rattle.ftd_machine.specs.declared.requests.Request.{Request}
use Rattle.ftd_store.specs.declared.faults.StoreFault.{StoreFault}
use Rattle.ftd_store.specs.declared.faults.StoreFault.TheVariants as fault
use Rattle.ftd_questions.specs.Faults.{refusal_of}
use Rattle.ftd_entries.specs.Words.{IsKept}
use Rattle.ftd_desk.specs.Books.{IsKnown}
use Rattle.ftd_desk.specs.Desks.{Held, Keeps}
use Rattle.ftd_desk.specs.Words.{AreSteps, MayLeaveAll, HandlesTogether}
use Rattle.ftd_desk.specs.declared.known.Known.{Known}
use Rattle.ftd_desk.proofs.Handling.{rests_again, clean_at, kept_at, undone_rests, before, was_open}
use Rattle.ftd_desk.proofs.Handling.{committed_rests}

-- a fault: there was no memory, or the store failed
abbrev pub IsRefusedBy : Refusal → Type 0
IsRefusedBy fault = (fault ≡ refusal.Memory) ⊎ (fault ≡ refusal.Store)

pub refused : (fault : StoreFault) → IsRefusedBy (refusal_of fault)
refused fault.Memory = inl refl
refused fault.Failed = inr refl

as_answer : (fault : Refusal) → IsRefusedBy fault → IsFault (Err fault)
as_answer fault (inl memory) = inl (rw memory refl)
as_answer fault (inr store) = inr (rw store refl)

-- what a crash may leave of a list of requests
abbrev pub MayLeaveAllOf : Held → List Request → Result (List Answer) Refusal → Trees → Type 0
MayLeaveAllOf old requests result left = IsTrue old.db.is_open × ((s : State) → Keeps old s
    → MayLeaveAll s requests result left)

-- nothing was touched, and there was no request
pub together_none : (old : Held) → HandlesTogether old old [] (Ok [])
together_none old = record {
  honest = λ clean. clean;
  opens = λ clean is_open. is_open;
  answered = λ clean s keeps. (s, refl, λ is_open. keeps);
  shut = λ clean closed. All-nil IsFault;
  crash = survives_weaker old.db old.db (λ _. ⊥) (MayLeaveAllOf old [] (Ok []))
      (λ clean db none. absurd none) (crash_none old.db);
  lasts = λ clean change. absurd (true≢false (sym change));
}

module _ (requests : List Request) (fault : Refusal) (is_fault : IsRefusedBy fault) where
  -- nothing was touched
  pub together_still : (old : Held) → HandlesTogether old old requests (Err fault)
  together_still old = record {
    honest = λ clean. clean;
    opens = λ clean is_open. is_open;
    answered = λ clean s keeps. (s, (is_fault, refl), λ is_open. keeps);
    shut = λ clean closed. as_answer fault is_fault;
    crash = survives_weaker old.db old.db (λ _. ⊥) (MayLeaveAllOf old requests (Err fault))
        (λ clean db none. absurd none) (crash_none old.db);
    lasts = λ clean change. absurd (true≢false (sym change));
  }

  -- no transaction began, and what was known is forgotten
  pub together_unbegun : (old new : Held) → CrashKeeps old.db new.db
      → (HasCleanDisk new.db → LeavesRows old.db new.db) → ((s : State) → IsKnown new.known s)
      → HandlesTogether old new requests (Err fault)
  together_unbegun old new crash left forgotten = record {
    honest = clean_at old.db new.db (λ _. ⊥) crash;
    opens = λ clean is_open. (left clean).was_open is_open;
    shut = λ clean closed. as_answer fault is_fault;
    answered = λ clean s keeps. (
      s,
      (is_fault, refl),
      λ is_open. record {
        rests = rests_again old.db new.db s keeps.rests ((left clean).now_is is_open)
            ((left clean).committed_is is_open);
        known = forgotten s;
      },
    );
    crash = survives_weaker old.db new.db (λ _. ⊥) (MayLeaveAllOf old requests (Err fault))
        (λ clean db none. absurd none) crash;
    lasts = λ clean change. absurd (true≢false (sym change));
  }

module _ (old new : Held) (b m : database.State) (requests : List Request)
    (entered : CrashKeeps old.db b) (begun : HasCleanDisk b → Begins old.db b)
    (crash : CrashKeeps b m) (kept : HasCleanDisk m → KeepsCommit b m) where
  -- there was a fault, and the transaction was dropped
  pub together_dropped : (fault : Refusal) → IsRefusedBy fault
      → (HasCleanDisk new.db → IsTrue new.db.is_open → EndsAs new.db m.committed)
      → CrashKeeps m new.db → (HasCleanDisk new.db → IsTrue new.db.is_open → IsTrue m.is_open)
      → ((s : State) → IsKnown new.known s) → HandlesTogether old new requests (Err fault)
  together_dropped fault is_fault undone left opens forgotten = record {
    honest = λ clean. before old.db b m new.db entered begun crash kept
        (clean_at m new.db (λ _. ⊥) left clean);
    opens = λ clean is_open. was_open old.db b m new.db entered begun crash kept
        (clean_at m new.db (λ _. ⊥) left clean);
    shut = λ clean closed. as_answer fault is_fault;
    answered = λ clean s keeps.
        let clean_m = clean_at m new.db (λ _. ⊥) left clean in (
          s,
          (is_fault, refl),
          λ is_open. record {
            rests = undone_rests old.db b m new.db entered begun crash kept clean_m
                (opens clean is_open) (undone clean is_open) s keeps.rests;
            known = forgotten s;
          },
        );
    crash = survives_weaker old.db new.db (λ _. ⊥) (MayLeaveAllOf old requests (Err fault))
        (λ clean db none. absurd none)
        (crash_then old.db b new.db entered (crash_then b m new.db crash left));
    lasts = λ clean change. absurd (true≢false (sym change));
  }

  module _ (answers : List Answer) (later : Known)
      (serves : HasCleanDisk m → (s : State) → IsKept b.now s → IsKnown old.known s → (end : State)
      × AreSteps s requests answers end × IsKept m.now end × IsTrue m.is_open × IsKnown later end)
      (commit : Survives m new.db (λ left. left ≡ m.now.trees)) where
    clean_m : HasCleanDisk new.db → HasCleanDisk m
    clean_m clean = clean_at m new.db (λ left. left ≡ m.now.trees) commit clean

    done_at : HasCleanDisk m → (s : State) → Keeps old s → (end : State)
        × AreSteps s requests answers end × IsKept m.now end × IsTrue m.is_open × IsKnown later end
    done_at clean s keeps =
        serves clean s (kept_at old.db b m new.db entered begun crash kept clean s keeps.rests)
        keeps.known

    -- what a crash may leave of the commit
    commit_leaves : (result : Result (List Answer) Refusal) → IfOk result (λ given. given ≡ answers)
        → Survives old.db new.db (MayLeaveAllOf old requests result)
    commit_leaves result told =
        survives_then old.db m new.db (λ _. ⊥) (λ left. left ≡ m.now.trees)
        (MayLeaveAllOf old requests result) (λ clean db none. absurd none)
        (λ clean db is. (
          was_open old.db b m new.db entered begun crash kept (clean_m clean),
          λ s keeps.
              (let done = done_at (clean_m clean) s keeps in
              record {
                answers = answers;
                told = told;
                end = done.0;
                steps = done.1;
                db = m.now;
                trees = is;
                kept = done.2;
              }),
        ))
        (crash_then old.db b m entered crash) commit

    -- the commit failed, and what was known is forgotten
    pub together_uncommitted : (HasCleanDisk new.db → IsTrue new.db.is_open
        → EndsAs new.db m.committed) → ((s : State) → IsKnown new.known s)
        → HandlesTogether old new requests (Err refusal.Store)
    together_uncommitted undone forgotten = record {
      honest = λ clean. before old.db b m new.db entered begun crash kept (clean_m clean);
      opens = λ clean is_open. was_open old.db b m new.db entered begun crash kept (clean_m clean);
      shut = λ clean closed. inr refl;
      answered = λ clean s keeps. (
        s,
        (inr refl, refl),
        λ is_open. record {
          rests = undone_rests old.db b m new.db entered begun crash kept (clean_m clean)
              (done_at (clean_m clean) s keeps).3 (undone clean is_open) s keeps.rests;
          known = forgotten s;
        },
      );
      crash = commit_leaves (Err refusal.Store) tt;
      lasts = λ clean change. absurd (true≢false (sym change));
    }

    -- the commit succeeded
    pub together_committed : (HasCleanDisk new.db → Shows m new.db m.now m.now false)
        → (HasCleanDisk new.db → CrashLeaves new.db m.now) → new.known ≡ later
        → HandlesTogether old new requests (Ok answers)
    together_committed shown last known = record {
      honest = λ clean. before old.db b m new.db entered begun crash kept (clean_m clean);
      opens = λ clean is_open. was_open old.db b m new.db entered begun crash kept (clean_m clean);
      shut = λ clean closed. absurd (closed (was_open old.db b m new.db entered begun crash kept
          (clean_m clean)));
      answered = λ clean s keeps.
          let done = done_at (clean_m clean) s keeps in (
            done.0,
            done.1,
            λ is_open. record {
              rests = committed_rests m new.db done.0 (shown clean) done.2;
              known = subst (λ c. IsKnown c done.0) (sym known) done.4;
            },
          );
      crash = commit_leaves (Ok answers) refl;
      lasts = λ clean changed. (
        (shown clean).is_open,
        subst (λ (db : Database). CrashLeaves new.db db) (sym (shown clean).now_is) (last clean),
      );
    }
