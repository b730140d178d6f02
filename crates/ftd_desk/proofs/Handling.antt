-- A request from its first call to its last.
use Rattle.std.proofs.Common.{◌≡◌, ◌⊎◌, inl, inr, refl, sym, subst, ◌∙◌, arith, ℕ, List, [], IsTrue}
use Rattle.std.proofs.Common.{true, false, Ok, Err, Result}
use Rattle.std.specs.Prelude.{is_err, OnOk, OnErr}
use Rattle.std.proofs.lemmas.Bool.{true≢false}
use Rattle.sqlite.specs.Effect.{Database}
use Rattle.sqlite.specs.State as database
use Rattle.sqlite.specs.State.{HasCleanDisk, KeepsCommit, Survives, Shows}
use Rattle.sqlite.specs.Tree.{Trees}
use Rattle.sqlite.proofs.StateLemmas.{survives_then, survives_weaker}
use Rattle.ftd_sql.specs.States.{CrashKeeps}
use Rattle.ftd_sql.proofs.Controls.{crash_none, crash_then, undone_all}
use Rattle.ftd_store.specs.Ends.{Begins, LeavesRows, EndsAs, CrashLeaves}
use Rattle.ftd_machine.specs.State.{State}
use Rattle.ftd_machine.specs.Checks.{Answer}
use Rattle.ftd_machine.specs.Step.{Step}
use Rattle.ftd_machine.specs.Laws.{is_change, runs_of, payments_of}
use Rattle.ftd_machine.specs.Runs.{Goes, IsFault}
use Rattle.ftd_machine.specs.declared.replies.Refusal.TheVariants as refusal
use Rattle.ftd_machine.specs.declared.requests.Request.{Request}
use Rattle.ftd_machine.proofs.Leaving.{leaves}
use Rattle.sqlite.specs.Store as store
use Rattle.ftd_store.specs.declared.faults.StoreFault.{StoreFault}
use Rattle.ftd_store.specs.declared.tx.Tx.{Tx}
use Rattle.ftd_store.specs.Seen.{shown}
use Rattle.ftd_store.specs.Frame.{Calls}
use Rattle.ftd_entries.specs.Words.{IsKept}
use Rattle.ftd_questions.specs.Faults.{refusal_of}
use Rattle.ftd_questions.proofs.RowsTold.{is_fault}
use Rattle.ftd_desk.specs.Counted.{AreRight}
use Rattle.ftd_desk.specs.Books.{IsKnown, ServesKnown}
use Rattle.ftd_desk.specs.Desks.{Held, Rests, Keeps}
use Rattle.ftd_desk.specs.Words.{MayLeave, Handles}
use Rattle.ftd_desk.specs.declared.kept.Kept.{Kept}
use Rattle.ftd_desk.specs.declared.known.Known.{Known}
use Rattle.ftd_desk.specs.declared.listed.Answered.{Answered}
use Rattle.ftd_desk.proofs.Booking.{no_books}

-- what a crash may leave of a request
abbrev pub MayLeaveOf : Held → Request → Trees → Type 0
MayLeaveOf old request left = IsTrue old.db.is_open × ((s : State) → Keeps old s
    → MayLeave s request left)

-- what a request did within its transaction, and what is known before and after it
pub record ServesBy (old new : database.State) (known later : Known) (request : Request)
    (answer : Answer) : Type 0 where
  pub crash : CrashKeeps old new
  pub kept : HasCleanDisk new → KeepsCommit old new
  pub answered : HasCleanDisk new → (s : State) → IsKept old.now s → IsKnown known s
      → (IsFault answer × IsKnown later s) ⊎ ((next : State) × Step s request answer next
      × IsKept new.now next × IsTrue new.is_open × IsKnown later next)

-- nothing that is known is right of each state
none_right : (count_of : List ℕ → State → ℕ) (numbers : Kept ℕ) (s : State)
    → numbers.entries.items ≡ [] → AreRight count_of numbers s
none_right count_of numbers s none account = rw none tt

pub none_known : (known : Known) → known.counts.runs.entries.items ≡ []
    → known.counts.payments.entries.items ≡ [] → known.books.entries.items ≡ [] → (s : State)
    → IsKnown known s
none_known known runs payments books s = record {
  counts = record {
    runs = none_right runs_of known.counts.runs s runs;
    payments = none_right payments_of known.counts.payments s payments;
  };
  books = no_books known.books s books;
}

-- the database is the same again
pub rests_again : (old new : database.State) (s : State) → Rests old s → new.now ≡ old.now
    → new.committed ≡ old.committed → Rests new s
rests_again old new s r now committed = record {
  kept = subst (λ (db : Database). IsKept db s) (sym now) r.kept;
  committed = committed ∙ r.committed ∙ sym now;
}

pub clean_at : (a b : database.State) (P : Trees → Type 0) → Survives a b P → HasCleanDisk b
    → HasCleanDisk a
clean_at a b P crash clean = omega (arith, crash.clean)

not_fault : (answer : Answer) → IsFault answer → is_change answer ≡ true → ⊥
not_fault answer (inl memory) change = true≢false (sym (rw memory at change))
not_fault answer (inr store) change = true≢false (sym (rw store at change))

pub no_change : (answer : Answer) → IsFault answer → is_change answer ≡ false
no_change answer (inl memory) = rw memory refl
no_change answer (inr store) = rw store refl

-- nothing was touched
pub handles_still : (old : Held) (request : Request) (answer : Answer) → IsFault answer
    → Handles old old request answer
handles_still old request answer fault = record {
  honest = λ clean. clean;
  opens = λ clean is_open. is_open;
  answered = λ clean s keeps. (s, inr (fault, refl), λ is_open. keeps);
  shut = λ clean closed. fault;
  crash = survives_weaker old.db old.db (λ _. ⊥) (MayLeaveOf old request)
      (λ clean db none. absurd none) (crash_none old.db);
  lasts = λ clean change. absurd (not_fault answer fault change);
  keeps = λ same other. crash_none old.db;
}

-- no transaction began, and what was known is forgotten
pub handles_unbegun : (old new : Held) (request : Request) (answer : Answer)
    → CrashKeeps old.db new.db → (HasCleanDisk new.db → LeavesRows old.db new.db)
    → ((s : State) → IsKnown new.known s) → IsFault answer
    → Handles old new request answer
handles_unbegun old new request answer crash left forgotten fault = record {
  honest = clean_at old.db new.db (λ _. ⊥) crash;
  opens = λ clean is_open. (left clean).was_open is_open;
  shut = λ clean closed. fault;
  answered = λ clean s keeps. (
    s,
    inr (fault, refl),
    λ is_open. record {
      rests = rests_again old.db new.db s keeps.rests ((left clean).now_is is_open)
          ((left clean).committed_is is_open);
      known = forgotten s;
    },
  );
  crash = survives_weaker old.db new.db (λ _. ⊥) (MayLeaveOf old request)
      (λ clean db none. absurd none) crash;
  lasts = λ clean change. absurd (not_fault answer fault change);
  keeps = λ same other. crash;
}

-- a transaction, from what was seen before it to its end
module _ (a b m e : database.State) (entered : CrashKeeps a b) (begun : HasCleanDisk b → Begins a b)
    (crash : CrashKeeps b m) (kept : HasCleanDisk m → KeepsCommit b m) where
  pub kept_at : HasCleanDisk m → (s : State) → Rests a s → IsKept b.now s
  kept_at clean s rests = subst (λ (db : Database). IsKept db s)
      (sym (begun (clean_at b m (λ _. ⊥) crash clean)).shows.now_is) rests.kept

  -- what was changed is undone
  pub undone_rests : HasCleanDisk m → IsTrue m.is_open → EndsAs e m.committed → (s : State)
      → Rests a s → Rests e s
  undone_rests clean is_open ends s rests =
      let began = begun (clean_at b m (λ _. ⊥) crash clean) in
      let back = undone_all a b m e began.shows (kept clean) is_open ends began.settled in
      rests_again a e s rests back.0 back.1

  pub before : HasCleanDisk m → HasCleanDisk a
  before clean = clean_at a b (λ _. ⊥) entered (clean_at b m (λ _. ⊥) crash clean)

  pub was_open : HasCleanDisk m → IsTrue a.is_open
  was_open clean = (begun (clean_at b m (λ _. ⊥) crash clean)).shows.was_open

-- what rests in a commit that succeeded
pub committed_rests : (m e : database.State) (s : State) → Shows m e m.now m.now false
    → IsKept m.now s → Rests e s
committed_rests m e s shows kept =
    record {
      kept = subst (λ (db : Database). IsKept db s) (sym shows.now_is) kept;
      committed =
          shows.committed_is ∙ sym shows.now_is;
    }

module _ (old new : Held) (b m : database.State) (later : Known) (request : Request)
    (answer : Answer)
    (entered : CrashKeeps old.db b) (begun : HasCleanDisk b → Begins old.db b)
    (serves : ServesBy b m old.known later request answer) where
  abbrev Done : State → Type 0
  Done s = (IsFault answer × IsKnown later s) ⊎ ((next : State) × Step s request answer next
      × IsKept m.now next × IsTrue m.is_open × IsKnown later next)

  done_at : HasCleanDisk m → (s : State) → Keeps old s → Done s
  done_at clean s keeps = serves.answered clean s
      (kept_at old.db b m new.db entered begun serves.crash serves.kept clean s keeps.rests)
      keeps.known

  -- the transaction was dropped, since nothing changed
  pub handles_dropped : (HasCleanDisk new.db → IsTrue new.db.is_open → EndsAs new.db m.committed)
      → CrashKeeps m new.db → (HasCleanDisk new.db → IsTrue new.db.is_open → IsTrue m.is_open)
      → ((s : State) → IsKnown later s → IsKnown new.known s) → is_change answer ≡ false
      → Handles old new request answer
  handles_dropped undone left opens counted stays = record {
    honest = λ clean. before old.db b m new.db entered begun serves.crash serves.kept
        (clean_at m new.db (λ _. ⊥) left clean);
    opens = λ clean is_open. was_open old.db b m new.db entered begun serves.crash serves.kept
        (clean_at m new.db (λ _. ⊥) left clean);
    shut = λ clean closed. absurd (closed (was_open old.db b m new.db entered begun serves.crash
        serves.kept (clean_at m new.db (λ _. ⊥) left clean)));
    answered = λ clean s keeps.
        let clean_m = clean_at m new.db (λ _. ⊥) left clean in
        let again : IsTrue new.db.is_open → Rests new.db s = λ is_open.
        undone_rests old.db b m new.db entered begun serves.crash serves.kept clean_m
        (opens clean is_open) (undone clean is_open) s keeps.rests in
        elim (done_at clean_m s keeps) [
          | inl fault ↦ (
            s,
            inr (fault.0, refl),
            λ is_open. record { rests = again is_open; known = counted s fault.1 },
          )
          | inr x ↦ (
            x.0,
            inl x.1,
            λ is_open. record {
              rests = subst (λ n. Rests new.db n)
                  (sym (leaves s request answer x.0 x.1 stays)) (again is_open);
              known = counted x.0 x.4;
            },
          )
        ];
    crash = survives_weaker old.db new.db (λ _. ⊥) (MayLeaveOf old request)
        (λ clean db none. absurd none) whole;
    lasts = λ clean change. absurd (true≢false (sym change ∙ stays));
    keeps = λ same other. whole;
  }
    where
      whole : CrashKeeps old.db new.db
      whole = crash_then old.db b new.db entered (crash_then b m new.db serves.crash left)

  -- where a change is answered, and its commit is the last call
  module _ (commit : Survives m new.db (λ left. left ≡ m.now.trees))
      (change : is_change answer ≡ true) where
    clean_m : HasCleanDisk new.db → HasCleanDisk m
    clean_m clean = clean_at m new.db (λ left. left ≡ m.now.trees) commit clean

    opened : HasCleanDisk new.db → IsTrue old.db.is_open
    opened clean = was_open old.db b m new.db entered begun serves.crash serves.kept (clean_m clean)

    changed : HasCleanDisk new.db → (s : State) → Keeps old s
        → (next : State) × Step s request answer next × IsKept m.now next × IsTrue m.is_open
        × IsKnown later next
    changed clean s keeps = elim (done_at (clean_m clean) s keeps) [
      | inl fault ↦ absurd (not_fault answer fault.0 change)
      | inr x ↦ x
    ]

    -- so the request is handled as these say, whether the commit failed or not
    handles_so : (given : Answer) → (HasCleanDisk new.db → (s : State) → Keeps old s
        → (next : State) × Goes s request given next × (IsTrue new.db.is_open → Keeps new next))
        → (HasCleanDisk new.db → is_change given ≡ true
        → IsTrue new.db.is_open × CrashLeaves new.db new.db.now)
        → (is_change given ≡ false → (given ≡ Err refusal.Store → ⊥) → CrashKeeps old.db new.db)
        → Handles old new request given
    handles_so given answered lasts keeps = record {
      honest = λ clean. before old.db b m new.db entered begun serves.crash serves.kept
          (clean_m clean);
      opens = λ clean is_open. opened clean;
      answered = answered;
      shut = λ clean closed. absurd (closed (opened clean));
      crash = survives_then old.db m new.db (λ _. ⊥) (λ left. left ≡ m.now.trees)
          (MayLeaveOf old request) (λ clean db none. absurd none)
          (λ clean db is. (
            opened clean,
            λ s keeps. (let done = changed clean s keeps in record {
              answer = answer;
              next = done.0;
              step = done.1;
              db = m.now;
              trees = is;
              kept = done.2;
            }),
          ))
          (crash_then old.db b m entered serves.crash) commit;
      lasts = lasts;
      keeps = keeps;
    }

  -- the commit failed, and what was known is forgotten
  pub handles_uncommitted : (HasCleanDisk new.db → IsTrue new.db.is_open
      → EndsAs new.db m.committed) → Survives m new.db (λ left. left ≡ m.now.trees)
      → ((s : State) → IsKnown new.known s)
      → is_change answer ≡ true → Handles old new request (Err refusal.Store)
  handles_uncommitted undone commit forgotten change =
      handles_so commit change (Err refusal.Store)
      (λ clean s keeps. (
        s,
        inr (inr refl, refl),
        λ is_open. record {
          rests = undone_rests old.db b m new.db entered begun serves.crash serves.kept
              (clean_m commit change clean) (changed commit change clean s keeps).3
              (undone clean is_open) s keeps.rests;
          known = forgotten s;
        },
      ))
      (λ clean none. absurd (true≢false (sym none))) (λ same other. absurd (other refl))

  -- the commit succeeded
  pub handles_committed : (HasCleanDisk new.db → Shows m new.db m.now m.now false)
      → (HasCleanDisk new.db → CrashLeaves new.db m.now)
      → Survives m new.db (λ left. left ≡ m.now.trees) → new.known ≡ later
      → is_change answer ≡ true → Handles old new request answer
  handles_committed done last commit known change =
      handles_so commit change answer
      (λ clean s keeps. (let x = changed commit change clean s keeps in (
        x.0,
        inl x.1,
        λ is_open. record {
          rests = committed_rests m new.db x.0 (done clean) x.2;
          known = subst (λ c. IsKnown c x.0) (sym known) x.4;
        },
      )))
      (λ clean changed. (
        (done clean).is_open,
        subst (λ (db : Database). CrashLeaves new.db db) (sym (done clean).now_is) (last clean),
      ))
      (λ same other. absurd (true≢false (sym change ∙ same)))

-- a clause on the result that it is
pub at_err : {A E P : Type 0} (r : Result A E) → is_err r ≡ true → OnErr r P → P
at_err (Ok x) e p = absurd (true≢false (sym e))
at_err (Err x) e p = p

pub at_ok : {A E P : Type 0} (r : Result A E) → is_err r ≡ false → OnOk r P → P
at_ok (Ok x) e p = p
at_ok (Err x) e p = absurd (true≢false e)

-- what a request did within its transaction, as it is seen from without
pub served_ok : {S : Type 0} (g : store.Ghosts S) (request : Request) (known taken : Known)
    (old new : Tx S) (served : Answered) → taken ≡ known → Calls g old new (Ok served)
    (ServesKnown taken request)
    → ServesBy (shown g old) (shown g new) known served.known request served.answer
served_ok g request known taken old new served is c = record {
  crash = c.frame.crash;
  kept = c.frame.kept;
  answered = λ clean s k counted.
      let done = c.does clean k.tables k.stands s k.stands_for k.sound
      (subst (λ x. IsKnown x s) (sym is) counted) in
      inr (done.0, done.1, done.2, (c.frame.stays clean).is_open, done.3);
}

-- there was a fault, and what was known is forgotten
pub served_err : {S : Type 0} (g : store.Ghosts S) (request : Request) (known later taken : Known)
    (old new : Tx S) (fault : StoreFault) → taken ≡ known → Calls {A = Answered} g old new
    (Err fault) (ServesKnown taken request)
    → ((s : State) → IsKnown later s) → ServesBy (shown g old) (shown g new) known later request
    (Err (refusal_of fault))
served_err g request known later taken old new fault is c forgotten = record {
  crash = c.frame.crash;
  kept = c.frame.kept;
  answered = λ clean s k counted. inl (is_fault fault, forgotten s);
}

-- a fault in the place of an answer that changed nothing
pub served_less : (b m : database.State) (known later : Known) (request : Request) (answer : Answer)
    → ServesBy b m known later request answer → is_change answer ≡ false
    → ServesBy b m known later request (Err refusal.Store)
served_less b m known later request answer serves stays = record {
  crash = serves.crash;
  kept = serves.kept;
  answered = λ clean s k counted.
      inl (
        inr refl,
        elim (serves.answered clean s k counted) [
          | inl fault ↦ fault.1
          | inr x ↦ subst (λ n. IsKnown later n) (leaves s request answer x.0 x.1 stays) x.4
        ],
      );
}
