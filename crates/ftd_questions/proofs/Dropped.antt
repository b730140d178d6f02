-- A transaction that was dropped after some reading.
use Rattle.std.proofs.Common.{inr, Result, Ok, Err, sym, subst, List, ℕ, IsTrue, ◌⊎◌}
use Rattle.std.specs.Prelude.{MatchResult}
use Rattle.sqlite.specs.Effect.{Database}
use Rattle.sqlite.specs.State as database
use Rattle.sqlite.specs.State.{HasCleanDisk, KeepsCommit}
use Rattle.sqlite.specs.Store as store
use Rattle.ftd_sql.specs.States.{CrashKeeps}
use Rattle.ftd_sql.proofs.Controls.{crash_then, undone_all}
use Rattle.ftd_sql.specs.Standing.{Tables, Stands}
use Rattle.ftd_store.specs.Ends.{Begins, EndsAs}
use Rattle.ftd_store.specs.Frame.{Reads}
use Rattle.ftd_store.specs.Seen.{shown}
use Rattle.ftd_store.specs.declared.tx.Tx.{Tx}
use Rattle.ftd_machine.specs.Runs.{IsFault}
use Rattle.ftd_machine.specs.Sound.{IsSound}
use Rattle.ftd_machine.specs.State.{State}
use Rattle.ftd_machine.specs.declared.replies.Refusal.{Refusal}
use Rattle.ftd_entries.specs.Standing.{StandsFor}
use Rattle.ftd_questions.specs.Telling.{KnowsAsked}
use Rattle.ftd_questions.specs.Walks.{Stays, StandIfOpen, KeptIfOpen}
use Rattle.ftd_questions.specs.declared.asking.KnownReturn.{KnownReturn}
use Rattle.ftd_questions.proofs.Walked.{clean_before}

-- from what was seen before it to its end: as it began, as it was dropped, and afterwards
module _ (a b m e : database.State) (entered : CrashKeeps a b) (begun : HasCleanDisk b → Begins a b)
    (crash : CrashKeeps b m) (kept : HasCleanDisk m → KeepsCommit b m)
    (undone : HasCleanDisk e → IsTrue e.is_open → EndsAs e m.committed) (left : CrashKeeps m e)
    (opens : HasCleanDisk e → IsTrue e.is_open → IsTrue m.is_open) where
  pub dropped_stays : Stays a e
  dropped_stays = record {
    rows = λ clean.
        let clean_m = clean_before m e left clean in
        let began = begun (clean_before b m crash clean_m) in
        record {
          was_open = λ on. began.shows.was_open;
          now_is = λ on. (undone_all a b m e began.shows (kept clean_m) (opens clean on)
              (undone clean on) began.settled).0;
          committed_is = λ on. (undone_all a b m e began.shows (kept clean_m) (opens clean on)
              (undone clean on) began.settled).1;
        };
    crash = crash_then a b e entered (crash_then b m e crash left);
  }

-- it began where the store was open, and had the rows from before it
pub stood_in_it : (a b m e : database.State) → (HasCleanDisk b → Begins a b) → CrashKeeps b m
    → CrashKeeps m e → HasCleanDisk e → (t : Tables) → StandIfOpen a t → Stands b.now t
stood_in_it a b m e begun crash left clean t stands =
    let began = begun (clean_before b m crash (clean_before m e left clean)) in
    subst (λ (db : Database). Stands db t) (sym began.shows.now_is) (stands began.shows.was_open)

-- and kept the state from before it
pub kept_in_it : (a b m e : database.State) → (HasCleanDisk b → Begins a b) → CrashKeeps b m
    → CrashKeeps m e → HasCleanDisk e → (s : State) → KeptIfOpen a s
    → (t : Tables) × Stands b.now t × StandsFor t s × IsSound s
kept_in_it a b m e begun crash left clean s kept =
    let began = begun (clean_before b m crash (clean_before m e left clean)) in
    let its = kept began.shows.was_open in (
      its.tables,
      subst (λ (db : Database). Stands db its.tables) (sym began.shows.now_is) its.stands,
      its.stands_for,
      its.sound,
    )

-- what was read in it holds of the tables from before it
module _ {S A : Type 0} {g : store.Ghosts S} {a e : database.State} {b m : Tx S} {x : A}
    {Fact : A → Tables → Type 0} (begun : HasCleanDisk (shown g b) → Begins a (shown g b))
    (read : Reads g b m (Ok x) Fact) (left : CrashKeeps (shown g m) e) (clean : HasCleanDisk e)
  where
    pub told_in_it : (t : Tables) → StandIfOpen a t → Fact x t
    told_in_it t stands =
        (read.does (clean_before (shown g m) e left clean) t
        (stood_in_it a (shown g b) (shown g m) e begun read.frame.crash left clean t stands)).0

    -- and of those of the state that was kept
    pub kept_told : (s : State) → KeptIfOpen a s
        → (t : Tables) × Fact x t × StandsFor t s × IsSound s
    kept_told s kept =
        let its = kept_in_it a (shown g b) (shown g m) e begun read.frame.crash left clean s kept in (
          its.0,
          (read.does (clean_before (shown g m) e left clean) its.0 its.1).0,
          its.2,
          its.3,
        )

-- what was read in it, with no fault
pub answered : (name : List ℕ) (quarter as_of : ℕ) (t : Tables) (asked : Result KnownReturn Refusal)
    → KnowsAsked name quarter as_of asked t
    → MatchResult asked (λ known. KnowsAsked name quarter as_of (Ok known) t)
    (λ refusal. IsFault (Err refusal) ⊎ KnowsAsked name quarter as_of (Err refusal) t)
answered name quarter as_of t (Ok known) knows = knows
answered name quarter as_of t (Err refusal) knows = inr knows
