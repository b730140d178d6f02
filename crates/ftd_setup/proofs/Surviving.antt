-- What a crash may leave where a database is made the desk's in one transaction.
use Rattle.std.proofs.Common.{◌≡◌, ℕ, List, [], Ok, false, inl, inr, IsTrue, true, arith, sym}
use Rattle.std.proofs.Common.{subst, ◌∙◌}
use Rattle.std.proofs.lemmas.Bool.{false≢true}
use Rattle.sqlite.specs.Store as store
use Rattle.sqlite.specs.Held.{Held, state}
use Rattle.sqlite.specs.Steps.{FailsToCommit}
use Rattle.sqlite.specs.declared.error.Error.{Error}
use Rattle.sqlite.specs.Effect.{Database}
use Rattle.sqlite.specs.Order.{Row}
use Rattle.sqlite.specs.State.{State, HasCleanDisk, Survives, KeepsCommit, Shown, IsUnchanged}
use Rattle.sqlite.proofs.Callers.{survives_begin}
use Rattle.sqlite.proofs.StateLemmas.{survives_then}
use Rattle.ftd_sql.specs.Beginnings.{IsEarlier, IsMigratedFrom}
use Rattle.ftd_sql.specs.States.{CrashKeeps, ShowsAgain}
use Rattle.ftd_sql.specs.declared.texts.TheConstants.{LIST_METAS}
use Rattle.ftd_setup.specs.declared.opening.Change.{Change}
use Rattle.ftd_setup.specs.Versions.{has_later, ReadsVersion, Becomes, MayBecome, MayBeMigrated}
use Rattle.ftd_setup.specs.Versions.{OpensByReading}
use Rattle.ftd_setup.proofs.Readings.{any_version}

-- one transaction over the connection, whose steps change the database
pub becoming_survives : {S : Type 0} (g : store.Ghosts S) (how : Change) (old tx : Held S)
    (last end : State) → tx ≡ record old { in_transaction = true } → CrashKeeps (state g tx) last
    → (HasCleanDisk last → Becomes how (state g tx).now last.now)
    → Survives last end (λ left. left ≡ last.now.trees)
    → Survives (state g old) end (MayBecome how (state g old).now)
becoming_survives g how old tx last end begun inside made committed =
    survives_then (state g old) last end _ _ (MayBecome how (state g old).now)
    (λ _ db none. absurd none)
    (λ clean db is. (last.now, is, (rw begun at made) (omega (arith, committed.clean))))
    (survives_begin g old last _ (rw begun at inside)) committed

-- what a reading before told: the version, and that nothing was changed
pub record Told (version : ℕ) (old mid : State) : Type 0 where
  pub rows : List Row
  pub shown : Shown LIST_METAS.now [] old old rows
  pub is : ReadsVersion rows version
  pub same : mid.now ≡ old.now

pub told : (old mid : State) (rows : List Row) (version : ℕ)
    → Shown LIST_METAS.now [] old old rows × IsUnchanged old mid → ReadsVersion rows version
    → Told version old mid
told old mid rows version read is =
    record { rows = rows; shown = read.0; is = is; same = read.1.0.now_is }

-- after a reading that told which version is migrated
pub migrating_survives : (how : Change) (version : ℕ) (old mid end : State) (rows : List Row)
    → ((db : Database) → Becomes how old.now db → IsMigratedFrom version old.now db)
    → CrashKeeps old mid
    → (HasCleanDisk mid → Shown LIST_METAS.now [] old old rows × IsUnchanged old mid)
    → ReadsVersion rows version → Survives mid end (MayBecome how mid.now)
    → Survives old end (MayBeMigrated old.now)
migrating_survives how version old mid end rows from read shows is then =
    survives_then old mid end _ _ (MayBeMigrated old.now) (λ _ db none. absurd none)
    (λ clean db left.
    let clean_mid : HasCleanDisk mid = omega (arith, then.clean) in
    let told = told old mid rows version (shows clean_mid) is in
    let did : MayBecome how old.now db =
    subst (λ (d : Database). MayBecome how d db) told.same left in
    (did.0, did.1, any_version version old did.0 told.rows told.shown told.is (from did.0 did.2)))
    read then

-- and what is answered then
pub migrated_opens : (how : Change) (version : ℕ) (old mid new : State)
    → ((db : Database) → Becomes how old.now db → IsMigratedFrom version old.now db)
    → IsEarlier version → Told version old mid → has_later mid.now.schema version ≡ false
    → Becomes how mid.now new.now × (new.committed ≡ new.now) → OpensByReading old new (Ok tt)
migrated_opens how version old mid new from earlier told free done =
    let did : Becomes how old.now new.now =
    subst (λ (d : Database). Becomes how d new.now) told.same done.0 in
    inr (
      told.rows,
      told.shown,
      inr (
        version,
        earlier,
        told.is,
        subst (λ (d : Database). has_later d.schema version ≡ false) told.same free,
        any_version version old new.now told.rows told.shown told.is (from new.now did),
        done.1,
      ),
    )

-- `transaction` commits nothing
pub kept_begin : {S : Type 0} (g : store.Ghosts S) (old : Held S) (new : State)
    → KeepsCommit (state g (record old { in_transaction = true })) new
    → KeepsCommit (state g old) new
kept_begin g old new k = record { was_open = k.was_open; committed = k.committed }

-- a commit that fails leaves what was seen before the transaction
pub undone : (old last end : State) (e : Error) → (IsTrue old.is_open → old.now ≡ old.committed)
    → KeepsCommit old last → last.in_transaction ≡ true → IsTrue end.is_open
    → FailsToCommit last end e → ShowsAgain old end
undone old last end e settled kept busy opened (inl failed) =
    let back = failed.3 in
    let on : IsTrue last.is_open = back.was_open opened in
    let un = back.undone opened in
    (un.0 ∙ kept.committed on ∙ sym (settled (kept.was_open on)), un.1 ∙ kept.committed on)
undone old last end e settled kept busy opened (inr over) = absurd (false≢true (sym over.1 ∙ busy))
