-- What BEGIN, COMMIT and ROLLBACK do, and what a statement that fails leaves.
use Rattle.std.proofs.Common.{◌≡◌, ◌⊎◌, inl, inr, ℕ, List, [], codes, Bool, true, false, not}
use Rattle.std.proofs.Common.{IsTrue, refl, sym, ap, subst, ◌∙◌, Ok, Err, None, Result, length}
use Rattle.std.proofs.Common.{arith}
use Rattle.std.specs.Prelude.{MatchBool, IsSome, OnOk, OnErr}
use Rattle.std.proofs.lemmas.Bool.{false≢true}
use Rattle.sqlite.specs.Order.{Row}
use Rattle.sqlite.specs.Schema.{Schema}
use Rattle.sqlite.specs.Tree.{Trees}
use Rattle.sqlite.specs.Command.{Command}
use Rattle.sqlite.specs.Command.TheVariants.{Begin, Commit, Rollback}
use Rattle.sqlite.specs.declared.error.Error.{Error}
use Rattle.sqlite.specs.declared.error.Error.TheVariants.{ExecuteReturnedResults}
use Rattle.sqlite_resolve.specs.declared.error.CompileError.{CompileError}
use Rattle.sqlite_resolve.specs.declared.compiled.Compiled.{Compiled}
use Rattle.sqlite.specs.Listing.{understood}
use Rattle.sqlite.specs.State.{State, Executes, IsUnchanged, IsRolledBack, KeepsCommit, RunsCommand}
use Rattle.sqlite.specs.State.{shows_rows, CommitsBy, IsNoStatement, IsNotRun, ExecutesIn}
use Rattle.sqlite.specs.State.{IsMisplaced, MayChange, MayWrite, Survives, Shows}
use Rattle.sqlite.specs.Calls.{IsWrite}
use Rattle.sqlite.proofs.StateLemmas.{survives_then, survives_weaker}
use Rattle.ftd_sql.specs.States.{CrashKeeps, ShowsAgain}
use Rattle.sqlite.proofs.Callers.{IsPlain, command_of, runs_as}
use Rattle.sqlite.specs.Effect.{Database}
use Rattle.ftd_sql.specs.Places.{KeepsTables}
use Rattle.sqlite_tied.specs.Compute.{everything}

abbrev pub begin_text : List ℕ
begin_text = codes "BEGIN"

abbrev pub rollback_text : List ℕ
rollback_text = codes "ROLLBACK"

abbrev pub commit_text : List ℕ
commit_text = codes "COMMIT"

-- a text that is read as a plain command, which returns nothing
abbrev IsOf : Command → Result Compiled CompileError → Type 0
IsOf command (Ok c) = (c.command ≡ command) × (c.returning ≡ None)
IsOf command (Err e) = ⊥

abbrev Commands : List ℕ → Command → Type 0
Commands text command = (s : Schema) → (command_of (understood s text) ≡ command)
    × IsPlain (understood s text) × IsOf command (understood s text)

begin_is : Commands begin_text Begin
unfolding understood everything
begin_is s = (refl, (refl, refl), (refl, refl))

rollback_is : Commands rollback_text Rollback
unfolding understood everything
rollback_is s = (refl, (refl, refl), (refl, refl))

commit_is : Commands commit_text Commit
unfolding understood everything
commit_is s = (refl, (refl, refl), (refl, refl))

pub not_run_leaves : (sql : List ℕ) (params : Row) (old new : State) (e : Error)
    → IsNotRun old new sql params e → IsUnchanged old new ⊎ IsRolledBack old new
unfolding IsNotRun
not_run_leaves sql params old new e (inl h) = inl h.1
not_run_leaves sql params old new e (inr fails) = inr fails.3

pub command_leaves : (old new : State) (sql : List ℕ) (c : Compiled) (params : Row) (e : Error)
    → RunsCommand old new sql c params (Err e) → IsUnchanged old new ⊎ IsRolledBack old new
command_leaves old new sql c params e (inl refused) = inl refused.1
command_leaves old new sql c params e (inr fails) = inr fails.3

run_leaves : (b : Bool) (old new : State) (sql : List ℕ) (c : Compiled) (params : Row) (e : Error)
    → MatchBool b ((◌≡◌ {A = Result ℕ Error} (Err e) (Err ExecuteReturnedResults))
    × IsUnchanged old new) (RunsCommand old new sql c params (Err e)) → IsUnchanged old new
    ⊎ IsRolledBack old new
run_leaves true old new sql c params e h = inl h.1
run_leaves false old new sql c params e h = command_leaves old new sql c params e h

-- a statement that fails changes nothing, or the transaction is rolled back
pub failed_leaves : (sql : List ℕ) (params : Row) (old new : State) (e : Error)
    → Executes sql params old new (Err e) → IsUnchanged old new ⊎ IsRolledBack old new
unfolding ExecutesIn
failed_leaves sql params old new e (inl h) = not_run_leaves sql params old new e h
failed_leaves sql params old new e (inr ran) = run_leaves (shows_rows false ran.0) old new sql ran.0
    _ e ran.2

abbrev IsRollback : Result Compiled CompileError → Type 0
IsRollback (Ok c) = (c.command ≡ Rollback) × (c.returning ≡ None) × (c.formats ≡ [])
    × (c.names ≡ []) × (c.tail ≡ 8)
IsRollback (Err e) = ⊥

is_rollback : (s : Schema) → IsRollback (understood s rollback_text)
unfolding understood everything
is_rollback s = (refl, refl, refl, refl, refl)

-- where a transaction is under way, ROLLBACK ends it even where it fails
no_statement : (s : State) (e : Error) → ¬ IsNoStatement s rollback_text [] e
no_statement s e (inl h) = subst IsRollback h.1 (is_rollback s.now.schema)
no_statement s e (inr h) =
    let is = subst IsRollback h.1 (is_rollback s.now.schema) in
    let why = h.2 in elim why [
      | inl long ↦ long.0 (omega (arith, is.4))
      | inr (inl wrong) ↦ wrong.0 (sym (ap length is.3))
      | inr (inr late) ↦ late.0 is.2
    ]

rollback_not_run : (old new : State) (e : Error) → IsNotRun old new rollback_text [] e
    → IsRolledBack old new
unfolding IsNotRun
rollback_not_run old new e (inl h) = absurd (no_statement old e h.0)
rollback_not_run old new e (inr fails) = fails.3

misplaced : (s : State) (command : Command) (e : Error) → command ≡ Rollback
    → IsTrue s.in_transaction → ¬ IsMisplaced s command e
misplaced s command e is busy (inl m) = elim m.1 [
  | inl b ↦ absurd (let x = b.0 in cc)
  | inr b ↦ absurd (let x = b.1 in cc)
]
misplaced s command e is busy (inr m) = elim m.2 [ inl b ↦ absurd cc | inr b ↦ absurd cc ]

changes_none : (c : Compiled) → c.command ≡ Rollback → c.returning ≡ None → ¬ MayChange c
changes_none c is bare (inl w) = subst IsWrite is w
changes_none c is bare (inr r) = false≢true (subst IsSome bare r)

rollback_ran : (old new : State) (sql : List ℕ) (c : Compiled) (params : Row) (e : Error)
    → c.command ≡ Rollback → c.returning ≡ None → IsTrue old.in_transaction
    → RunsCommand old new sql c params (Err e) → IsRolledBack old new
rollback_ran old new sql c params e is bare busy (inr fails) = fails.3
rollback_ran old new sql c params e is bare busy (inl h) =
    absurd (elim h.0 [
      | inl m ↦ misplaced old c.command e is busy m
      | inr m ↦ changes_none c is bare m.0
    ])

shown_none : (c : Compiled) → c.command ≡ Rollback → c.returning ≡ None → shows_rows false c ≡ false
shown_none c is bare = rw (is, bare) refl

pub rolls_back : (old new : State) (r : Result ℕ Error) → IsTrue old.in_transaction
    → Executes rollback_text [] old new r → IsRolledBack old new
unfolding ExecutesIn
rolls_back old new (Ok count) busy h =
    (runs_as rollback_text [] old new old.now.schema refl Rollback (rollback_is old.now.schema).0
    (rollback_is old.now.schema).1 count h).1
rolls_back old new (Err e) busy (inl h) = rollback_not_run old new e h
rolls_back old new (Err e) busy (inr ran) =
    let is = subst IsRollback ran.1.is (is_rollback old.now.schema) in
    rollback_ran old new rollback_text ran.0 _ e is.0 is.1 busy
    (rw (shown_none ran.0 is.0 is.1) at ran.2)

-- ---- what they commit

pub rollback_commits_nothing : (s : State) (db : Trees) → IsTrue s.in_transaction
    → ¬ CommitsBy rollback_text [] s db
unfolding CommitsBy
rollback_commits_nothing s db busy h =
    let is = subst IsRollback h.1.is (is_rollback s.now.schema) in
    elim h.2 [
      | inl c ↦ elim c.0 [
        | inl a ↦ absurd (let x = is.0 in cc)
        | inr a ↦ absurd (let x = is.0 in let y = a.2 in cc)
      ]
      | inr w ↦ absurd (let x = w.0 in cc)
    ]

pub begins : (old new : State) (r : Result ℕ Error) → Executes begin_text [] old new r
    → OnOk r (Shows old new old.now old.committed true)
begins old new (Ok count) h =
    (runs_as begin_text [] old new old.now.schema refl Begin (begin_is old.now.schema).0
    (begin_is old.now.schema).1 count h).1
begins old new (Err e) h = tt

begin_writes_nothing : (s : State) (c : Compiled) (text : List ℕ) (params : Row) (db : Trees)
    → c.command ≡ Begin → c.returning ≡ None → MayWrite s c.returning c.command text params db → ⊥
begin_writes_nothing s c text params db is bare w = absurd (let x = (rw (is, bare) at w).3 in cc)

pub begin_commits_nothing : (s : State) (db : Trees) → ¬ CommitsBy begin_text [] s db
unfolding CommitsBy
begin_commits_nothing s db h =
    let is = subst (IsOf Begin) h.1.is ((begin_is s.now.schema).2) in
    elim h.2 [
      | inl c ↦ elim c.0 [
        | inl a ↦ absurd (let x = is.0 in cc)
        | inr a ↦ absurd (let x = is.0 in let y = a.2 in cc)
      ]
      | inr w ↦ begin_writes_nothing s h.0 _ _ db is.0 is.1 w
    ]

pub weaker : (old new : State) (P : Trees → Type 0) → ((db : Trees) → ¬ P db) → Survives old new P
    → Survives old new (λ _. ⊥)
weaker old new P none s =
    survives_weaker old new P (λ _. ⊥) (λ clean db made. absurd (none db made)) s

pub busy_if : (b r : Bool) → r ≡ not b → r ≡ false → IsTrue b
busy_if true r e f = refl
busy_if false r e f = absurd cc

pub commits : (old new : State) (count : ℕ) → Executes commit_text [] old new (Ok count)
    → Shows old new old.now old.now false
commits old new count h =
    (runs_as commit_text [] old new old.now.schema refl Commit (commit_is old.now.schema).0
    (commit_is old.now.schema).1 count h).1

commit_writes_nothing : (s : State) (c : Compiled) (text : List ℕ) (params : Row) (db : Trees)
    → c.command ≡ Commit → c.returning ≡ None → MayWrite s c.returning c.command text params db → ⊥
commit_writes_nothing s c text params db is bare w = absurd (let x = (rw (is, bare) at w).3 in cc)

-- COMMIT may leave what was seen
pub commit_commits : (s : State) (db : Trees) → CommitsBy commit_text [] s db → db ≡ s.now.trees
unfolding CommitsBy
commit_commits s db h =
    let is = subst (IsOf Commit) h.1.is ((commit_is s.now.schema).2) in
    elim h.2 [
      | inl c ↦ c.1
      | inr w ↦ absurd (commit_writes_nothing s h.0 _ _ db is.0 is.1 w)
    ]

-- ---- what a call that fails keeps

pub keeps_self : (s : State) → KeepsCommit s s
keeps_self s = record { was_open = λ h. h; committed = λ h. refl }

pub keeps_left : (old new : State) → IsUnchanged old new ⊎ IsRolledBack old new
    → KeepsCommit old new
keeps_left old new (inl h) = record {
  was_open = λ on. h.0.was_open;
  committed =
      λ on. h.0.committed_is;
}
keeps_left old new (inr h) = record { was_open = h.was_open; committed = λ on. (h.undone on).1 }

pub keeps_shown : (old new : State) → Shows old new new.now old.committed true → KeepsCommit old new
keeps_shown old new h = record { was_open = λ on. h.was_open; committed = λ on. h.committed_is }

pub on_err : {A E P : Type 0} (r : Result A E) → P → OnErr r P
on_err (Ok x) p = tt
on_err (Err e) p = p

-- a transaction that ends by a rollback leaves what was there
pub undone_all : (a b m e : State) → Shows a b a.now a.committed true → KeepsCommit b m
    → IsTrue m.is_open → (e.now ≡ m.committed) × (e.committed ≡ m.committed) → a.now ≡ a.committed
    → (e.now ≡ a.now) × (e.committed ≡ a.committed)
undone_all a b m e begun kept opened un settled =
    let back : m.committed ≡ a.committed = kept.committed opened ∙ begun.committed_is in
    (un.0 ∙ back ∙ sym settled, un.1 ∙ back)

-- ---- inside a transaction of the engine

pub on_ok : {A E P : Type 0} (r : Result A E) → P → OnOk r P
on_ok (Ok x) p = p
on_ok (Err e) p = tt

-- outside a transaction, what is rolled back is what was seen
pub shows_again : (old new : State) → IsTrue new.is_open
    → (IsTrue old.is_open → old.now ≡ old.committed) → IsUnchanged old new ⊎ IsRolledBack old new
    → ShowsAgain old new
shows_again old new opened settled (inl h) = (h.0.now_is, h.0.committed_is)
shows_again old new opened settled (inr h) =
    let u = h.undone opened in (u.0 ∙ sym (settled (h.was_open opened)), u.1)

-- a crash finds what it would have found, where nothing was touched
pub crash_none : (a : State) → CrashKeeps a a
crash_none a = record {
  clean = omega arith;
  shield = λ h. h;
  counts = omega arith;
  limit = refl;
  closes = λ clean h. inl h;
  crash = λ clean db h. inl h;
}

-- two steps, one after the other, of which neither commits
pub crash_then : (a b c : State) → CrashKeeps a b → CrashKeeps b c → CrashKeeps a c
crash_then a b c p q = survives_then a b c _ _ (λ _. ⊥) (λ _ db none. none) (λ _ db none. none) p q

-- ---- tables of other names

pub keeps_tables_then : (a b c : Database) → KeepsTables a b → KeepsTables b c → KeepsTables a c
keeps_tables_then a b c p q = λ name t at place. let one = p name t at place in
    let two = q name t at one.0 in (two.0, two.1 ∙ one.1)
