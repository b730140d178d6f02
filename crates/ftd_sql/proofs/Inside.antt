-- A statement on rows inside a transaction leaves the last commit, and a reading changes nothing,
-- in whatever schema.
use Rattle.std.proofs.Common.{ℕ, List, sym, cond, subst, true, append-nil, ◌≡◌, Ok, Err, Bool}
use Rattle.std.proofs.Common.{false, Option, Result}
use Rattle.std.specs.Prelude.{IsTrue, MatchBool}
use Rattle.sqlite.specs.Order.{Row}
use Rattle.sqlite.specs.Command.{Command}
use Rattle.sqlite.specs.Listing.{understood}
use Rattle.sqlite.specs.State.{State, Writes, Shown, Shows, IsUnchanged, Runs, Executes, ExecutesIn}
use Rattle.sqlite.specs.State.{shows_rows, text_of}
use Rattle.sqlite.proofs.Callers.{IsPlain}
use Rattle.sqlite.specs.Command.TheVariants.{Select, Insert, Update, Delete}
use Rattle.sqlite_schema.specs.declared.command.Returning.{Returning}
use Rattle.sqlite.specs.declared.error.Error.{Error}
use Rattle.sqlite.specs.declared.error.Error.TheVariants.{ExecuteReturnedResults}
use Rattle.sqlite.specs.Clock.{timed}
use Rattle.ftd_sql.specs.TextKinds.{IsRowText, IsReadText}
use Rattle.ftd_sql.proofs.Commits.{OnRows, on_rows}
use Rattle.ftd_sql.proofs.Meaning.{select_plain}

-- a plain query changes nothing
pub stays_read : (sql : List ℕ) (params : Row) (old new : State)
    → IsPlain (understood old.now.schema sql) → (rows : List Row) → Shown sql params old new rows
    → IsUnchanged old new
unfolding Shown
stays_read sql params old new bare_text rows h =
    let known = sym h.1.is in
    let bare = subst IsPlain (sym known) bare_text in
    (rw (bare.0, bare.1, append-nil params) at h.2).3

written_inside : (old new : State) (r : Option Returning) (k : Command) (text : List ℕ)
    (params : Row) (count : ℕ) → IsTrue old.in_transaction → Writes old new r k text params count
    → Shows old new new.now old.committed true
written_inside old new r k text params count busy w =
    subst (λ b. Shows old new new.now (cond b old.committed new.now) b) busy w.shown

runs_inside : (old new : State) (r : Option Returning) (k : Command) (text : List ℕ) (params : Row)
    (count : ℕ) → IsTrue old.in_transaction → OnRows k → Runs old new r k text params count
    → Shows old new new.now old.committed true
runs_inside old new r (Insert at from) text params count busy on w = written_inside old new r
    (Insert at from) text params count busy w
runs_inside old new r (Update at q) text params count busy on w = written_inside old new r
    (Update at q) text params count busy w
runs_inside old new r (Delete at q) text params count busy on w = written_inside old new r
    (Delete at q) text params count busy w
runs_inside old new r (Select q names) text params count busy on w = absurd w
runs_inside old new r k text params count busy on w = absurd on

-- the last commit stays
pub rows_stay_inside : (old new : State) (text : List ℕ) (params : Row) (count : ℕ) → IsRowText text
    → IsTrue old.in_transaction → Executes text params old new (Ok count)
    → Shows old new new.now old.committed true
unfolding ExecutesIn
rows_stay_inside old new text params count t busy h = go (shows_rows false h.0) h.2
  where
    Outcome : Type 0
    Outcome = Shows old new new.now old.committed true

    go : (b : Bool)
        → MatchBool b ((◌≡◌ {A = Result ℕ Error} (Ok count) (Err ExecuteReturnedResults))
        × IsUnchanged old new) (Runs old new h.0.returning h.0.command (text_of text h.0)
        (timed params h.0.formats h.1.now) count) → Outcome
    go true e = absurd (let wrong = e.0 in cc)
    go false ran = runs_inside old new h.0.returning h.0.command _ _ count busy
        (on_rows old.now.schema text t h.0 h.1.is) ran

-- nothing is changed
pub reading_stays : (old new : State) (text : List ℕ) (params : Row) (rows : List Row)
    → IsReadText text → Shown text params old new rows → IsUnchanged old new
unfolding Shown
reading_stays old new text params rows t h = stays_read text params old new
    (select_plain old.now.schema text t.0 t.1 h.0 h.1.is) rows h
