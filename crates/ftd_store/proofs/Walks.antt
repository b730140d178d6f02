-- What a reading shows whose rows are given one at a time.
use Rattle.std.proofs.Common.{◌≡◌, ℕ, ℤ, List, [], ◌∷◌, ◌++◌, map, Option, None, Some, Result, Ok}
use Rattle.std.proofs.Common.{Err, inl, inr, refl, sym, ap, subst, ◌∙◌}
use Rattle.std.specs.Prelude.{filter, IsSome, OnErr}
use Rattle.sqlite.specs.Store as store
use Rattle.sqlite.specs.Effect.{Database}
use Rattle.sqlite.specs.Order.{Row}
use Rattle.sqlite.specs.Listing.{understood}
use Rattle.sqlite.specs.State.{State, Begins, Shown, IsUnchanged, IsStatement, HasCleanDisk}
use Rattle.sqlite.specs.Held.{Held, state}
use Rattle.sqlite.specs.Given.{HasGiven, HasBegun, GivesOn, Advances, Returns, IsPlain, IsRefused}
use Rattle.sqlite.specs.declared.error.Error.{Error}
use Rattle.sqlite.proofs.Callers.{EndsIn, begins_shown, given_begin, command_of}
use Rattle.sqlite_resolve.specs.declared.compiled.Compiled.{Compiled}
use Rattle.sqlite.specs.Schema.{Schema}
use Rattle.sqlite_resolve.specs.declared.error.CompileError.{CompileError}
use Rattle.std.proofs.lemmas.Bool.{false≢true}
use Rattle.ftd_sql.specs.TextKinds.{IsReadText}
use Rattle.ftd_sql.proofs.Commits.{reading_commits_nothing}
use Rattle.ftd_sql.proofs.Meaning.{select_plain}
use Rattle.ftd_sql.proofs.Reading.{is_low}
use Rattle.ftd_sql.proofs.Selects.{selects}
use Rattle.ftd_rules.specs.declared.Obligation.{Obligation}
use Rattle.ftd_sql.specs.declared.TableName.TheVariants.{Obligations}
use Rattle.ftd_sql.specs.Standing.{Tables, Stands}
use Rattle.ftd_sql.specs.declared.texts.TheConstants.{LIST_OBLIGATIONS}
use Rattle.ftd_sql.specs.Answers.{obligation_shown}
use Rattle.ftd_sql.specs.Given.{pair_given}
use Rattle.ftd_sql.specs.States.{CrashKeeps}
use Rattle.ftd_sql.proofs.Controls.{weaker}
use Rattle.ftd_sql.proofs.Leaves.{query_leaves}
use Rattle.ftd_sql.specs.Orders.{ObligationsRise}
use Rattle.ftd_sql.specs.Tests.{is_obligation_between}
use Rattle.ftd_sql.proofs.Asking.{lists_obligations}
use Rattle.ftd_sql.proofs.Meanings.{obligations_in_order}
use Rattle.ftd_store.specs.Cells.{obligation_cells}
use Rattle.ftd_store.specs.Lists.{Lists, ListsFirst}
use Rattle.ftd_store.proofs.Listed.{lists_shown, first_shown}
use Rattle.ftd_store.specs.Ends.{IsSettled, LeavesRows}
use Rattle.ftd_store.specs.Finds.{IsObligation}
use Rattle.ftd_store.proofs.Beginning.{failed_rests}
use Rattle.ftd_store.proofs.Same.{obligation_is}

-- the query has no part that could go on for ever
ends : (s : State) (t : Tables) (params ps : Row) (c : Compiled) (db : Database) → Stands s.now t
    → IsStatement s LIST_OBLIGATIONS.now params c → EndsIn c.command db ps
ends s t params ps c db stands it =
    let l = stands Obligations in
    let a = lists_obligations in
    let m = selects s.now.schema LIST_OBLIGATIONS.now _ _ l.at _ _ _ _ _ _ _ l.place a.reads
    a.opens.whole a.opens.first (a.resolves l.tree (is_low l.place))
    (a.accepted l.tree) in
    let is = ap command_of (sym it.is) ∙ m.is in
    subst (λ k. EndsIn k db ps) (sym is) tt

-- the rows of a whole answer
all_listed : (account : List ℕ) (from to : ℤ) (s after : State) (listed : List Obligation)
    (t : Tables) → Stands s.now t → Shown LIST_OBLIGATIONS.now (pair_given account from to) s after
    (map obligation_cells listed)
    → Lists ObligationsRise (IsObligation account) (filter (is_obligation_between account from to)
    (t Obligations)) listed
all_listed account from to s after listed t stands shown =
    let read = obligations_in_order account from to s after _ t stands shown in
    lists_shown ObligationsRise (IsObligation account) (is_obligation_between account from to)
    obligation_shown obligation_cells (obligation_is account from to) (t Obligations) read.0 listed
    read.1 read.3 (sym read.2)

-- the first rows of one
first_listed : (account : List ℕ) (from to : ℤ) (s : State) → IsUnchanged s s
    → (listed : List Obligation) (t : Tables) → Stands s.now t → Begins LIST_OBLIGATIONS.now
    (pair_given account from to) s (map obligation_cells listed) → ListsFirst ObligationsRise
    (IsObligation account) (filter (is_obligation_between account from to) (t Obligations)) listed
first_listed account from to s same listed t stands begins =
    let whole = begins_shown LIST_OBLIGATIONS.now (pair_given account from to) s s
    (map obligation_cells listed) begins same (λ c db it source. ends s t _ _ c db stands it) in
    let read = obligations_in_order account from to s s _ t stands whole.1 in
    first_shown ObligationsRise (IsObligation account) (is_obligation_between account from to)
    obligation_shown obligation_cells (obligation_is account from to) (t Obligations) read.0 listed
    whole.0 read.1 read.3 read.2

-- ---- a reading that is under way

no_write : (s : Schema) (text : List ℕ) → IsReadText text → ¬ Returns (understood s text)
no_write s text reads returns = go (understood s text) refl returns
  where
    go : (r : Result Compiled CompileError) → understood s text ≡ r → Returns r → ⊥
    go (Ok c) known some =
        let bare = subst IsPlain known (select_plain s text reads.0 reads.1 c known) in
        false≢true (subst IsSome bare.0 some)
    go (Err e) known none = none

module _ {S : Type 0} (g : store.Ghosts S) where
  -- a reading begins with no row given
  pub begun_reading : (text : List ℕ) (params : Row) (old new : Held S) → IsReadText text
      → HasBegun g text params old new → HasGiven g text params new [] × IsUnchanged (state g old)
      (state g new)
  begun_reading text params old new reads (inl h) = h
  begun_reading text params old new reads (inr h) = absurd (no_write old.schema text reads h.0)

  -- a reading that does not begin leaves the rows
  pub refused_rests : {X : Type 0} (text : List ℕ) (params : Row) (old new : Held S)
      (result : Result X Error) → IsReadText text → IsSettled (state g old)
      → OnErr result (IsRefused g text params old result new)
      → OnErr result ((HasCleanDisk (state g new) → LeavesRows (state g old) (state g new))
      × CrashKeeps (state g old) (state g new))
  refused_rests text params old new (Ok x) reads settled h = tt
  refused_rests text params old new (Err e) reads settled h = (
    λ clean. failed_rests (state g old) (state g new) settled
        (query_leaves text params (state g old) (state g new) e (h.err clean)),
    weaker _ _ _ (λ db. reading_commits_nothing _ text params db reads) h.survives,
  )

  module _ (account : List ℕ) (from to : ℤ) (old new : Held S) (listed : List Obligation)
      (has : HasGiven g LIST_OBLIGATIONS.now (pair_given account from to) old
      (map obligation_cells listed)) where
    stays : IsUnchanged (state g old) (state g new) → IsUnchanged (state g new) (state g new)
    stays same = (
      record {
        was_open = same.0.is_open;
        is_open = same.0.is_open;
        now_is = refl;
        committed_is = refl;
        mode = refl;
      },
      record { changes = refl; last_rowid = refl },
      refl,
    )

    -- with no further row, those that were given are all
    pub all_given : (row : Option Row) → Advances g old new row → IsUnchanged (state g old)
        (state g new) → None ≡ row
        → (t : Tables) → Stands (state g new).now t → Lists ObligationsRise (IsObligation account)
        (filter (is_obligation_between account from to) (t Obligations)) listed
    all_given row moves same none t stands =
        let shown = subst (GivesOn g LIST_OBLIGATIONS.now (pair_given account from to) old new
        (map obligation_cells listed)) (sym none)
        (moves LIST_OBLIGATIONS.now (pair_given account from to) (map obligation_cells listed)
        has) in
        let there : Stands (state g old).now t =
        subst (λ (db : Database). Stands db t) same.0.now_is stands in
        all_listed account from to (state g old) (state g new) listed t there shown

    map_more : (xs : List Obligation) (o : Obligation) → map obligation_cells (xs ++ o ∷ [])
        ≡ map obligation_cells xs ++ obligation_cells o ∷ []
    map_more [] o = refl
    map_more (x ∷ xs) o = ap (λ rows. obligation_cells x ∷ rows) (map_more xs o)

    -- with one more row, those that were given are the first
    pub first_given : (row : Option Row) (cells : Row) → Advances g old new row
        → IsUnchanged (state g old) (state g new) → Some cells ≡ row → (o : Obligation)
        → cells ≡ obligation_cells o
        → HasGiven g LIST_OBLIGATIONS.now (pair_given account from to) new
        (map obligation_cells (listed ++ o ∷ []))
        × ((t : Tables) → Stands (state g new).now t → ListsFirst ObligationsRise
        (IsObligation account) (filter (is_obligation_between account from to) (t Obligations))
        (listed ++ o ∷ []))
    first_given row cells moves same some o is =
        let more = subst (GivesOn g LIST_OBLIGATIONS.now (pair_given account from to) old new
        (map obligation_cells listed)) (sym some)
        (moves LIST_OBLIGATIONS.now (pair_given account from to) (map obligation_cells listed)
        has) in
        let one = subst (λ z. HasGiven g LIST_OBLIGATIONS.now (pair_given account from to) new
        (map obligation_cells listed ++ z ∷ [])) is more in
        let given = subst (HasGiven g LIST_OBLIGATIONS.now (pair_given account from to) new)
        (sym (map_more listed o)) one in (
          given,
          λ t stands. first_listed account from to (state g new) (stays same)
              (listed ++ o ∷ []) t stands
              (given_begin g LIST_OBLIGATIONS.now (pair_given account from to) new
              (map obligation_cells (listed ++ o ∷ [])) given),
        )
