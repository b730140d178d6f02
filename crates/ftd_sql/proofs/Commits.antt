-- A statement on rows that runs inside a transaction commits nothing, in whatever schema, whatever
-- comes of it.
use Rattle.std.proofs.Common.{◌≡◌, inl, inr, ℕ, List, [], ◌∷◌, Option, Ok, Err, refl, subst, Bool}
use Rattle.std.proofs.Common.{true, false, Result, ◌+◌}
use Rattle.std.specs.Prelude.{IsSome, IsTrue, ⊤, if◌then◌else◌}
use Rattle.sqlite.specs.Schema.{Schema}
use Rattle.sqlite.specs.Table.{Table}
use Rattle.sqlite.specs.Tree.{Trees}
use Rattle.sqlite.specs.Order.{Row}
use Rattle.sqlite.specs.Command.{Command}
use Rattle.sqlite.specs.Command.TheVariants.{Select, Insert, Update, Delete}
use Rattle.sqlite.specs.Listing.{understood, misses_table, if_select, is_select, listing_schema}
use Rattle.sqlite.specs.State.{State, CommitsBy, CommitsShowing}
use Rattle.sqlite.proofs.Callers.{IsPlain}
use Rattle.std.proofs.lemmas.Bool.{false≢true}
use Rattle.sqlite_ast.specs.declared.Conflict.TheVariants as conflict
use Rattle.sqlite_ast.specs.declared.Statement.{Statement}
use Rattle.sqlite_ast.specs.declared.Statement.TheVariants as written
use Rattle.sqlite_resolve.specs.declared.error.CompileError.{CompileError}
use Rattle.sqlite_resolve.specs.declared.error.CompileError.TheVariants.{NoSuchTable}
use Rattle.sqlite_resolve.specs.declared.compiled.Compiled.{Compiled}
use Rattle.sqlite_resolve.specs.Lowering.{Checked, and_then}
use Rattle.sqlite_schema.specs.declared.command.Returning.{Returning}
use Rattle.sqlite_resolve.specs.Compile.{small, timed, compiled, planned, meaning, command}
use Rattle.sqlite_resolve.specs.Compile.{returning, read, insert, insert_or_abort, update, delete}
use Rattle.sqlite_resolve.specs.Compile.{on_table, target, new_rows}
use Rattle.sqlite_resolve.specs.Program.{query, program}
use Rattle.sqlite_resolve.specs.Write.{updated, deleted}
use Rattle.sqlite_resolve.specs.Body.{table_at}
use Rattle.ftd_sql.specs.TextKinds.{IsReadAs}
use Rattle.ftd_sql.proofs.Meaning.{select_plain}
use Rattle.ftd_sql.specs.TextKinds.{IsOfRows, IsRowText, IsReadText}

-- the command reads or writes rows
abbrev pub OnRows : Command → Type 0
OnRows (Select q names) = ⊤
OnRows (Insert at source) = ⊤
OnRows (Update at q) = ⊤
OnRows (Delete at q) = ⊤
OnRows _ = ⊥

-- what may follow from a step, whatever it gave
after : {A : Type 0} (o : Checked A) (f : A → Checked Command) (k : Command)
    → ((a : A) → f a ≡ Ok k → OnRows k) → and_then o f ≡ Ok k → OnRows k
after (Ok a) f k each h = each a h
after (Err e) f k each h = absurd cc

last : (k k' : Command) → OnRows k' → ◌≡◌ {A = Checked Command} (Ok k') (Ok k) → OnRows k
last k k' on h = subst OnRows (let same : k' ≡ k = cc in same) on

-- a step on a table of the schema
placed : (s : Schema) (name : List ℕ) (f : ℕ → Table → Checked Command) (k : Command)
    → ((at : ℕ) (t : Table) → f at t ≡ Ok k → OnRows k) → on_table s name f ≡ Ok k → OnRows k
placed s name f k each h =
    after (target s name) (λ at. and_then (table_at s at) (f at)) k
    (λ at e. after (table_at s at) (f at) k (λ t d. each at t d) e) h

of_rows : (s : Schema) (base : ℕ) (st : Statement) (k : Command) → IsOfRows st
    → command s [] base st ≡ Ok k → OnRows k
unfolding command read insert_or_abort insert update delete
of_rows s base (written.Select q) k is h =
    after (query s q) (λ a. and_then (program s a.1 a.0.0) (λ p. Ok (Select p a.0.1))) k
    (λ a e. after (program s a.1 a.0.0) (λ p. Ok (Select p a.0.1)) k
    (λ p d. last k (Select p a.0.1) tt d) e) h
of_rows s base (written.Insert conflict.Abort name columns rows [] []) k is h =
    placed s name (λ at t. and_then (new_rows s t base columns rows) (λ x. Ok (Insert at x))) k
    (λ at t e. after (new_rows s t base columns rows) (λ x. Ok (Insert at x)) k
    (λ x d. last k (Insert at x) tt d) e) h
of_rows s base (written.Update name sets test []) k is h =
    placed s name (λ at t. and_then (updated s at t sets test)
    (λ d. and_then (program s [] d) (λ p. Ok (Update at p)))) k
    (λ at t e. after (updated s at t sets test)
    (λ d. and_then (program s [] d) (λ p. Ok (Update at p))) k
    (λ d e. after (program s [] d) (λ p. Ok (Update at p)) k (λ p d. last k (Update at p) tt d) e)
    e) h
of_rows s base (written.Delete name test []) k is h =
    placed s name
    (λ at t. and_then (deleted s at t test)
    (λ d. and_then (program s [] d) (λ p. Ok (Delete at p)))) k
    (λ at t e. after (deleted s at t test) (λ d. and_then (program s [] d) (λ p. Ok (Delete at p)))
    k
    (λ d e. after (program s [] d) (λ p. Ok (Delete at p)) k (λ p d. last k (Delete at p) tt d) e)
    e) h
of_rows s base written.Empty k is h = elim is [ ]
of_rows s base (written.Insert conflict.Abort name columns rows [] (_ ∷ _)) k is h = elim is [ ]
of_rows s base (written.Insert conflict.Abort name columns rows (_ ∷ _) _) k is h = elim is [ ]
of_rows s base (written.Insert conflict.Ignore name columns rows _ _) k is h = elim is [ ]
of_rows s base (written.Insert conflict.Replace name columns rows _ _) k is h = elim is [ ]
of_rows s base (written.Update name sets test (_ ∷ _)) k is h = elim is [ ]
of_rows s base (written.Delete name test (_ ∷ _)) k is h = elim is [ ]
of_rows s base (written.Pragma _ _) k is h = elim is [ ]
of_rows s base (written.CreateTable _) k is h = elim is [ ]
of_rows s base (written.CreateIndex _) k is h = elim is [ ]
of_rows s base (written.CreateView _ _ _ _) k is h = elim is [ ]
of_rows s base (written.DropTable _ _) k is h = elim is [ ]
of_rows s base (written.DropIndex _ _) k is h = elim is [ ]
of_rows s base (written.DropView _ _) k is h = elim is [ ]
of_rows s base written.Begin k is h = elim is [ ]
of_rows s base written.Commit k is h = elim is [ ]
of_rows s base written.Rollback k is h = elim is [ ]
of_rows s base (written.Savepoint _) k is h = elim is [ ]
of_rows s base (written.Release _) k is h = elim is [ ]
of_rows s base (written.RollbackTo _) k is h = elim is [ ]

on_compiled : (s : Schema) (text : List ℕ) (st : Statement) (r : IsReadAs text st) → IsOfRows st
    → (c : Compiled) → compiled s text ≡ Ok c → OnRows c.command
unfolding compiled planned meaning
on_compiled s text st r is c h = go (returning s base st) (command s [] base st) refl refl
  where
    base : ℕ
    base = small r.read.names + small (timed s [] st)

    go : (x : Checked (Option Returning)) (y : Checked Command) → returning s base st ≡ x
        → command s [] base st ≡ y → OnRows c.command
    go (Err e) y is-x is-y = absurd (let e = rw (r.is, r.said, r.untimed, is-x) at h in cc)
    go (Ok shown) (Err e) is-x is-y =
        absurd (let e = rw (r.is, r.said, r.untimed, is-x, is-y) at h in cc)
    go (Ok shown) (Ok k) is-x is-y = let e = rw (r.is, r.said, r.untimed, is-x, is-y) at h in
        let same : k ≡ c.command = cc in subst OnRows same (of_rows s base st k is is-y)

on_picked : (o : Result Compiled CompileError) → ((d : Compiled) → o ≡ Ok d → OnRows d.command)
    → (c : Compiled) → if_select o ≡ Ok c → OnRows c.command
on_picked (Ok d) each c e = go (is_select d.command) e
  where
    go : (b : Bool) → (if b then Ok d else Err NoSuchTable) ≡ Ok c → OnRows c.command
    go true e = let same : d ≡ c = cc in
        subst (λ (x : Compiled). OnRows x.command) same (each d refl)
    go false e = absurd cc
on_picked (Err k) each c e = absurd cc

pub on_rows : (s : Schema) (text : List ℕ) → IsRowText text → (c : Compiled)
    → understood s text ≡ Ok c → OnRows c.command
unfolding understood
on_rows s text t c h = go (misses_table (compiled s text)) h
  where
    go : (b : Bool) → (if b then if_select (compiled listing_schema text) else compiled s text)
        ≡ Ok c → OnRows c.command
    go false e = on_compiled s text t.0 t.1 t.2 c e
    go true e = on_picked (compiled listing_schema text)
        (on_compiled listing_schema text t.0 t.1 t.2) c e

-- inside a transaction it commits nothing
pub commits_nothing : (s : State) (text : List ℕ) (params : Row) (db : Trees) → IsRowText text
    → IsTrue s.in_transaction → ¬ CommitsBy text params s db
unfolding CommitsBy
commits_nothing s text params db t busy h =
    let rows = on_rows s.now.schema text t h.0 h.1.is in
    elim h.2 [
      | inl c ↦ elim c.0 [
        | inl a ↦ absurd (subst OnRows a rows)
        | inr a ↦ absurd (subst OnRows a.2 rows)
      ]
      | inr w ↦ absurd (let x = w.0 in cc)
    ]

-- a reading commits nothing, inside a transaction or not
pub reading_commits_nothing : (s : State) (text : List ℕ) (params : Row) (db : Trees)
    → IsReadText text → ¬ CommitsShowing text params s db
unfolding CommitsShowing
reading_commits_nothing s text params db t h =
    let bare = subst IsPlain h.1.is (select_plain s.now.schema text t.0 t.1 h.0 h.1.is) in
    false≢true (subst IsSome bare.0 h.2)
