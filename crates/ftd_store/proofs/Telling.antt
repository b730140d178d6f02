-- What a call tells of the rows, from the query that it runs; and what it makes of them, from its
-- statement.
use Rattle.std.proofs.Common.{◌≡◌, ◌<◌, ◌^◌, arith, length, ℕ, pos, List, [], ◌∷◌, map, Result, Ok}
use Rattle.std.proofs.Common.{Err, Option, Bool, true, false, sym, subst, ◌∙◌}
use Rattle.std.specs.Borrow.{MutBor}
use Rattle.ftd_sql.specs.States.{CrashKeeps}
use Rattle.std.specs.Prelude.{filter, min, IfOk, OnOk}
use Rattle.sqlite.specs.Order.{Row}
use Rattle.sqlite.specs.Store as store
use Rattle.sqlite.specs.State.{HasCleanDisk, KeepsCommit, IsUnchanged, Shown, Executes}
use Rattle.ftd_sql.specs.Kept.{changed}
use Rattle.ftd_sql.specs.declared.TableName.{TableName}
use Rattle.ftd_sql.specs.Rows.{RowOf}
use Rattle.ftd_sql.specs.Standing.{Tables, Stands, with_rows}
use Rattle.ftd_sql.proofs.Meanings as meaning
use Rattle.ftd_store.specs.declared.faults.StoreFault.{StoreFault}
use Rattle.ftd_store.specs.Cells.{count_cells}
use Rattle.ftd_sql.proofs.Counting.{greatest_count}
use Rattle.sqlite.specs.declared.types.Value.TheVariants.{Int}
use Rattle.sqlite.proofs.Callers.{unchanged_then}
use Rattle.ftd_store.specs.Reading.{rows_of}
use Rattle.ftd_store.specs.Lists.{Lists}
use Rattle.ftd_store.proofs.Found.{only_shown}
use Rattle.ftd_store.proofs.Listed.{lists_shown}
use Rattle.ftd_store.specs.declared.tx.Tx.{Tx}
use Rattle.ftd_store.specs.declared.store.Store.{Store}
use Rattle.ftd_store.specs.Seen.{seen, shown}
use Rattle.ftd_store.proofs.Going.{fails, goes_on, then_goes}
use Rattle.ftd_store.specs.Frame.{HasFailed, Frame, Queries, Reads, WritesOne}

-- a query that fails
pub fails_to_query : {S A : Type 0} (g : store.Ghosts S) (old new : Tx S) (left : MutBor (Store S))
    (result : Result A StoreFault) (e : StoreFault) (sql : List ℕ) (params : Row)
    (IsRead : A → List Row → Type 0)
    → result ≡ Err e → new.store ≡ left → HasFailed new → left.ghost_name ≡ old.store.ghost_name
    → old.failed ≡ false
    → (HasCleanDisk (seen g left.now) → KeepsCommit (shown g old) (seen g left.now))
    → CrashKeeps (shown g old) (seen g left.now) → Queries g old new result sql params IsRead
fails_to_query g old new left result e sql params IsRead is untouched failed same sound kept crash =
    record {
      frame = fails g old new left result e is untouched failed same sound kept crash;
      same = λ clean. subst (λ r. OnOk r (IsUnchanged (shown g old) (shown g new))) (sym is) tt;
      showed = λ clean.
          subst (λ r. IfOk r (λ x. (rows : List Row) × Shown sql params (shown g old)
          (shown g new) rows × IsRead x rows)) (sym is) tt;
    }

module _ {S A : Type 0} (g : store.Ghosts S) (old new : Tx S) where
  -- from what the answer shows
  pub reads_by : (result : Result A StoreFault) (sql : List ℕ) (params : Row) (IsRead : A → List Row
      → Type 0) (Fact : A → Tables → Type 0)
      → ((x : A) (rows : List Row) (t : Tables) → Stands (shown g old).now t
      → Shown sql params (shown g old) (shown g new) rows → IsRead x rows → Fact x t)
      → Queries g old new result sql params IsRead → Reads g old new result Fact
  reads_by (Ok x) sql params IsRead Fact tells q = record {
    frame = q.frame;
    does = λ clean t stands. let read = q.showed clean in
        (tells x read.0 t stands read.1 read.2, q.same clean);
  }
  reads_by (Err e) sql params IsRead Fact tells q = record { frame = q.frame; does = λ clean. tt }

-- what follows from what was read
pub reads_on : {S A B : Type 0} {g : store.Ghosts S} {old new : Tx S} {x : A}
    {Fact : A → Tables → Type 0} (y : B) (More : B → Tables → Type 0)
    → Reads g old new (Ok x) Fact → ((t : Tables) → Fact x t → More y t)
    → Reads g old new (Ok y) More
reads_on {g = g} {old = old} {new = new} {x = x} y More r tells = record {
  frame = goes_on g old new x y r.frame;
  does = λ clean t stands. let read = r.does clean t stands in (tells t read.0, read.1);
}

-- two readings, one after the other
pub then_reads : {S A B C : Type 0} {g : store.Ghosts S} {old mid new : Tx S} {x : A} {y : B}
    {First : A → Tables → Type 0} {Second : B → Tables → Type 0} (z : C)
    (Both : C → Tables → Type 0)
    → Reads g old mid (Ok x) First → Reads g mid new (Ok y) Second
    → ((t : Tables) → First x t → Second y t → Both z t) → Reads g old new (Ok z) Both
then_reads {g = g} {old = old} {mid = mid} {new = new} z Both p q tells = record {
  frame = then_goes z p.frame q.frame;
  does = λ clean t stands.
      let one = p.does (omega (arith, q.frame.crash.clean)) t stands in
      let two = q.does clean t (subst (λ db. Stands db t) (sym one.1.0.now_is) stands) in
      (tells t one.0 two.0, unchanged_then (shown g old) (shown g mid) (shown g new) one.1 two.1);
}

-- the value of a key, or none
pub finds : {S Y : Type 0} {g : store.Ghosts S} {old new : Tx S}
    {result : Result (Option Y) StoreFault} {n : TableName} {sql : List ℕ} {params : Row}
    (test : RowOf n → Bool) {see : RowOf n → Row} {seen : Y → Row} (row : Y → RowOf n)
    → meaning.ShowsTested n sql params test see → ((x : RowOf n) (y : Y) → test x ≡ true
    → see x ≡ seen y → x ≡ row y)
    → Queries g old new result sql params (λ found rows. rows ≡ rows_of seen found)
    → Reads g old new result (λ found t. filter test (t n) ≡ rows_of row found)
finds {g = g} {old = old} {new = new} {result = result} {n = n} {sql = sql} {params = params}
    test {see = see} {seen = seen} row means same q =
    reads_by g old new result sql params _ _ (λ found rows t stands showed is.
    only_shown see seen row test (t n) found rows same
    (means (shown g old) (shown g new) rows t stands showed) is) q

-- the values of some rows, in an order
pub lists : {S A Y : Type 0} {g : store.Ghosts S} {old new : Tx S} {result : Result A StoreFault}
    (items : A → List Y) (n : TableName) {sql : List ℕ} {params : Row} (test : RowOf n → Bool)
    {see : RowOf n → Row} {seen : Y → Row} {Rise : RowOf n → RowOf n → Type 0}
    (IsRowOf : RowOf n → Y → Type 0) → meaning.ListsTested n sql params test see Rise →
    ((x : RowOf n) (y : Y) → test x ≡ true
    → see x ≡ seen y → IsRowOf x y)
    → Queries g old new result sql params (λ listed rows. rows ≡ map seen (items listed))
    → Reads g old new result (λ listed t. Lists Rise IsRowOf (filter test (t n)) (items listed))
lists {g = g} {old = old} {new = new} {result = result} items n {sql = sql} {params = params} test
    {see = see} {seen = seen} {Rise = Rise} IsRowOf means same q =
    reads_by g old new result sql params _ _ (λ listed rows t stands showed is.
    let read = means (shown g old) (shown g new) rows t stands showed in
    lists_shown Rise IsRowOf test see seen same (t n) read.0 (items listed) read.1 read.3
    (sym read.2 ∙ is)) q

-- the count is the number that the engine answers, which it answers exactly up to its greatest
pub same_count : (count length : ℕ) (rows : List Row) → count < 2 ^ 32
    → rows ≡ count_cells count ∷ [] → rows ≡ (Int (pos (min length greatest_count)) ∷ []) ∷ []
    → count ≡ length
same_count count length rows small shows tells =
    let same : count ≡ min length greatest_count = cc in
    omega arith

-- how many rows there are
pub counts : {S : Type 0} {g : store.Ghosts S} {old new : Tx S} {result : Result ℕ StoreFault}
    {n : TableName} {sql : List ℕ} {params : Row} (test : RowOf n → Bool)
    → meaning.IsCounted n sql params test
    → Queries g old new result sql params (λ count rows. (rows ≡ count_cells count ∷ [])
    × (count < 2 ^ 32)) → Reads g old new result (λ count t. count ≡ length (filter test (t n)))
counts {g = g} {old = old} {new = new} {result = result} {n = n} {sql = sql} {params = params}
    test means q =
    reads_by g old new result sql params _ _ (λ count rows t stands showed is. same_count count
    (length (filter test (t n))) rows is.1 is.0
    (means (shown g old) (shown g new) rows t stands showed)) q

-- the one row of a key is changed
pub changes_one : {S : Type 0} {g : store.Ghosts S} {old new : Tx S}
    {result : Result (Unit {0}) StoreFault} (n : TableName) (sql : List ℕ) (params : Row)
    (test : RowOf n → Bool) (change : RowOf n → RowOf n)
    → meaning.ChangesOne n sql params test change
    → Frame g old new result
    → (HasCleanDisk (shown g new)
    → OnOk result (Executes sql params (shown g old) (shown g new) (Ok 1)))
    → WritesOne g old new result (λ t. filter test (t n))
    (λ t. with_rows n (map (changed test change) (t n)) t)
changes_one {g = g} {old = old} {new = new} {result = Ok x} n sql params test change means frame ran
    = record {
      frame = frame;
      does = λ clean t stands.
          let made = (means (shown g old) (shown g new) t stands).0 (ran clean) in (made.1, made.0);
    }
changes_one {result = Err e} n sql params test change means frame ran =
    record { frame = frame; does = λ clean. tt }
