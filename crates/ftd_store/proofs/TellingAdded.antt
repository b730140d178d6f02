-- What a call tells of the rows that it reads in the order in which they were added, and of how
-- many there are.
use Rattle.std.proofs.Common.{◌≡◌, ◌<◌, ◌^◌, length, ℕ, List, [], ◌∷◌, map, Result}
use Rattle.std.proofs.Common.{Option, None, Some, Bool, true, not, false, sym, subst, refl, ◌∙◌}
use Rattle.std.proofs.Common.{inl, inr}
use Rattle.std.specs.Prelude.{filter, Vec}
use Rattle.std.specs.List.{All, list_any}
use Rattle.std.proofs.lemmas.Bool.{cases_Bool}
use Rattle.sqlite.specs.Order.{Row}
use Rattle.sqlite.specs.Store as store
use Rattle.ftd_sql.specs.declared.TableName.{TableName}
use Rattle.ftd_sql.specs.Rows.{RowOf}
use Rattle.ftd_sql.proofs.RowOrder as meaning
use Rattle.ftd_store.specs.declared.faults.StoreFault.{StoreFault}
use Rattle.ftd_store.specs.declared.tx.Tx.{Tx}
use Rattle.ftd_store.specs.Added.{AreValues, ReadsRows, CountsAll}
use Rattle.ftd_store.specs.Cells.{count_cells}
use Rattle.ftd_store.specs.Frame.{Queries, Reads}
use Rattle.ftd_store.specs.Seen.{shown}
use Rattle.ftd_store.proofs.Listed.{none_fails}
use Rattle.ftd_store.proofs.Same.{IsTold}
use Rattle.ftd_store.proofs.Telling.{reads_by, same_count}

-- rows that all pass the test, and show the cells of these values, are the rows of the values
rows_told : {X Y : Type 0} (test : X → Bool) (see : X → Row) (seen : Y → Row) (row : Y → X)
    → IsTold test see seen (λ x y. x ≡ row y) → (xs : List X) (ys : List Y)
    → list_any (λ x. not (test x)) xs ≡ false → map see xs ≡ map seen ys → map row ys ≡ xs
rows_told test see seen row same [] [] all h = refl
rows_told test see seen row same [] (y ∷ ys) all h = absurd cc
rows_told test see seen row same (x ∷ xs) [] all h = absurd cc
rows_told test see seen row same (x ∷ xs) (y ∷ ys) all h = elim (cases_Bool (test x)) [
  | inl passes ↦
      (let one : x ≡ row y = same x y passes cc in
      let more : map row ys ≡ xs = rows_told test see seen row same xs ys (rw passes at all) cc in
      cc)
  | inr fails ↦ absurd (let wrong = rw fails at all in cc)
]

-- what was read of an answer was read of the rows that it shows
rows_read : {X Y A : Type 0} (test : X → Bool) (see : X → Row) (seen : Y → Row)
    (IsReadable : Row → Type 0) (row : Y → X) → IsTold test see seen (λ x y. x ≡ row y)
    → (xs : List X) (found : Option (Vec Y A)) (rows : List Row)
    → list_any (λ x. not (test x)) xs ≡ false → rows ≡ map see xs
    → AreValues seen IsReadable found rows → ReadsRows row see IsReadable found xs
rows_read test see seen IsReadable row same xs None rows all is bad =
    subst (λ rs. ¬ All IsReadable rs) is bad
rows_read test see seen IsReadable row same xs (Some values) rows all is read =
    rows_told test see seen row same xs values.items all (sym is ∙ read)

none_wrong : {X : Type 0} (xs : List X) → list_any (λ x. not true) xs ≡ false
none_wrong [] = refl
none_wrong (x ∷ xs) = none_wrong xs

-- the rows that pass the test
pub reads_rows : {S Y A : Type 0} {g : store.Ghosts S} {old new : Tx S}
    {result : Result (Option (Vec Y A)) StoreFault} {n : TableName} {sql : List ℕ} {params : Row}
    (test : RowOf n → Bool) {see : RowOf n → Row} {seen : Y → Row} (IsReadable : Row → Type 0)
    (row : Y → RowOf n)
    → meaning.IsInRowOrder n sql params test see → IsTold test see seen (λ x y. x ≡ row y)
    → Queries g old new result sql params (λ found rows. AreValues seen IsReadable found rows)
    → Reads g old new result
    (λ found t. ReadsRows row see IsReadable found (filter test (t n)))
reads_rows {g = g} {old = old} {new = new} {result = result} {n = n} {sql = sql} {params = params}
    test {see = see} {seen = seen} IsReadable row means same q =
    reads_by g old new result sql params _ _ (λ found rows t stands showed is.
    rows_read test see seen IsReadable row same (filter test (t n)) found rows
    (none_fails test (t n)) (means (shown g old) (shown g new) rows t stands showed) is) q

-- all rows of a table
pub reads_all_rows : {S Y A : Type 0} {g : store.Ghosts S} {old new : Tx S}
    {result : Result (Option (Vec Y A)) StoreFault} (n : TableName) {sql : List ℕ}
    {see : RowOf n → Row} {seen : Y → Row} (IsReadable : Row → Type 0) (row : Y → RowOf n)
    → meaning.IsAllInRowOrder n sql see → ((x : RowOf n) (y : Y) → see x ≡ seen y → x ≡ row y)
    → Queries g old new result sql [] (λ found rows. AreValues seen IsReadable found rows)
    → Reads g old new result (λ found t. ReadsRows row see IsReadable found (t n))
reads_all_rows {g = g} {old = old} {new = new} {result = result} n {sql = sql}
    {see = see} {seen = seen} IsReadable row means same q =
    reads_by g old new result sql [] _ _ (λ found rows t stands showed is.
    rows_read (λ x. true) see seen IsReadable row (λ x y passes h. same x y h) (t n) found rows
    (none_wrong (t n)) (means (shown g old) (shown g new) rows t stands showed) is) q

-- how many rows a table has
pub counts_all : {S : Type 0} {g : store.Ghosts S} {old new : Tx S} {result : Result ℕ StoreFault}
    (n : TableName) {sql : List ℕ} → meaning.IsAllCounted n sql
    → Queries g old new result sql [] (λ count rows. (rows ≡ count_cells count ∷ [])
    × (count < 2 ^ 32)) → Reads g old new result (CountsAll n)
counts_all {g = g} {old = old} {new = new} {result = result} n {sql = sql} means q =
    reads_by g old new result sql [] _ _ (λ count rows t stands showed is. same_count count
    (length (t n)) rows is.1 is.0 (means (shown g old) (shown g new) rows t stands showed)) q
