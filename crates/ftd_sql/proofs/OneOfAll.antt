-- What the database stands for after one of its tables was written: any two tables are told apart.
use Rattle.std.proofs.Common.{◌≡◌, ◌≢◌, ◌⊎◌, inl, inr, ℕ, ◌+◌, ◌*◌, false, List, refl, sym, ap}
use Rattle.std.proofs.Common.{subst, ◌∙◌, length, arith}
use Rattle.std.specs.Prelude.{◌==◌}
use Rattle.std.proofs.lemmas.Bool.Decides.{nat_tests}
use Rattle.sqlite.specs.Effect.{Database}
use Rattle.sqlite.specs.Table.{Table}
use Rattle.ftd_sql.specs.Kept.{HasCells}
use Rattle.ftd_sql.specs.Places.{Holds}
use Rattle.ftd_sql.proofs.OneTable.{WritesOne, still, holds_now, others_stay}
use Rattle.ftd_sql.specs.declared.TableName.{TableName}
use Rattle.ftd_sql.specs.declared.TableName.TheVariants.{Metas, Accounts, ReportedQuarters}
use Rattle.ftd_sql.specs.declared.TableName.TheVariants.{CalendarYears, Holidays, Years, Runs}
use Rattle.ftd_sql.specs.declared.TableName.TheVariants.{Payments, Obligations, Forms}
use Rattle.ftd_sql.specs.declared.TableName.TheVariants.{ReportedYears, AddedHolidays}
use Rattle.ftd_sql.specs.declared.TableName.TheVariants.{CorrectedQuarters, CorrectedYears}
use Rattle.ftd_sql.specs.declared.TableName.TheVariants.{ChangedHolidays, CorrectedAccounts}
use Rattle.ftd_sql.specs.Names.{name_of}
use Rattle.ftd_sql.specs.Rows.{RowOf, cells_of}
use Rattle.ftd_sql.specs.Layout.{table_of, is_rewritten}
use Rattle.ftd_sql.specs.Standing.{Tables, with_rows, Stands, KeepsForeign, Becomes}

-- each two of the desk's tables differ in the length of the name or in the number of columns
abbrev mark : Table → ℕ
mark t = length t.name + 100 * length t.columns

-- another table, whose rows stay where those of the first are set
abbrev IsOther : TableName → TableName → Type 0
IsOther n m = ((mark (table_of m 0) == mark (table_of n 0)) ≡ false)
    × ((rows : List (RowOf n)) (t : Tables) → with_rows n rows t m ≡ t m)

-- two names are one, or name two tables
same_or_other : (n m : TableName) → (n ≡ m) ⊎ IsOther n m
same_or_other Metas Metas = inl refl
same_or_other Accounts Accounts = inl refl
same_or_other ReportedQuarters ReportedQuarters = inl refl
same_or_other CalendarYears CalendarYears = inl refl
same_or_other Holidays Holidays = inl refl
same_or_other Years Years = inl refl
same_or_other Runs Runs = inl refl
same_or_other Payments Payments = inl refl
same_or_other Obligations Obligations = inl refl
same_or_other Forms Forms = inl refl
same_or_other ReportedYears ReportedYears = inl refl
same_or_other AddedHolidays AddedHolidays = inl refl
same_or_other CorrectedQuarters CorrectedQuarters = inl refl
same_or_other CorrectedYears CorrectedYears = inl refl
same_or_other ChangedHolidays ChangedHolidays = inl refl
same_or_other CorrectedAccounts CorrectedAccounts = inl refl
same_or_other n m = inr (refl, λ rows t. refl)

-- the rows that are set are the rows then
with_its_rows : (n : TableName) (rows : List (RowOf n)) (t : Tables) → with_rows n rows t n ≡ rows
with_its_rows Metas rows t = refl
with_its_rows Accounts rows t = refl
with_its_rows ReportedQuarters rows t = refl
with_its_rows CalendarYears rows t = refl
with_its_rows Holidays rows t = refl
with_its_rows Years rows t = refl
with_its_rows Runs rows t = refl
with_its_rows Payments rows t = refl
with_its_rows Obligations rows t = refl
with_its_rows Forms rows t = refl
with_its_rows ReportedYears rows t = refl
with_its_rows AddedHolidays rows t = refl
with_its_rows CorrectedQuarters rows t = refl
with_its_rows CorrectedYears rows t = refl
with_its_rows ChangedHolidays rows t = refl
with_its_rows CorrectedAccounts rows t = refl

-- two tables of two marks are two
differ : (n m : TableName) (i j : ℕ) → (mark (table_of m 0) == mark (table_of n 0)) ≡ false
    → table_of m i ≢ table_of n j
differ n m i j two e = let same : mark (table_of m 0) ≡ mark (table_of n 0) = ap mark e in
    grind (arith, nat_tests)

-- one table has these rows now, and every other stays
pub stands_now : (n : TableName) (old new : Database) (t : Tables) (rows : List (RowOf n))
    → (h : Stands old t) → (w : WritesOne old new (h n).tree)
    → HasCells (cells_of n) (w.next (h n).tree) rows
    → Becomes old new (with_rows n rows t)
stands_now n old new t rows h w k = (
  λ m. each m (same_or_other n m),
  λ name u at place other. others_stay old new (name_of n) (table_of n (h n).tree) (h n).at
      (h n).place w name u at place (λ e. other n (ap (λ (v : Table). v.name) e)),
)
  where
    written : Holds (is_rewritten n) new (name_of n) (table_of n) (cells_of n)
        (with_rows n rows t n)
    written = subst (Holds (is_rewritten n) new (name_of n) (table_of n) (cells_of n))
        (sym (with_its_rows n rows t)) (holds_now old new _ _ _ _ _ _ rows (h n) w k)

    each : (m : TableName) → (n ≡ m) ⊎ IsOther n m → Holds (is_rewritten m) new (name_of m)
        (table_of m) (cells_of m) (with_rows n rows t m)
    each m (inl same) = subst (λ l. Holds (is_rewritten l) new (name_of l) (table_of l) (cells_of l)
        (with_rows n rows t l)) same written
    each m (inr other) =
        subst (Holds (is_rewritten m) new (name_of m) (table_of m) (cells_of m))
        (sym (other.1 rows t))
        (still old new _ _ _ _ _ _ _ (table_of n (h n).tree) (h n).at (h n).place w (h m)
        (differ n m (h m).tree (h n).tree other.0))

-- rows that are set twice are those of the second time
pub set_twice : (n : TableName) (xs ys : List (RowOf n)) (t : Tables) (m : TableName)
    → with_rows n ys (with_rows n xs t) m ≡ with_rows n ys t m
set_twice n xs ys t m = go m (same_or_other n m)
  where
    here : with_rows n ys (with_rows n xs t) n ≡ with_rows n ys t n
    here = with_its_rows n ys (with_rows n xs t) ∙ sym (with_its_rows n ys t)

    go : (m : TableName) → (n ≡ m) ⊎ IsOther n m → with_rows n ys (with_rows n xs t) m
        ≡ with_rows n ys t m
    go m (inl same) = subst (λ l. with_rows n ys (with_rows n xs t) l ≡ with_rows n ys t l) same
        here
    go m (inr other) = other.1 ys (with_rows n xs t) ∙ other.1 xs t ∙ sym (other.1 ys t)

-- rows that are those that are there
pub set_own : (n : TableName) (rows : List (RowOf n)) (t : Tables) → rows ≡ t n → (m : TableName)
    → t m ≡ with_rows n rows t m
set_own n rows t own m = go m (same_or_other n m)
  where
    go : (m : TableName) → (n ≡ m) ⊎ IsOther n m → t m ≡ with_rows n rows t m
    go m (inl same) = subst (λ l. t l ≡ with_rows n rows t l) same
        (sym own ∙ sym (with_its_rows n rows t))
    go m (inr other) = sym (other.1 rows t)

-- the same rows, table by table
pub stands_same : (db : Database) (t u : Tables) → ((n : TableName) → t n ≡ u n) → Stands db t
    → Stands db u
stands_same db t u same h = λ n. subst (Holds (is_rewritten n) db (name_of n) (table_of n)
    (cells_of n)) (same n) (h n)

-- two steps, one after the other, keep the tables of other names
pub foreign_then : (a b c : Database) → KeepsForeign a b → KeepsForeign b c → KeepsForeign a c
foreign_then a b c p q = λ name t at place other. let one = p name t at place other in
    let two = q name t at one.0 other in (two.0, two.1 ∙ one.1)
