-- Making the desk's tables one by one, in a database that may have others.
use Rattle.std.proofs.Common.{◌≡◌, ◌++◌, ◌<◌, ◌+◌, ℕ, zero, suc, List, [], ◌∷◌, take, get_or}
use Rattle.std.proofs.Common.{length, IsTrue, Ok, None, refl, ap, subst, true, false, arith, Bool}
use Rattle.std.proofs.Common.{◌≤◌, ◌∙◌, sym, inl, inr}
use Rattle.std.specs.Prelude.{slice_index_or, nat_lt, filter}
use Rattle.std.specs.List.{All, AllByRecursion}
use Rattle.std.proofs.lemmas.Bool.{cases_Bool, false≢true}
use Rattle.std.proofs.lemmas.Bool.Decides.{nat_tests}
use Rattle.std.proofs.lemmas.List.Elements.{All-append, filter_passes}
use Rattle.sqlite.specs.Does.{lacks_sequence}
use Rattle.sqlite.specs.Effect.{Database}
use Rattle.sqlite.specs.Schema.{Schema}
use Rattle.sqlite.specs.State.{State, Executes}
use Rattle.sqlite_ast.specs.declared.CreateTable.{CreateTable as Definition}
use Rattle.sqlite_ast.specs.declared.Statement.TheVariants as written
use Rattle.sqlite_schema.specs.Names.{same_name, table_named}
use Rattle.sqlite_tied.specs.Compute.{everything}
use Rattle.ftd_sql.specs.Places.{Holds, HasNoAction, IsUnnamed, KeepsTables}
use Rattle.ftd_sql.specs.TextKinds.{IsReadAs}
use Rattle.ftd_sql.proofs.Creating.{Defines, creates_any}
use Rattle.ftd_sql.proofs.Grown.{Grown, grown_one, grown_then, grown_keeps}
use Rattle.ftd_sql.proofs.Grown.{lacks_kept, starts, holds_on}
use Rattle.ftd_sql.specs.declared.TableName.{TableName}
use Rattle.ftd_sql.specs.declared.TableName.TheVariants.{Metas, Accounts, ReportedQuarters}
use Rattle.ftd_sql.specs.declared.TableName.TheVariants.{CalendarYears, Holidays, Years, Runs}
use Rattle.ftd_sql.specs.declared.TableName.TheVariants.{Payments, Obligations, Forms}
use Rattle.ftd_sql.specs.declared.TableName.TheVariants.{ReportedYears, AddedHolidays}
use Rattle.ftd_sql.specs.declared.TableName.TheVariants.{CorrectedQuarters, CorrectedYears}
use Rattle.ftd_sql.specs.declared.TableName.TheVariants.{ChangedHolidays, CorrectedAccounts}
use Rattle.ftd_sql.specs.Names.{name_of, all_names, later_names, since}
use Rattle.ftd_sql.specs.Rows.{cells_of}
use Rattle.ftd_sql.specs.Layout.{table_of, references_of, is_rewritten}
use Rattle.ftd_sql.specs.Standing.{Tables, Stands, no_rows, StandsAs, rows_as}
use Rattle.ftd_sql.specs.Making.{create_of, AreFree, AreEmpty}
use Rattle.ftd_sql.proofs.OneOfAll.{stands_same}

-- what the text says, with no look at a schema
Says : TableName → Type 0
Says n = (d : Definition) × IsReadAs (create_of n) (written.CreateTable d)
    × Defines d (table_of n 0)

says : (n : TableName) → Says n
unfolding everything Says
says Metas = (
  _,
  record { read = _; is = refl; said = refl; untimed = refl; whole = refl },
  record { fresh = refl; must = refl; is = refl; whole = refl },
)
says Accounts = (
  _,
  record { read = _; is = refl; said = refl; untimed = refl; whole = refl },
  record { fresh = refl; must = refl; is = refl; whole = refl },
)
says ReportedQuarters = (
  _,
  record { read = _; is = refl; said = refl; untimed = refl; whole = refl },
  record { fresh = refl; must = refl; is = refl; whole = refl },
)
says CalendarYears = (
  _,
  record { read = _; is = refl; said = refl; untimed = refl; whole = refl },
  record { fresh = refl; must = refl; is = refl; whole = refl },
)
says Holidays = (
  _,
  record { read = _; is = refl; said = refl; untimed = refl; whole = refl },
  record { fresh = refl; must = refl; is = refl; whole = refl },
)
says Years = (
  _,
  record { read = _; is = refl; said = refl; untimed = refl; whole = refl },
  record { fresh = refl; must = refl; is = refl; whole = refl },
)
says Runs = (
  _,
  record { read = _; is = refl; said = refl; untimed = refl; whole = refl },
  record { fresh = refl; must = refl; is = refl; whole = refl },
)
says Payments = (
  _,
  record { read = _; is = refl; said = refl; untimed = refl; whole = refl },
  record { fresh = refl; must = refl; is = refl; whole = refl },
)
says Obligations = (
  _,
  record { read = _; is = refl; said = refl; untimed = refl; whole = refl },
  record { fresh = refl; must = refl; is = refl; whole = refl },
)
says Forms = (
  _,
  record { read = _; is = refl; said = refl; untimed = refl; whole = refl },
  record { fresh = refl; must = refl; is = refl; whole = refl },
)
says ReportedYears = (
  _,
  record { read = _; is = refl; said = refl; untimed = refl; whole = refl },
  record { fresh = refl; must = refl; is = refl; whole = refl },
)
says AddedHolidays = (
  _,
  record { read = _; is = refl; said = refl; untimed = refl; whole = refl },
  record { fresh = refl; must = refl; is = refl; whole = refl },
)
says CorrectedQuarters = (
  _,
  record { read = _; is = refl; said = refl; untimed = refl; whole = refl },
  record { fresh = refl; must = refl; is = refl; whole = refl },
)
says CorrectedYears = (
  _,
  record { read = _; is = refl; said = refl; untimed = refl; whole = refl },
  record { fresh = refl; must = refl; is = refl; whole = refl },
)
says ChangedHolidays = (
  _,
  record { read = _; is = refl; said = refl; untimed = refl; whole = refl },
  record { fresh = refl; must = refl; is = refl; whole = refl },
)
says CorrectedAccounts = (
  _,
  record { read = _; is = refl; said = refl; untimed = refl; whole = refl },
  record { fresh = refl; must = refl; is = refl; whole = refl },
)

-- no foreign key of the tables has an action
acts_not : (n : TableName) → AllByRecursion HasNoAction (references_of n)
acts_not Metas = tt
acts_not Accounts = tt
acts_not CalendarYears = tt
acts_not n = ((refl, refl), tt)

pub self_named : (n : TableName) → same_name (name_of n) (name_of n) ≡ true
unfolding everything
self_named Metas = refl
self_named Accounts = refl
self_named ReportedQuarters = refl
self_named CalendarYears = refl
self_named Holidays = refl
self_named Years = refl
self_named Runs = refl
self_named Payments = refl
self_named Obligations = refl
self_named Forms = refl
self_named ReportedYears = refl
self_named AddedHolidays = refl
self_named CorrectedQuarters = refl
self_named CorrectedYears = refl
self_named ChangedHolidays = refl
self_named CorrectedAccounts = refl

-- these tables were made, and hold no rows; every other is as it was
pub record AreMade (names : List TableName) (old now : Database) : Type 0 where
  pub grown : Grown old now
  pub empty : AreEmpty names now

-- one more
pub one_made : (names : List TableName) (n : TableName) (old : Database) (a b : State) (count : ℕ)
    → (IsTrue (is_rewritten n) → IsUnnamed old.schema (name_of n))
    → lacks_sequence old.schema ≡ false
    → AreMade names old a.now → Executes (create_of n) [] a b (Ok count)
    → AreMade (names ++ n ∷ []) old b.now × (table_named a.now.schema (name_of n) ≡ None)
unfolding Says
one_made names n old a b count unnamed counted so h =
    let s = says n in
    let m = creates_any a b (create_of n) s.0 (table_of n 0) count s.1 s.2
    (lacks_kept a.now.schema (table_of n 0) refl (so.grown.counted counted)) h in
    let one = grown_one a.now b.now (table_of n 0) m (acts_not n) refl in
    let new = starts a.now b.now _ _ _ _ (cells_of n) m (self_named n) (acts_not n)
    (λ acts. so.grown.unnamed _ (unnamed acts)) in (
      record {
        grown = grown_then old a.now b.now so.grown one;
        empty = All-append (IsEmpty b.now) names (n ∷ []) (λ k d low. holds_on a.now b.now _ _ _ _
            (cells_of (slice_index_or names k d)) [] one (so.empty k d low)) (alone new);
      },
      m.free,
    )
  where
    IsEmpty : Database → TableName → Type 0
    IsEmpty db m = Holds (is_rewritten m) db (name_of m) (table_of m) (cells_of m) []

    alone : IsEmpty b.now n → All (IsEmpty b.now) (n ∷ [])
    alone new zero d low = new
    alone new (suc k) d low = absurd (omega (arith, low))

-- the next of a list
pub next_made : (names : List TableName) (i : ℕ) (text : List ℕ) (old : Database) (a b : State)
    (count : ℕ) → i < length names → text ≡ create_of (get_or names i Metas)
    → AreFree names old.schema
    → AreMade (take i names) old a.now → Executes text [] a b (Ok count)
    → AreMade (take (i + 1) names) old b.now
next_made names i text old a b count low is free so h =
    let n = get_or names i Metas in
    let unnamed = free.unnamed i Metas low in
    let made = one_made (take i names) n old a b count unnamed free.counted so
    (subst (λ sql. Executes sql [] a b (Ok count)) is h) in
    subst (λ ns. AreMade ns old b.now) (take_more names i Metas low) made.0
  where
    take_more : {X : Type 0} (xs : List X) (i : ℕ) (d : X) → i < length xs
        → take i xs ++ get_or xs i d ∷ [] ≡ take (i + 1) xs
    take_more [] i d low = absurd (omega (arith, low))
    take_more (x ∷ xs) zero d low = refl
    take_more (x ∷ xs) (suc i) d low =
        let e : suc i + 1 ≡ suc (i + 1) = omega arith in
        rw e (ap (λ more. x ∷ more) (take_more xs i d (omega (arith, low))))

-- ---- those that came after a version

-- none of them is one whose rows are changed or taken out
unwritten : (n : TableName) → nat_lt 1 (since n) ≡ true → is_rewritten n ≡ false
unwritten Metas h = absurd cc
unwritten Years h = absurd cc
unwritten Runs h = absurd cc
unwritten Payments h = absurd cc
unwritten Obligations h = absurd cc
unwritten n h = refl

-- what came after a version from 1 on came after version 1
came_late : (version : ℕ) (n : TableName) → 1 ≤ version → nat_lt version (since n) ≡ true
    → nat_lt 1 (since n) ≡ true
came_late version n some late = grind (arith, nat_tests)

-- so they can be made beside any tables
pub later_free : (version : ℕ) (s : Schema) → 1 ≤ version → lacks_sequence s ≡ false
    → AreFree (later_names version) s
later_free version s some counted = record { unnamed = each; counted = counted }
  where
    each : All (λ n. IsTrue (is_rewritten n) → IsUnnamed s (name_of n)) (later_names version)
    each k d low acts =
        let n = slice_index_or (later_names version) k d in
        let late = filter_passes (λ m. nat_lt version (since m)) all_names k d low in
        absurd (false≢true (sym (unwritten n (came_late version n some late)) ∙ acts))

-- what holds of those of a list that pass a test holds of each that passes
at_passing : {X : Type 0} (P : X → Type 0) (test : X → Bool) (xs : List X)
    → All P (filter test xs)
    → (k : ℕ) (d : X) → k < length xs → test (get_or xs k d) ≡ true → P (get_or xs k d)
at_passing P test [] all k d low passes = absurd (omega (arith, low))
at_passing P test (x ∷ xs) all zero d low passes = (rw passes at all) 0 d (omega arith)
at_passing P test (x ∷ xs) all (suc k) d low passes = elim (cases_Bool (test x)) [
  | inl first ↦ at_passing P test xs
      (λ j e lower. (rw first at all) (suc j) e (omega (arith, lower))) k d (omega (arith, low))
      passes
  | inr not_first ↦ at_passing P test xs (rw not_first at all) k d (omega (arith, low)) passes
]

-- they were made beside the tables of the version
pub later_made : (version : ℕ) (old now : Database) (t : Tables) → StandsAs version old t
    → AreMade (later_names version) old now → Stands now (rows_as version t) × KeepsTables old now
later_made version old now t stands h = (each, grown_keeps old now h.grown)
  where
    IsThere : TableName → Type 0
    IsThere n = Holds (is_rewritten n) now (name_of n) (table_of n) (cells_of n)
        (rows_as version t n)

    one : (n : TableName) (k : ℕ) → k < length all_names → get_or all_names k Metas ≡ n
        → IsThere n
    one n k low is = elim (cases_Bool (nat_lt version (since n))) [
      | inl late ↦ rw late (subst (λ m. Holds (is_rewritten m) now (name_of m) (table_of m)
          (cells_of m) []) is
          (at_passing (λ m. Holds (is_rewritten m) now (name_of m) (table_of m) (cells_of m) [])
          (λ m. nat_lt version (since m)) all_names h.empty k Metas low (rw is late)))
      | inr early ↦ rw early (holds_on old now _ _ _ _ (cells_of n) (t n) h.grown
          (stands n (grind (arith, nat_tests))))
    ]

    each : Stands now (rows_as version t)
    each Metas = one Metas 0 (omega arith) refl
    each Accounts = one Accounts 1 (omega arith) refl
    each ReportedQuarters = one ReportedQuarters 2 (omega arith) refl
    each CalendarYears = one CalendarYears 3 (omega arith) refl
    each Holidays = one Holidays 4 (omega arith) refl
    each Years = one Years 5 (omega arith) refl
    each Runs = one Runs 6 (omega arith) refl
    each Payments = one Payments 7 (omega arith) refl
    each Obligations = one Obligations 8 (omega arith) refl
    each Forms = one Forms 9 (omega arith) refl
    each ReportedYears = one ReportedYears 10 (omega arith) refl
    each AddedHolidays = one AddedHolidays 11 (omega arith) refl
    each CorrectedQuarters = one CorrectedQuarters 12 (omega arith) refl
    each CorrectedYears = one CorrectedYears 13 (omega arith) refl
    each ChangedHolidays = one ChangedHolidays 14 (omega arith) refl
    each CorrectedAccounts = one CorrectedAccounts 15 (omega arith) refl

-- all of them, as those after version 0
pub all_made : (old now : Database) → AreMade all_names old now → Stands now no_rows
    × KeepsTables old now
all_made old now h =
    let made = later_made 0 old now no_rows none h in
    (stands_same now (rows_as 0 no_rows) no_rows empty made.0, made.1)
  where
    no_earlier : (n : TableName) → since n ≤ 0 → ⊥
    no_earlier Metas before = omega (arith, before)
    no_earlier n before = omega (arith, before)

    none : StandsAs 0 old no_rows
    none n before = absurd (no_earlier n before)

    empty : (n : TableName) → rows_as 0 no_rows n ≡ no_rows n
    empty n = elim (cases_Bool (nat_lt 0 (since n))) [
      | inl late ↦ rw late refl
      | inr early ↦ rw early refl
    ]
