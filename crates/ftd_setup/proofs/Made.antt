-- What the steps of making and migrating come to.
use Rattle.std.proofs.Common.{◌≡◌, ◌<◌, ◌≤◌, ◌++◌, ◌∙◌, ℕ, zero, suc, ◌+◌, drop, take}
use Rattle.std.proofs.Common.{append-nil, append_assoc, arith, pos, List, [], ◌∷◌, codes}
use Rattle.std.proofs.Common.{map, Ok, refl, sym, ap, subst, false}
use Rattle.std.specs.List.Sorted.{IsPermutation}
use Rattle.std.proofs.lemmas.Bool.Decides.{nat_tests}
use Rattle.std.proofs.lemmas.List.Sorted.{IsPermutation-map}
use Rattle.sqlite.specs.Effect.{Database}
use Rattle.sqlite.specs.Does.{lacks_sequence}
use Rattle.sqlite.specs.Order.{Row}
use Rattle.sqlite.specs.declared.types.Value.{Value}
use Rattle.sqlite.specs.Values.{bound_value}
use Rattle.sqlite.specs.declared.types.Value.TheVariants.{Int, Text}
use Rattle.sqlite_value.specs.Order.{column}
use Rattle.ftd_sql.specs.Answers.{name_shown}
use Rattle.ftd_sql.specs.declared.texts.TheConstants.{LIST_ACCOUNTS}
use Rattle.ftd_sql.proofs.Meanings.{lists_names}
use Rattle.sqlite.specs.State.{State, Executes, Shown, IsUnchanged}
use Rattle.sqlite_tied.specs.Compute.{everything}
use Rattle.ftd_sql.specs.Kept.{changed}
use Rattle.ftd_sql.specs.Places.{KeepsTables}
use Rattle.ftd_sql.specs.declared.TableName.{TableName}
use Rattle.ftd_sql.specs.declared.TableName.TheVariants.{Metas, Accounts, Forms}
use Rattle.ftd_sql.specs.Names.{all_names, later_names, since}
use Rattle.ftd_sql.specs.Rows.{cells_of, MetaRow, AccountRow, FormRow}
use Rattle.ftd_sql.specs.Standing.{Tables, no_rows, with_rows, Stands, KeepsForeign, Becomes}
use Rattle.ftd_sql.specs.Standing.{StandsAs, rows_as}
use Rattle.ftd_sql.proofs.OneOfAll.{foreign_then, stands_same, set_own, set_twice}
use Rattle.ftd_sql.specs.Making.{AreFree, IsFree, add_of}
use Rattle.ftd_sql.specs.Tests.{is_tag, with_version}
use Rattle.ftd_sql.proofs.Controls.{keeps_tables_then}
use Rattle.ftd_sql.proofs.Making.{AreMade, all_made, later_free, later_made}
use Rattle.ftd_sql.proofs.Writing.{adds}
use Rattle.ftd_sql.specs.Beginnings.{IsMade, tag_row, HasVersion, on_form_941, IsMigration}
use Rattle.ftd_sql.specs.Beginnings.{IsMigratedFrom}
use Rattle.ftd_setup.specs.Versions.{IsNew, KeepsRows}
use Rattle.ftd_setup.proofs.Foreign.{all_foreign}

-- ---- a new database

-- the tables are there, and have no tag yet
abbrev pub IsUntagged : Database → Database → Type 0
IsUntagged old new = IsFree old.schema → Stands new no_rows × KeepsTables old new

pub untagged : (old mid new : Database) → (AreFree all_names old.schema → AreMade all_names old mid)
    → KeepsRows mid new → IsUntagged old new
untagged old mid new made kept free =
    let one = all_made old mid (made free) in
    let two = kept no_rows one.0 in
    (two.0, keeps_tables_then old mid new one.1 two.1)

pub made : (old : Database) (mid new : State) (count : ℕ) → IsUntagged old mid.now
    → Executes (add_of Metas) (cells_of Metas (tag_row 3)) mid new (Ok count) → IsNew old.schema
    → IsFree old.schema → IsMade old new.now
made old mid new count before ran none free =
    let one = before free in
    let two = adds Metas (tag_row 3) mid new count no_rows one.0 ran in (
      two.0,
      λ name t at place.
          let there = one.1 name t at place in
          let last = two.1 name t at there.0 (all_foreign old.schema none name t at place) in
          (last.0, last.1 ∙ there.1),
    )

-- ---- from an earlier version

-- the tables that came after the version are there, and empty
abbrev pub IsExtended : ℕ → Database → Database → Type 0
IsExtended version old new = (t : Tables) → StandsAs version old t
    → lacks_sequence old.schema ≡ false → Stands new (rows_as version t) × KeepsTables old new

pub extended : (version : ℕ) (old mid new : Database) → 1 ≤ version
    → (AreFree (later_names version) old.schema → AreMade (later_names version) old mid)
    → KeepsRows mid new → IsExtended version old new
extended version old mid new some made kept t stands counted =
    let one = later_made version old mid t stands
    (made (later_free version old.schema some counted)) in
    let two = kept (rows_as version t) one.0 in
    (two.0, keeps_tables_then old mid new one.1 two.1)

-- the tables that came after version 1 are there, and each account is on Form 941
abbrev pub HasForms : Database → Database → Type 0
HasForms old new = (t : Tables) → StandsAs 1 old t → lacks_sequence old.schema ≡ false
    → (accounts : List AccountRow) × IsPermutation (t Accounts) accounts
    × Stands new (with_rows Forms (map on_form_941 accounts) (rows_as 1 t)) × KeepsForeign old new

-- adding the forms to tables
abbrev pub GivesForms : Database → Database → Type 0
GivesForms old new = (t : Tables) → Stands old t → (accounts : List AccountRow) × IsPermutation
    (t Accounts) accounts × Becomes old new
    (with_rows Forms (t Forms ++ map on_form_941 accounts) t)

pub formed : (old mid new : Database) → IsExtended 1 old mid → GivesForms mid new
    → HasForms old new
formed old mid new before gives t first counted =
    let one = before t first counted in
    let two = gives (rows_as 1 t) one.0 in (
      two.0,
      two.1,
      two.2.0,
      foreign_then old mid new (λ name u at place other. one.1 name u at place) two.2.1,
    )

-- rows of the mark with version 3
abbrev marked : List MetaRow → List MetaRow
marked metas = map (changed (is_tag (codes "ftd")) (with_version (pos 3))) metas

-- the tag has version 3 now
abbrev pub SetsVersion : Database → Database → Type 0
SetsVersion old new = (t : Tables) → Stands old t
    → Becomes old new (with_rows Metas (marked (t Metas)) t)

-- a table that came after the version is empty, and an earlier one has its rows
later_empty : (version : ℕ) (t : Tables) (n : TableName) → version < since n
    → rows_as version t n ≡ []
later_empty version t n late = grind (arith, nat_tests)

early_same : (version : ℕ) (t : Tables) (n : TableName) → since n ≤ version
    → rows_as version t n ≡ t n
early_same version t n early = grind (arith, nat_tests)

-- where the rows of one table are put, the others have theirs
beside_metas : (rows : List MetaRow) (t : Tables) (n : TableName) → (n ≡ Metas → ⊥)
    → with_rows Metas rows t n ≡ t n
beside_metas rows t Metas other = absurd (other refl)
beside_metas rows t n other = refl

beside_forms : (rows : List FormRow) (t : Tables) (n : TableName) → (n ≡ Forms → ⊥)
    → with_rows Forms rows t n ≡ t n
beside_forms rows t Forms other = absurd (other refl)
beside_forms rows t n other = refl

-- the rows of version 1 become those of version 3
migration_first : (t : Tables) (accounts : List AccountRow) → HasVersion (t Metas) 1
    → IsPermutation (t Accounts) accounts
    → IsMigration 1 t (with_rows Metas (marked (t Metas))
    (with_rows Forms (map on_form_941 accounts) (rows_as 1 t)))
unfolding everything
migration_first t accounts mark same =
    let forms = map on_form_941 accounts in
    let rows : Tables = with_rows Forms forms (rows_as 1 t) in
    record {
      mark = ap marked mark;
      forms = λ one. IsPermutation-map on_form_941 (t Accounts) accounts same;
      later = λ n late other. beside_metas _ rows n (λ is. absurd (omega (arith, rw is at late)))
          ∙ (beside_forms forms (rows_as 1 t) n other ∙ later_empty 1 t n late);
      others = λ n early other. beside_metas _ rows n other
          ∙ (beside_forms forms (rows_as 1 t) n (λ is. absurd (omega (arith, rw is at early)))
          ∙ early_same 1 t n early);
    }

pub migrated_first : (old mid new : Database) → HasForms old mid → SetsVersion mid new
    → IsMigratedFrom 1 old new
migrated_first old mid new before sets t first mark counted =
    let forms = before t first counted in
    let rows : Tables = with_rows Forms (map on_form_941 forms.0) (rows_as 1 t) in
    let last = sets rows forms.2 in (
      (
        with_rows Metas (marked (t Metas)) rows,
        last.0,
        migration_first t forms.0 mark forms.1,
      ),
      foreign_then old mid new forms.3 last.1,
    )

-- and so do those of version 2
migration_second : (t : Tables) → HasVersion (t Metas) 2
    → IsMigration 2 t (with_rows Metas (marked (t Metas)) (rows_as 2 t))
unfolding everything
migration_second t mark =
    let rows : Tables = rows_as 2 t in
    record {
      mark = ap marked mark;
      forms = λ one. absurd (omega (arith, one));
      later = λ n late other. beside_metas _ rows n (λ is. absurd (omega (arith, rw is at late)))
          ∙ later_empty 2 t n late;
      others = λ n early other. beside_metas _ rows n other ∙ early_same 2 t n early;
    }

pub migrated_second : (old mid new : Database) → IsExtended 2 old mid → SetsVersion mid new
    → IsMigratedFrom 2 old new
migrated_second old mid new before sets t stands mark counted =
    let made = before t stands counted in
    let last = sets (rows_as 2 t) made.0 in (
      (
        with_rows Metas (marked (t Metas)) (rows_as 2 t),
        last.0,
        migration_second t mark,
      ),
      foreign_then old mid new (λ name u at place other. made.1 name u at place) last.1,
    )

-- ---- the forms, one by one

-- the next of the rows names the next of the accounts
next_form : (accounts : List AccountRow) (i : ℕ) (row : Row) (rest : List Row)
    → drop i (map name_shown accounts) ≡ row ∷ rest
    → (a : AccountRow) × (row ≡ name_shown a)
    × (map on_form_941 (take i accounts) ++ on_form_941 a ∷ [] ≡ map on_form_941
    (take (suc i) accounts))
next_form [] zero row rest h = absurd cc
next_form [] (suc i) row rest h = absurd cc
next_form (a ∷ accounts) zero row rest h = (a, cc, refl)
next_form (a ∷ accounts) (suc i) row rest h =
    let more = next_form accounts i row rest h in
    (more.0, more.1, ap (λ forms. on_form_941 a ∷ forms) more.2)

pub no_form_added : (db : Database) (t : Tables) → Stands db t
    → Becomes db db (with_rows Forms (t Forms ++ []) t)
no_form_added db t stands = (
  stands_same db t (with_rows Forms (t Forms ++ []) t)
      (set_own Forms (t Forms ++ []) t (append-nil (t Forms))) stands,
  λ name u at place other. (place, refl),
)

-- a name's row with Form 941 is added
pub form_added : (old new : State) (count : ℕ) (account : AccountRow) (row : Row) (v : Value)
    (t : Tables) → row ≡ name_shown account → v ≡ column row 0 → Stands old.now t
    → Executes (add_of Forms) (bound_value v ∷ Int (pos 0) ∷ []) old new (Ok count)
    → Becomes old.now new.now (with_rows Forms (t Forms ++ on_form_941 account ∷ []) t)
form_added old new count account row v t names is stands ran =
    let cell : bound_value v ≡ Text account.name =
    ap bound_value (is ∙ ap (λ r. column r 0) names) in
    adds Forms (on_form_941 account) old new count t stands
    (subst (λ w. Executes (add_of Forms) (w ∷ Int (pos 0) ∷ []) old new (Ok count)) cell ran)

-- one more of the forms is added
pub more_forms : (old mid new : Database) (accounts : List AccountRow) (names : List Row) (i : ℕ)
    (row : Row) (t : Tables)
    → names ≡ map name_shown accounts → drop i names ≡ row ∷ drop (i + 1) names
    → Becomes old mid (with_rows Forms (t Forms ++ map on_form_941 (take i accounts)) t)
    → ((account : AccountRow) (u : Tables) → row ≡ name_shown account → Stands mid u
    → Becomes mid new (with_rows Forms (u Forms ++ on_form_941 account ∷ []) u))
    → Becomes old new (with_rows Forms (t Forms ++ map on_form_941 (take (i + 1) accounts)) t)
more_forms old mid new accounts names i row t are at before adds_one =
    let next = next_form accounts i row (drop (i + 1) names)
    (subst (λ rows. drop i rows ≡ row ∷ drop (i + 1) names) are at) in
    let form = on_form_941 next.0 in
    let so_far = t Forms ++ map on_form_941 (take i accounts) in
    let more : suc i ≡ i + 1 = omega arith in
    let added = adds_one next.0 (with_rows Forms so_far t) next.1 before.0 in
    let all : so_far ++ form ∷ [] ≡ t Forms ++ map on_form_941 (take (i + 1) accounts) =
    append_assoc (t Forms) (map on_form_941 (take i accounts)) (form ∷ [])
    ∙ ap (λ forms. t Forms ++ forms)
    (subst (λ k. map on_form_941 (take i accounts) ++ form ∷ [] ≡ map on_form_941 (take k accounts))
    more next.2) in (
      stands_same new (with_rows Forms (so_far ++ form ∷ []) (with_rows Forms so_far t)) _
          (λ n. set_twice Forms so_far (so_far ++ form ∷ []) t n
          ∙ ap (λ rows. with_rows Forms rows t n) all) added.0,
      foreign_then old mid new before.1 added.1,
    )

-- what adding a form for each name that was read comes to
pub given_forms : (old mid : State) (new : Database) (names : List Row) (t : Tables)
    → Shown LIST_ACCOUNTS.now [] old mid names × IsUnchanged old mid → Stands old.now t
    → ((accounts : List AccountRow) (u : Tables) → names ≡ map name_shown accounts
    → Stands mid.now u
    → Becomes mid.now new (with_rows Forms (u Forms ++ map on_form_941 accounts) u))
    → (accounts : List AccountRow) × IsPermutation (t Accounts) accounts × Becomes old.now new
    (with_rows Forms (t Forms ++ map on_form_941 accounts) t)
given_forms old mid new names t read stands gives =
    let found = lists_names old mid names t stands read.0 in
    let same = read.1.0.now_is in
    let made = gives found.0 t found.2 (subst (λ (d : Database). Stands d t) (sym same) stands) in (
      found.0,
      found.1,
      subst (λ (d : Database). Becomes d new
          (with_rows Forms (t Forms ++ map on_form_941 found.0) t)) same made,
    )
