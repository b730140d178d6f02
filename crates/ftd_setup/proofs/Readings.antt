-- What is read of ftd_meta tells what its rows are.
use Rattle.std.proofs.Common.{◌≡◌, ◌≤◌, inl, inr, ℕ, ℤ, pos, negsuc, nat_abs, arith, length, Bool}
use Rattle.std.proofs.Common.{true, List, [], ◌∷◌, codes, map, refl, sym, ap, subst}
use Rattle.std.specs.Int.{FitsUnsignedBits}
use Rattle.std.proofs.lemmas.Int.{ints}
use Rattle.std.specs.List.Sorted.{IsPermutation}
use Rattle.std.proofs.lemmas.List.Sorted.{IsPermutation-sym}
use Rattle.sqlite.specs.Order.{Row}
use Rattle.sqlite.specs.Effect.{Database}
use Rattle.sqlite.specs.State.{State, Shown, IsUnchanged}
use Rattle.sqlite.specs.declared.types.Value.TheVariants.{Int, Text}
use Rattle.sqlite.proofs.Callers.{IsPlain, one_permutation}
use Rattle.sqlite_value.specs.Order.{column}
use Rattle.sqlite_tied.specs.Compute.{everything}
use Rattle.ftd_sql.specs.Places.{Holds}
use Rattle.ftd_sql.specs.TextKinds.{IsReadText}
use Rattle.ftd_sql.proofs.Meaning.{select_plain}
use Rattle.ftd_sql.specs.declared.TableName.TheVariants.{Metas}
use Rattle.ftd_sql.specs.Names.{name_of}
use Rattle.ftd_sql.specs.Rows.{MetaRow, cells_of}
use Rattle.ftd_sql.specs.Layout.{table_of}
use Rattle.ftd_sql.specs.Answers.{meta_shown}
use Rattle.ftd_sql.specs.Beginnings.{tag_row, HasVersion, IsMigratedFrom, IsMigrated}
use Rattle.ftd_sql.specs.declared.texts.TheConstants.{LIST_METAS}
use Rattle.ftd_sql.proofs.Meanings.{shows_metas}
use Rattle.ftd_setup.specs.Versions.{is_tagged, ReadsVersion}

-- ---- the cells of the tag

pub whole_number : (z : ℤ) (n : ℕ) → FitsUnsignedBits 64 z → n ≡ nat_abs z → z ≡ pos n
whole_number (pos m) n fits h = ap pos (sym h)
whole_number (negsuc m) n fits h = absurd (omega (arith, ints, fits))

pub both_cells : (row : Row) (tag : List ℕ) (z : ℤ) (n : ℕ) → tag ≡ codes "ftd" → length row ≡ 2
    → Text tag ≡ column row 0 → Int z ≡ column row 1 → z ≡ pos n → row ≡ Text (codes "ftd") ∷ Int
    (pos n) ∷ []
both_cells [] tag z n same two a b whole = absurd (omega arith)
both_cells (x ∷ []) tag z n same two a b whole = absurd (omega arith)
both_cells (x ∷ y ∷ []) tag z n same two a b whole = rw (← a, ← b, same, whole) refl
both_cells (x ∷ y ∷ w ∷ more) tag z n same two a b whole = absurd (omega arith)

-- ---- the rows

one_tag : (metas : List MetaRow) (version : ℕ)
    → map meta_shown metas ≡ (Text (codes "ftd") ∷ Int (pos version) ∷ []) ∷ []
    → HasVersion metas version
one_tag [] version h = absurd cc
one_tag (m ∷ []) version h =
    let tag : m.tag ≡ codes "ftd" = cc in
    let number : m.version ≡ pos version = cc in
    rw (← tag, ← number) refl
one_tag (m ∷ n ∷ metas) version h = absurd cc

pub has_version : (metas : List MetaRow) (rows : List Row) (version : ℕ)
    → IsPermutation (map meta_shown metas) rows → ReadsVersion rows version
    → HasVersion metas version
has_version metas rows version moved is = one_tag metas version
    (one_permutation _ _
    (IsPermutation-sym _ _ (subst (IsPermutation (map meta_shown metas)) is moved)))

pub reads_version : (metas : List MetaRow) (rows : List Row) (version : ℕ)
    → IsPermutation (map meta_shown metas) rows → HasVersion metas version
    → ReadsVersion rows version
reads_version metas rows version moved is =
    one_permutation _ _ (subst (λ ms. IsPermutation (map meta_shown ms) rows) is moved)

-- rows have one version
pub one_version : (metas : List MetaRow) (a b : ℕ) → HasVersion metas a → HasVersion metas b → a ≡ b
one_version metas a b one other =
    let marks : tag_row a ≡ tag_row b = cc in
    let versions : pos a ≡ pos b = ap (λ (mark : MetaRow). mark.version) marks in
    cc

-- where a reading tells which version is migrated, the tables were of no other
pub any_version : (version : ℕ) (old : State) (new : Database) (rows : List Row)
    → Shown LIST_METAS.now [] old old rows → ReadsVersion rows version
    → IsMigratedFrom version old.now new → IsMigrated old.now new
any_version version old new rows shown is moved other earlier before stands mark counted =
    let first : 1 ≤ other =
    elim earlier [ inl one ↦ omega (arith, one) | inr two ↦ omega (arith, two) ] in
    let read : HasVersion (before Metas) version =
    has_version (before Metas) rows version
    (shows_metas old old rows (before Metas) (stands Metas first) shown) is in
    let same : version ≡ other = one_version (before Metas) version other read mark in
    (subst (λ v. IsMigratedFrom v old.now new) same moved) before stands mark counted

-- where ftd_meta stands, it is there to be read
pub tagged : {acted : Bool} (db : Database) (metas : List MetaRow) → Holds acted db (name_of Metas)
    (table_of Metas) (cells_of Metas) metas → is_tagged db.schema ≡ true
unfolding everything
tagged db metas l = rw (l.place.named, l.place.listed) refl

-- what a reading shows that changes nothing, it would show again
pub shown_before : (text : List ℕ) (params : Row) (old new : State) (rows : List Row)
    → IsReadText text → IsUnchanged old new → Shown text params old new rows
    → Shown text params old old rows
unfolding Shown
shown_before text params old new rows t same h =
    let bare = subst IsPlain h.1.is (select_plain old.now.schema text t.0 t.1 h.0 h.1.is) in
    let shows = rw bare.0 at h.2 in
    let again : IsUnchanged old old = (
      record {
        was_open = same.0.was_open;
        is_open = same.0.was_open;
        now_is = refl;
        committed_is =
            refl;
        mode = refl;
      },
      record { changes = refl; last_rowid = refl },
      refl,
    ) in
    (h.0, h.1, rw bare.0 (shows.0, shows.1, shows.2, again))
