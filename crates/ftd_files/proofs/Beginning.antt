-- What is opened over files that hold no database.
use Rattle.std.proofs.Common.{◌≡◌, ◌∙◌, ◌<◌, ℕ, zero, suc, true, false, List, [], ◌∷◌, refl, sym}
use Rattle.std.proofs.Common.{ap, take, slice_index, get_or-take, Some}
use Rattle.std.proofs.Common.{unwrap_or, inl, inr, arith}
use Rattle.std.proofs.Math.Logic.{∥∥₁_elim}
use Rattle.sqlite.specs.Effect.{Database}
use Rattle.sqlite.specs.Files.{file_state, image_of, AreFoundIn, Finds, IsEmpty, IsNothing}
use Rattle.sqlite.specs.Files.{IsOpened}
use Rattle.sqlite.specs.Held.{Held}
use Rattle.sqlite.proofs.ListingLemmas.{empty_is_sound}
use Rattle.sqlite_catalog.proofs.ReadLemmas.{lists_once}
use Rattle.sqlite_disk.specs.declared.Disk as disk
use Rattle.sqlite_disk.specs.declared.Files.{Files}
use Rattle.sqlite_pages.specs.PageMap.{PageMap}
use Rattle.sqlite_pool.proofs.ProbeLemmas.{first_byte}
use Rattle.sqlite_pool.specs.File.{IsSoundFile}
use Rattle.sqlite_pool.specs.Header.{first_page}
use Rattle.sqlite_pool.specs.Stored.{Adopts, sealed, stored_size, used_size}
use Rattle.sqlite_pool.specs.StoredLaws.{trimmed_some}
use Rattle.sqlite_schema.specs.declared.schema.Schema.{Schema}
use Rattle.sqlite_store.specs.declared.store.FileStore.{FileStore}
use Rattle.sqlite_trees.specs.Objects.{catalog_tree}
use Rattle.sqlite_trees.specs.Tree.{Trees}
use Rattle.sqlite_wal.proofs.AppendLemmas.{some_value}
use Rattle.sqlite_wal.proofs.CreateLemmas.{begun_is_not_blank}
use Rattle.sqlite_wal.specs.Recovery.{Image}
use Rattle.ftd_sql.specs.Making.{IsFree}
use Rattle.ftd_setup.specs.Versions.{IsNew}

-- a page that is long enough begins with an S where its first part does
begins : (size : ℕ) (page : List ℕ) → slice_index (take 16 (take 100 (take size page))) 0 ≡ 83
    → slice_index page 0 ≡ 83
begins zero page is = omega (arith, is)
begins (suc size) page is =
    sym (get_or-take (suc size) page 0 0 (omega arith))
    ∙ sym (get_or-take 100 (take (suc size) page) 0 0 (omega arith))
    ∙ sym (get_or-take 16 (take 100 (take (suc size) page)) 0 0 (omega arith)) ∙ is

-- and it has more than one byte where the second is a Q
is_long : (size : ℕ) (page : List ℕ) → slice_index (take 16 (take 100 (take size page))) 1 ≡ 81
    → 1 < size
is_long zero page is = omega (arith, is)
is_long (suc zero) [] is = omega (arith, is)
is_long (suc zero) (byte ∷ page) is = omega (arith, is)
is_long (suc (suc size)) page is = omega arith

-- files in which pages of a database are found hold one
pub adopted_is_something : (size : ℕ) (image : Image) (pages : PageMap) → Adopts size image pages
    → IsSoundFile size pages → IsNothing image → ⊥
adopted_is_something size image pages found sound nothing =
    let (page, is) = some_value (found.stored 1) found.whole.first in
    let shown : pages 1 ≡ Some (take size page) =
    ap (λ (p : PageMap). p 1) (sym found.shows) ∙ trimmed_some size found.stored 1 page is in
    let head : take 16 (take 100 (take size page)) ≡ take 16 (take 100 (unwrap_or (pages 1) [])) =
    ap (λ o. take 16 (take 100 (unwrap_or o []))) (sym shown) in
    let magic = head ∙ sound.header.0.magic in
    let first = begins size page (ap (λ (b : List ℕ). slice_index b 0) magic) in
    let long = is_long size page (ap (λ (b : List ℕ). slice_index b 1) magic) in
    let big : 1 < stored_size size = grind arith in
    let never = λ (other : ℕ) (some : 0 < other). let gate = first_byte other some in
    begun_is_not_blank (sealed (first_page other)) page (stored_size size) image found.stored
    found.found is (found.whole.sized 1 page is) big (first ∙ sym gate)
    (λ none. let never = sym gate ∙ none in omega arith) in
    elim nothing [
      | inl plain ↦ never (used_size 4096 false) (omega arith) plain
      | inr summed ↦ never (used_size 4096 true) (omega arith) summed
    ]

-- so what is found over files that hold nothing is empty
pub nothing_is_found : (image : Image) (db : Trees) → AreFoundIn image db → IsNothing image
    → IsEmpty db
nothing_is_found image db (inl (size, pages, wanted, adopts, ours, is)) nothing =
    absurd (∥∥₁_elim ours (λ (x y : ⊥). absurd x)
    (λ it. adopted_is_something size image pages adopts it.file.sound nothing))
nothing_is_found image db (inr (is_nothing, empty)) nothing = empty

-- a schema without tables
abbrev bare : Schema
bare = record { tables = []; indexes = []; views = [] }

bare_is_new : IsNew bare
bare_is_new = refl

bare_is_free : IsFree bare
bare_is_free = record { unnamed = λ place name within rewritten. tt; counted = refl }

-- in a database that is opened over files that hold nothing none of the desk's names is taken, and
-- its tables can be made
pub is_bare : {D : Type 0} {g : disk.Ghosts D} (opened : Held (FileStore D g)) (files : Files D)
    → Finds files opened → IsOpened opened → IsNothing (image_of g files)
    → (file_state opened).now.schema ≡ bare
is_bare {g = g} opened files finds is_opened nothing =
    let new = file_state opened in
    let empty = nothing_is_found (image_of g files) new.committed.trees finds.reads nothing in
    let none : new.now.trees catalog_tree ≡ [] =
    ap (λ (d : Database). d.trees catalog_tree) is_opened.0.clean ∙ empty.1 in
    lists_once (new.now.trees catalog_tree) new.now.schema bare
    (is_opened.1 is_opened.0.is_open).0.lists (empty_is_sound new.now.trees none).lists

pub begins_new : (schema : Schema) → schema ≡ bare → IsNew schema × IsFree schema
begins_new schema is = rw is (bare_is_new, bare_is_free)
