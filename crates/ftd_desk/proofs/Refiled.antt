-- Files that were closed and are opened again.
use Rattle.std.proofs.Common.{◌≡◌, ◌∙◌, refl, sym, ap, subst}
use Rattle.sqlite.specs.Effect.{Database, IsDatabase}
use Rattle.sqlite.specs.Held.{Held}
use Rattle.sqlite.specs.State.{IsLive}
use Rattle.sqlite.specs.Files.{file_state, IsOpened, Finds}
use Rattle.sqlite.specs.Closing.{IsCopied}
use Rattle.sqlite_catalog.specs.Listing.{Lists}
use Rattle.sqlite_catalog.proofs.ReadLemmas.{lists_once}
use Rattle.sqlite_disk.specs.declared.Disk as disk
use Rattle.sqlite_disk.specs.declared.Files.{Files}
use Rattle.sqlite_store.specs.declared.store.FileStore.{FileStore}
use Rattle.sqlite_trees.specs.Tree.{Trees}
use Rattle.sqlite_wal.specs.Reads.{AreClean}
use Rattle.sqlite.proofs.Callers.{finds_again}
use Rattle.sqlite_trees.specs.Objects.{catalog_tree}
use Rattle.ftd_machine.specs.State.{State}
use Rattle.ftd_entries.specs.Words.{IsKept}
use Rattle.ftd_desk.specs.Desks.{Rests}

-- trees list one schema at most
one_database : (db other : Database) → db.trees ≡ other.trees → IsDatabase db → IsDatabase other
    → db ≡ other
one_database db other trees sound others =
    let schema : db.schema ≡ other.schema =
    lists_once (db.trees catalog_tree) db.schema other.schema sound.lists
    (subst (λ (t : Trees). Lists (t catalog_tree) other.schema) (sym trees) others.lists) in
    rw (schema, trees) refl

-- the files hold the last commit, which is what was seen
pub files_rest : {D : Type 0} {g : disk.Ghosts D} (closed opened : Held (FileStore D g))
    (files : Files D) (s : State) → Rests (file_state closed) s → IsLive (file_state closed)
    → (AreClean g files.log files.db → IsCopied closed files) → Finds files opened
    → IsOpened opened → Rests (file_state opened) s
files_rest {D = D} {g = g} closed opened files s rests live copied finds is_opened =
    let old = file_state closed in
    let new = file_state opened in
    let trees = finds_again closed opened files copied finds in
    let now : new.now.trees ≡ old.now.trees =
    ap (λ (db : Database). db.trees) is_opened.0.clean ∙ trees
    ∙ ap (λ (db : Database). db.trees) rests.committed in
    let same : new.now ≡ old.now = one_database new.now old.now now
    (is_opened.1 is_opened.0.is_open).0 (live (copied finds.honest).was_open).0 in
    record {
      kept = subst (λ (db : Database). IsKept db s) (sym same) rests.kept;
      committed = sym is_opened.0.clean;
    }
