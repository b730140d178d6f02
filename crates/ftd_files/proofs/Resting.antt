-- A state that is found in files, and one that is left in them.
use Rattle.std.proofs.Common.{◌≡◌, ◌∙◌, refl, sym, ap, subst}
use Rattle.std.proofs.Math.Logic.{∥∥₁_elim}
use Rattle.sqlite.specs.Closing.{HoldsAlone, IsCopied}
use Rattle.sqlite.specs.Effect.{Database, IsDatabase}
use Rattle.sqlite.specs.Files.{file_state, image_of, Finds, HoldsDatabase, IsOpened}
use Rattle.sqlite.specs.Held.{Held}
use Rattle.sqlite.specs.State.{IsLive}
use Rattle.sqlite_catalog.proofs.ReadLemmas.{lists_once}
use Rattle.sqlite_catalog.specs.Listing.{Lists}
use Rattle.sqlite_disk.specs.declared.Disk as disk
use Rattle.sqlite_disk.specs.declared.Files.{Files}
use Rattle.sqlite_store.specs.declared.store.FileStore.{FileStore}
use Rattle.sqlite_trees.specs.Objects.{catalog_tree}
use Rattle.sqlite_trees.specs.Props.{Trees-set}
use Rattle.sqlite_trees.specs.Tree.{Trees}
use Rattle.sqlite_wal.specs.Recovery.{Image}
use Rattle.ftd_machine.specs.State.{State}
use Rattle.ftd_entries.specs.Words.{IsKept}
use Rattle.ftd_desk.specs.Desks.{Rests}
use Rattle.ftd_files.specs.Resting.{HoldsState, RestsInFiles, alone}

-- trees list one schema at most
same_database : (db other : Database) → db.trees ≡ other.trees → IsDatabase db
    → IsDatabase other → db ≡ other
same_database db other trees sound others =
    let schema : db.schema ≡ other.schema =
    lists_once (db.trees catalog_tree) db.schema other.schema sound.lists
    (subst (λ (t : Trees). Lists (t catalog_tree) other.schema) (sym trees) others.lists) in
    rw (schema, trees) refl

-- a state that files hold rests in what is opened over them
pub found : {D : Type 0} {g : disk.Ghosts D} (opened : Held (FileStore D g)) (files : Files D)
    → Finds files opened → IsOpened opened → (s : State) → HoldsState (image_of g files) s
    → Rests (file_state opened) s
found opened files finds is_opened s held =
    let new = file_state opened in
    let committed : new.committed.trees ≡ held.db.trees =
    ∥∥₁_elim held.holds (Trees-set _ _) (finds.holds held.db.trees) in
    let trees : new.now.trees ≡ held.db.trees =
    ap (λ (d : Database). d.trees) is_opened.0.clean ∙ committed in
    let same : new.now ≡ held.db =
    same_database new.now held.db trees (is_opened.1 is_opened.0.is_open).0 held.is_database in
    record {
      kept = subst (λ (d : Database). IsKept d s) (sym same) held.kept;
      committed = sym is_opened.0.clean;
    }

-- bytes that hold the last commit hold the state that rests in it
held_by : {D : Type 0} {g : disk.Ghosts D} (closed : Held (FileStore D g)) (image : Image)
    (s : State) → Rests (file_state closed) s → IsDatabase (file_state closed).now
    → HoldsAlone image (file_state closed).committed.trees → HoldsState image s
held_by closed image s rests sound holds = record {
  db = (file_state closed).now;
  is_database = sound;
  kept = rests.kept;
  holds = subst (λ (d : Database). ∥ HoldsDatabase image d.trees ∥₁) rests.committed holds.both;
}

-- and so do those of the file alone
held_alone : {D : Type 0} {g : disk.Ghosts D} (closed : Held (FileStore D g)) (image : Image)
    (s : State) → Rests (file_state closed) s → IsDatabase (file_state closed).now
    → HoldsAlone image (file_state closed).committed.trees → HoldsState (alone image.db) s
held_alone closed image s rests sound holds = record {
  db = (file_state closed).now;
  is_database = sound;
  kept = rests.kept;
  holds = subst (λ (d : Database). ∥ HoldsDatabase (alone image.db) d.trees ∥₁) rests.committed
      holds.alone;
}

-- so the state rests in the files into which it is copied
pub left : {D : Type 0} {g : disk.Ghosts D} (closed : Held (FileStore D g)) (files : Files D)
    (s : State) → Rests (file_state closed) s → IsLive (file_state closed) → IsCopied closed files
    → RestsInFiles g files s
left closed files s rests live copied =
    let sound = (live copied.was_open).0 in
    record {
      now = held_by closed _ s rests sound copied.seen;
      without_log = held_alone closed _ s rests sound copied.seen;
      after_crash = λ image may. held_by closed image s rests sound (copied.left image may);
    }
