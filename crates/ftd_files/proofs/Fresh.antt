-- What files show that are just opened: the bytes that they held.
use Rattle.std.proofs.Common.{◌≡◌, ℕ, Bool, true, false, List, [], ◌∷◌, ap₂, cond, subst}
use Rattle.sqlite_disk.specs.declared.Disk.{Ghosts}
use Rattle.sqlite_disk.specs.declared.Files.{Files}
use Rattle.sqlite_disk.specs.Events.{Event, replay, settled}
use Rattle.sqlite_wal.specs.Recovery.{Image}
use Rattle.ftd_desk.specs.Desks.{Held}
use Rattle.ftd_files.specs.Resting.{IsCopied}

abbrev image : List ℕ → List ℕ → Image
image log db = record { log = log; db = db }

-- what a file shows that held one of these two, after these calls
abbrev seen : List ℕ → List ℕ → Bool → List Event → List ℕ
seen log db is_log history = (replay (cond is_log log db) history).seen

pub fresh_image : (log db : List ℕ) {is_log is_other : Bool} {calls others : List Event} {m n : ℕ}
    → (is_log ≡ true) × (calls ≡ settled m ∷ []) → (is_other ≡ false) × (others ≡ settled n ∷ [])
    → image (seen log db is_log calls) (seen log db is_other others) ≡ image log db
fresh_image log db a b =
    ap₂ image (ap₂ (seen log db) a.0 a.1) (ap₂ (seen log db) b.0 b.1)

-- a copy of files with these bytes is one of files with the same bytes
pub copied_same : {D : Type 0} {g : Ghosts D} {a b : Image} {desk : Held} {files : Files D}
    → a ≡ b → IsCopied g a desk files → IsCopied g b desk files
copied_same {g = g} {desk = desk} {files = files} same it =
    subst (λ (i : Image). IsCopied g i desk files) same it
