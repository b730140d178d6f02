-- What a copy holds that was made of a desk which was checked.
use Rattle.std.proofs.Common.{ℕ, Bool, List, Option, None, Some, IfSome}
use Rattle.sqlite.specs.Store as store
use Rattle.sqlite_disk.specs.declared.Disk.{Ghosts}
use Rattle.sqlite_disk.specs.declared.Files.{Files}
use Rattle.sqlite_disk.specs.declared.memory.Memory.{Memory}
use Rattle.sqlite_wal.specs.Recovery.{Image}
use Rattle.ftd_desk.specs.Desks.{Held, held}
use Rattle.ftd_desk.specs.Telling.{StandsAsBefore}
use Rattle.ftd_desk.specs.declared.desk.Desk.{Desk}
use Rattle.ftd_files.specs.Resting.{IsCopied, KeepsAlone}
use Rattle.ftd_program.specs.Checking.{Checks, found, unread}
use Rattle.ftd_program.specs.declared.performing.JobEnd.{JobEnd}
use Rattle.ftd_local.specs.Copies.{HoldsEach}

-- a desk that is checked stands as before
pub as_before : {S O E : Type 0} {g : store.Ghosts S} {o_taken : O → Option (List ℕ)}
    {o_failed : O → Bool} {e_taken : E → Option (List ℕ)} {e_failed : E → Bool} {out : O} {err : E}
    {end : JobEnd O E} {old new : Desk S} {db : List ℕ}
    → Checks g o_taken o_failed e_taken e_failed out err end old new db
    → StandsAsBefore (held g old) (held g new)
as_before (found what finds same prints) = same
as_before (unread refusal fault same prints) = same

-- so what it is closed into holds each state for which the files stand that were copied
pub copy_holds : {D : Type 0} {g : Ghosts D} {image : Image} {files : Files D} {copy : Memory}
    (old new : Held) → IsCopied g image old files → StandsAsBefore old new → KeepsAlone new copy
    → HoldsEach g files image copy
copy_holds old new copied same kept = λ clean s stand.
    kept.holds s (same.stands kept.honest kept.is_open s
    (copied.stands clean (same.honest kept.honest) s stand))

-- where there is one
pub copies_hold : (P : Type 0) {D : Type 0} {g : Ghosts D} {image : Image} {files : Files D}
    (copy : Option Memory) (old new : Held) → IsCopied g image old files → StandsAsBefore old new
    → IfSome copy (λ it. P × KeepsAlone new it) → IfSome copy (λ it. P × HoldsEach g files image it)
copies_hold P None old new copied same kept = tt
copies_hold P (Some it) old new copied same kept = (kept.0, copy_holds old new copied same kept.1)
