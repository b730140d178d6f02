-- A check of a desk, whose lines are kept in memory.
use Rattle.std.specs.Prelude.{◌≡◌, ℕ, List, []}
use Rattle.std.specs.Global.{Vec}
use Rattle.sqlite.specs.Store as store
use Rattle.ftd_ports.specs.Ports.{has_failed}
use Rattle.ftd_ports.specs.declared.port.Port.{Port}
use Rattle.ftd_desk.specs.declared.desk.Desk.{Desk}
use Rattle.ftd_program.specs.Checking.{Checks}
use Rattle.ftd_program.specs.declared.performing.JobEnd.{JobEnd}
use Rattle.ftd_shell.specs.Shells.{said_by, said_in}

-- the desk of this file was checked, and what a check prints stands in memory
pub record ChecksDesk {S : Type 0} (g : store.Ghosts S) (old new : Desk S) (db : List ℕ)
    (end : JobEnd (Port (Vec ℕ)) (Port (Vec ℕ))) : Type 0 where
  pub out : Port (Vec ℕ)
  pub is_out : said_in out ≡ []
  pub err : Port (Vec ℕ)
  pub is_err : said_in err ≡ []
  pub checks : Checks g said_by has_failed said_by has_failed out err end old new db
