use Rattle.std.proofs.Common.{subst}
use Rattle.sqlite.specs.Files.{over_files}
use Rattle.sqlite_wal.specs.Recovery.{Image}
use Rattle.ftd_desk.specs.Desks.{held}
use Rattle.ftd_files.specs.Resting.{StandsOver}
use Rattle.ftd_files.proofs.Fresh.{fresh_image}
use Rattle.ftd_files.proofs.opening.open_at.Goals as goal

pub returns-in-Ok-clause-stands : goal.returns-in-Ok-clause-stands
returns-in-Ok-clause-stands g c =
    let (log, db) = c.in_ok-files.ensures in
    subst (λ (i : Image). StandsOver i (held over_files c.in-Ok.desk))
    (fresh_image g.S.Start.log g.S.Start.db log db) c.in-Ok.ensures.stands
