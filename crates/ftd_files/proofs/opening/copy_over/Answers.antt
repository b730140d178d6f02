use Rattle.std.proofs.Common.{List, ℕ, ap₂, subst}
use Rattle.sqlite.specs.Files.{over_files}
use Rattle.sqlite_wal.specs.Recovery.{Image}
use Rattle.ftd_desk.specs.Desks.{held}
use Rattle.ftd_files.specs.Resting.{StandsOver}
use Rattle.ftd_files.proofs.opening.copy_over.Goals as goal

abbrev image : List ℕ → List ℕ → Image
image log db = record { log = log; db = db }

pub returns-clause-copied : goal.returns-clause-copied
returns-clause-copied g c = record {
  stands = λ clean. subst (λ (i : Image). StandsOver i (held over_files c.in_ok-open_over.field-0))
      (c.in_ok-copies.ensures.same clean) c.in_ok-open_over.ensures.stands;
  kept = ap₂ image c.in_ok-copies.ensures.kept.0.seen c.in_ok-copies.ensures.kept.1.seen;
}
