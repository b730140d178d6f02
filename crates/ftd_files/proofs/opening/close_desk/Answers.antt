use Rattle.std.proofs.Common.{IsTrue, subst}
use Rattle.sqlite.specs.Files.{file_state}
use Rattle.sqlite.specs.Held.{Held}
use Rattle.sqlite.specs.State.{HasCleanDisk}
use Rattle.ftd_files.proofs.Resting.{left}
use Rattle.ftd_files.proofs.opening.close_desk.Goals as goal

pub returns-in-Ok-clause-keeps : goal.returns-in-Ok-clause-keeps
returns-in-Ok-clause-keeps g c = λ honest s keeps.
    left c.close-conn.result c.in-Ok.files s (c.close-conn.ensures.rests s keeps)
    c.schema-schema.ensures.live (c.in-Ok.ensures.copied honest)

pub returns-in-Ok-clause-honest : goal.returns-in-Ok-clause-honest
returns-in-Ok-clause-honest g c = λ honest.
    let copied = c.in-Ok.ensures.copied honest in
    subst (λ conn. HasCleanDisk (file_state conn) × IsTrue (file_state conn).is_open)
    c.close-conn.ensures.over (copied.was_clean, copied.was_open)
