use Rattle.std.proofs.Common.{refl}
use Rattle.ftd_connections.specs.Responses.{said_of}
use Rattle.ftd.specs.Journals.{told_or_refused}
use Rattle.ftd.proofs.JournalFacts.{whole_told}
use Rattle.ftd.proofs.Responses.{at_err, if_ok}
use Rattle.ftd.proofs.journal.whole_response.Goals as goal

pub returns-clause-ok : goal.returns-clause-ok
returns-clause-ok g c =
    let lines = c.journal_lines-lines in
    if_ok c.lines_response.result
    (λ response is. whole_told g.S.Store _ _ lines.result (said_of response) lines.ensures.knows
    lines.ensures.fault lines.ensures.stands is)
    c.lines_response.ensures

pub returns-clause-err : goal.returns-clause-err
returns-clause-err g c =
    let lines = c.journal_lines-lines in
    at_err c.lines_response.result (
      told_or_refused lines.result,
      whole_told g.S.Store _ _ lines.result _ lines.ensures.knows lines.ensures.fault
          lines.ensures.stands refl,
    )
