use Rattle.std.proofs.Common.{inr}
use Rattle.ftd.proofs.Responses.{on_err}
use Rattle.ftd.proofs.journal.years_response.Goals as goal

pub returns-clause-err : goal.returns-clause-err
returns-clause-err g c =
    on_err c.desk_response.result inr
    (rw c.in_ok-asked.ensures at c.desk_response.ensures.err)
