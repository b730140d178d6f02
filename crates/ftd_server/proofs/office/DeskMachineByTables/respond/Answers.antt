use Rattle.std.proofs.Common.{inr}
use Rattle.std.proofs.lemmas.Result.{on_err_weaker}
use Rattle.ftd_server.proofs.office.DeskMachineByTables.respond.Goals as goal

pub returns-clause-err : goal.returns-clause-err
returns-clause-err g c = on_err_weaker c.desk_response.result inr c.desk_response.ensures.err
