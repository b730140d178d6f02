use Rattle.ftd_server.proofs.TableFacts.{served_by, broken_by}
use Rattle.ftd_server.proofs.office.serve.Goals as goal

pub returns-clause-ok : goal.returns-clause-ok
returns-clause-ok g c = served_by g.S.Store _ _ _ _ _ _ _ _ c.serve_machine.ensures.ok

pub returns-clause-err : goal.returns-clause-err
returns-clause-err g c = broken_by g.S.Store _ _ _ _ _ _ _ _ _ c.serve_machine.ensures.err
