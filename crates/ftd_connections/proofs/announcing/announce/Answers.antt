use Rattle.ftd_connections.proofs.ListeningFacts.{told_no_stop}
use Rattle.ftd_connections.proofs.announcing.announce.Goals as goal

pub returns-in-Err-clause-stop : goal.returns-in-Err-clause-stop
returns-in-Err-clause-stop g c = (c.tell_stop.result, c.tell_stop.ensures)

pub returns-in_default-clause-stop : goal.returns-in_default-clause-stop
returns-in_default-clause-stop g c = told_no_stop c.announce_port-announced.result _ _
    c.in_default.is
