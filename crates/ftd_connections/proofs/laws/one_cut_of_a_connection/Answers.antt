use Rattle.ftd_connections.proofs.EndFacts.{cut_one, refusal_one}
use Rattle.ftd_connections.proofs.laws.one_cut_of_a_connection.Goals as goal

pub returns : goal.returns
returns c = record { messages = cut_one; refusal = refusal_one }
