use Rattle.ftd_http.proofs.CutFacts.{cuts_one}
use Rattle.ftd_http.proofs.laws.one_cut_into_messages.Goals as goal

pub returns : goal.returns
returns c = cuts_one
