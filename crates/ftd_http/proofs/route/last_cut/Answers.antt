use Rattle.std.proofs.Common.{lit<}
use Rattle.ftd_http.proofs.PathFacts.{last_cut_of}
use Rattle.ftd_http.proofs.route.last_cut.Goals as goal

pub returns : goal.returns
returns c = last_cut_of 47 c.args.target.now _ c.rsplit_once.ensures.cases (lit< tt)
