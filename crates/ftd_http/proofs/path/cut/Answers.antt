use Rattle.std.proofs.Common.{lit<}
use Rattle.std.proofs.lemmas.Str.Pattern.{split_once_first}
use Rattle.ftd_http.proofs.PathFacts.{cut_of}
use Rattle.ftd_http.proofs.path.cut.Goals as goal

pub returns : goal.returns
returns c = cut_of c.args.text.now c.split_once.result
    (split_once_first 47 c.args.text.now c.split_once.result c.split_once.ensures.cases (lit< tt))
