use Rattle.std.proofs.Common.{◌∙◌, rules, tests}
use Rattle.std.proofs.lemmas.Iterator.{YieldsList-from_slice}
use Rattle.std.proofs.lemmas.Iterator.Search.{find_from_yields_List}
use Rattle.ftd_kept.proofs.ExplainedKnown.{ends_late, end_found}
use Rattle.ftd_kept.proofs.explaining.ends_from.Goals as goal

pub returns : goal.returns
returns c = end_found c.args.obligations.now c.args.day c.copied.result
    (c.copied.ensures ∙ find_from_yields_List (ends_late c.args.day) _ _ c.find.result
    c.find.ensures.ran (YieldsList-from_slice _ cc) (λ x b q k. search (rules, tests)))
