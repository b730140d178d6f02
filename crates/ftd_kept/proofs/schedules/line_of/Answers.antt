use Rattle.std.proofs.Common.{rules, tests}
use Rattle.std.proofs.lemmas.Iterator.{YieldsList-from_slice}
use Rattle.std.proofs.lemmas.Iterator.Search.{find_from_yields_List}
use Rattle.ftd_entries.specs.Opening.{is_line_of}
use Rattle.ftd_kept.proofs.Scheduling.{line_found}
use Rattle.ftd_kept.proofs.schedules.line_of.Goals as goal

pub returns : goal.returns
returns c = line_found c.args.lines.now c.args.year c.find.result
    (find_from_yields_List (is_line_of c.args.year) _ _ c.find.result c.find.ensures.ran
    (YieldsList-from_slice _ cc) (λ x b q k. search (rules, tests)))
