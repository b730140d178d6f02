use Rattle.std.proofs.Common.{drop}
use Rattle.std.specs.List.{flat_map}
use Rattle.ftd_ports.proofs.WritingFacts.{HasWritten}
use Rattle.ftd_replies.specs.Hints.{quarter_hint}
use Rattle.ftd_replies.proofs.hints.write_missing.Given as goal

abbrev pub invariant-loop-quarter : goal.invariant-loop-quarter
invariant-loop-quarter g l =
    HasWritten (g.W.Target.taken l.initial.target) (g.W.Target.taken l.target)
    (flat_map (quarter_hint l.db l.account) l.quarters)
    (flat_map (quarter_hint l.db l.account) (drop l.quarter-index l.quarters))
