use Rattle.ftd_ports.proofs.WritingFacts.{goes_on, stops_after}
use Rattle.ftd_replies.specs.Hints.{quarter_hint}
use Rattle.ftd_replies.proofs.hints.write_missing.Goals as goal
use Rattle.ftd_answers.proofs.RowFormatFacts.{texts_at}

pub returns-in_err-write_quarter : goal.returns-in_err-write_quarter
returns-in_err-write_quarter g c =
    stops_after _ c.from_residual.ensures.0 c.loop-quarter.invariant
    (texts_at (quarter_hint c.args.db.now c.args.account.now) c.args.quarters.now
    c.loop-quarter.quarter-index c.quarter-item.result c.loop-quarter-test.true c.quarter-item.is)
    c.in_err-write_quarter.ensures

pub loop-quarter-preserved : goal.loop-quarter-preserved
loop-quarter-preserved g c =
    goes_on _ _ c.loop-quarter.invariant
    (texts_at (quarter_hint c.args.db.now c.args.account.now) c.args.quarters.now
    c.loop-quarter.quarter-index c.quarter-item.result c.loop-quarter-test.true
    c.quarter-item.is)
    c.in_ok-write_quarter.ensures.ok
