use Rattle.ftd_http.proofs.ReadingFacts.{takes_chunk}
use Rattle.ftd_http.proofs.read.fill.Goals as goal

pub returns-then-is_err-clause-takes : goal.returns-then-is_err-clause-takes
returns-then-is_err-clause-takes g c = takes_chunk _ _ _ _ _ _ c.fills.invariant.reads
    c.in-Ok.ensures.gives
