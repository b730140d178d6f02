use Rattle.ftd_http.proofs.RouteFacts.{text_end, text_next}
use Rattle.ftd_http.proofs.route.path_text.Goals as goal

pub loop-part-preserved : goal.loop-part-preserved
loop-part-preserved c = text_next _ _ _ _ _ _ c.loop-part-test.true c.in_ok-push_part.ensures
    c.loop-part.invariant

pub returns : goal.returns
returns c = text_end _ _ _ _ c.loop-part-test.false c.loop-part.invariant
