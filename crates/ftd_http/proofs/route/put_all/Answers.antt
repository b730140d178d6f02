use Rattle.ftd_http.proofs.RouteFacts.{routes_end, routes_next}
use Rattle.ftd_http.proofs.route.put_all.Goals as goal

pub loop-verb-preserved : goal.loop-verb-preserved
loop-verb-preserved c = routes_next _ _ _ _ _ _ c.loop-verb-test.true c.in_ok-put_verb.ensures
    c.loop-verb.invariant

pub returns : goal.returns
returns c = routes_end _ _ _ _ c.loop-verb-test.false c.loop-verb.invariant
