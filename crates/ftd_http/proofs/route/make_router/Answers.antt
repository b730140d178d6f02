use Rattle.std.proofs.Common.{ap, ◌∙◌}
use Rattle.ftd_verbs.specs.Rows.{all_verbs}
use Rattle.ftd_http.specs.Routes.{all_routes, with_verbs}
use Rattle.ftd_http.proofs.route.make_router.Goals as goal

pub returns : goal.returns
unfolding all_routes
returns c = c.in_ok-put_all.ensures ∙ ap (with_verbs all_verbs) c.new-router.ensures
