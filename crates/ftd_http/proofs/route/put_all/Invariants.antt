use Rattle.std.proofs.Common.{◌≡◌, drop}
use Rattle.ftd_http.specs.Routes.{with_verbs}
use Rattle.ftd_http.proofs.route.put_all.Given as goal

abbrev pub invariant-loop-verb : goal.invariant-loop-verb
invariant-loop-verb l = with_verbs (drop l.verb-index l.verbs) l.router
    ≡ with_verbs l.verbs l.initial.router
