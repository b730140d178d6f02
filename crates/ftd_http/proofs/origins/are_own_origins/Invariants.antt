use Rattle.std.proofs.Common.{length}
use Rattle.std.specs.Prelude.{codes, option_map}
use Rattle.ftd_http.specs.Origins.{hosts_in, is_own_origin}
use Rattle.ftd_http.proofs.FieldFacts.{PassesAs}
use Rattle.ftd_http.proofs.origins.are_own_origins.Given as goal

abbrev pub invariant-loop-origin : goal.invariant-loop-origin
invariant-loop-origin l =
    PassesAs (is_own_origin (hosts_in (option_map (λ it. it.now) l.fn.host))) (codes "origin") l.buf
    l.fn.headers l.rest

abbrev pub decreases-loop-origin : goal.decreases-loop-origin
decreases-loop-origin l = length l.rest
