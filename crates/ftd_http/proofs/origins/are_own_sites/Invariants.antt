use Rattle.std.proofs.Common.{length}
use Rattle.std.specs.Prelude.{codes}
use Rattle.ftd_http.specs.Origins.{is_own_site}
use Rattle.ftd_http.proofs.FieldFacts.{PassesAs}
use Rattle.ftd_http.proofs.origins.are_own_sites.Given as goal

abbrev pub invariant-loop-site : goal.invariant-loop-site
invariant-loop-site l = PassesAs is_own_site (codes "sec-fetch-site") l.buf l.fn.headers l.rest

abbrev pub decreases-loop-site : goal.decreases-loop-site
decreases-loop-site l = length l.rest
