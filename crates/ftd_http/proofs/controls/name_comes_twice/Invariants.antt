use Rattle.std.proofs.Common.{◌≡◌, length, map}
use Rattle.ftd_http.specs.Controls.{name_comes_twice, seen}
use Rattle.ftd_http.proofs.controls.name_comes_twice.Given as goal

abbrev pub invariant-loop-first : goal.invariant-loop-first
invariant-loop-first l =
    name_comes_twice (map seen l.rest) ≡ name_comes_twice (map seen l.fn.controls)

abbrev pub decreases-loop-first : goal.decreases-loop-first
decreases-loop-first l = length l.rest
