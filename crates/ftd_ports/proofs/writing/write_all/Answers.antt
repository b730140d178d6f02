use Rattle.std.proofs.Common.{take, drop, sym}
use Rattle.std.proofs.lemmas.List.{take-append-drop}
use Rattle.ftd_ports.proofs.WritingFacts.{goes_on}
use Rattle.ftd_ports.proofs.writing.write_all.Goals as goal

pub loop-rest-preserved : goal.loop-rest-preserved
loop-rest-preserved g c =
    let rest = c.loop-rest.rest.now in
    let parts = sym (take-append-drop c.in-Ok.count rest) in
    rw c.split_at.ensures.back (goes_on (take c.in-Ok.count rest) (drop c.in-Ok.count rest)
    c.loop-rest.invariant parts c.in-Ok.ensures.takes)
