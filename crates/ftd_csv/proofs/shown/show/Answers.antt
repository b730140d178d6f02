use Rattle.std.proofs.Common.{arith}
use Rattle.ftd_csv.proofs.ShownFacts.{filled}
use Rattle.ftd_csv.proofs.shown.show.Goals as goal

pub returns : goal.returns
returns c =
    filled c.loop-i.buffer c.args.text.now c.min-count.result c.loop-i.invariant.room
    c.min-count.ensures (λ k h. c.loop-i.invariant.each k (omega arith))
