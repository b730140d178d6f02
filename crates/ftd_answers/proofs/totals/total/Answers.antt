use Rattle.std.proofs.Common.{arith}
use Rattle.ftd_answers.proofs.LineFacts.{amounts_at, amounts_end}
use Rattle.ftd_answers.proofs.totals.total.Goals as goal

pub loop-row-init : goal.loop-row-init
loop-row-init g c = record { total = omega arith; bound = omega arith }

pub loop-row-preserved : goal.loop-row-preserved
loop-row-preserved g c =
    record {
      total = let more = amounts_at (g.A.RowAmount.counted c.args.counts.now) c.args.rows.now
          c.loop-row.row-index c.row-item.result c.loop-row-test.true c.row-item.is in
          let before = c.loop-row.invariant.total in
          let counts = c.cents.ensures in
          omega arith;
      bound = let before = c.loop-row.invariant.bound in omega arith;
    }

pub returns : goal.returns
returns g c = amounts_end (g.A.RowAmount.counted c.args.counts.now) c.args.rows.now
    c.loop-row.row-index c.loop-row.total c.loop-row-test.false c.loop-row.invariant.total
