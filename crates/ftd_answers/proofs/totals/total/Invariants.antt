use Rattle.std.proofs.Common.{◌+◌, ◌*◌, ◌≤◌, ◌≡◌, drop}
use Rattle.std.specs.List.{sum_by}
use Rattle.ftd_answers.proofs.totals.total.Given as goal

-- the amounts of the other rows make up the sum; and each row so far added less than 2 ^ 64
abbrev pub invariant-loop-row : goal.invariant-loop-row
invariant-loop-row g l =
    record {
      total : l.total + sum_by (g.A.RowAmount.counted l.counts) (drop l.row-index l.rows)
          ≡ sum_by (g.A.RowAmount.counted l.counts) l.rows;
      bound : l.total ≤ 18_446_744_073_709_551_615 * l.row-index;
    }
