use Rattle.std.proofs.Common.{◌≡◌, ◌+◌, ◌++◌, drop}
use Rattle.std.specs.List.{flat_map, sum_by}
use Rattle.ftd_ports.proofs.WritingFacts.{HasWritten}
use Rattle.ftd_rules.specs.Liability.{cents_of}
use Rattle.ftd_answers.specs.SchedulesB.{b_line, day_line, month_lines, month_text, of_month}
use Rattle.ftd_answers.proofs.liability_by_day.write_month.Given as goal

-- what is left to write: the lines of the month's other days, and the line of the month, of the
-- whole total
abbrev pub invariant-loop-sum : goal.invariant-loop-sum
invariant-loop-sum g l = record {
  written : HasWritten (g.W.Target.taken l.fn.target) (g.W.Target.taken l.target)
      (month_lines l.sums l.month)
      (flat_map day_line (of_month l.month (drop l.sum-index l.sums)) ++ b_line (month_text l.month)
      (sum_by cents_of (of_month l.month l.sums)));
  total : l.total + sum_by cents_of (of_month l.month (drop l.sum-index l.sums)) ≡ sum_by cents_of
      (of_month l.month l.sums);
}
