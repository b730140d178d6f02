use Rattle.std.proofs.Common.{◌++◌, ◌+◌, ◌≡◌, drop}
use Rattle.std.specs.List.{sum_by, flat_map}
use Rattle.ftd_rules.specs.Verdicts.{amount_of}
use Rattle.ftd_answers.specs.DueLists.{due_line, total_line, due_text}
use Rattle.ftd_ports.proofs.WritingFacts.{HasWritten}
use Rattle.ftd_answers.proofs.due_lists.due_list.Given as goal

-- what is left to write: the lines of the other rows and the last line, of the whole total
abbrev pub invariant-loop-row : goal.invariant-loop-row
invariant-loop-row g l =
    record {
      written : HasWritten (g.W.Target.taken l.fn.target) (g.W.Target.taken l.target)
          (due_text l.fn.account l.fn.quarter l.fn.as_of l.rows)
          (flat_map due_line (drop l.row-index l.rows) ++ total_line (sum_by amount_of l.rows));
      total : l.total + sum_by amount_of (drop l.row-index l.rows) ≡ sum_by amount_of l.rows;
    }
