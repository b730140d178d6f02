use Rattle.std.proofs.Common.{length}
use Rattle.ftd_check.specs.Accounts.{AreNames}
use Rattle.ftd_check.proofs.NamesChecked.{DecidedBy}
use Rattle.ftd_check.proofs.accounts.are_names.Given as goal

-- those that are left decide
abbrev pub invariant-loop-first : goal.invariant-loop-first
invariant-loop-first l = DecidedBy (AreNames l.accounts) (AreNames l.left)

abbrev pub decreases-loop-first : goal.decreases-loop-first
decreases-loop-first l = length l.left
