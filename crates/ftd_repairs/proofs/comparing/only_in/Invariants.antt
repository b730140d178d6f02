use Rattle.std.proofs.Common.{take}
use Rattle.ftd_rules.specs.Obligations.{ByFirstDay}
use Rattle.ftd_machine.specs.Posting.{AreOnlyIn}
use Rattle.ftd_repairs.proofs.comparing.only_in.Given as goal

abbrev pub invariant-loop-row : goal.invariant-loop-row
invariant-loop-row l = ByFirstDay l.rows → AreOnlyIn (take l.row-index l.rows) l.others l.only.items
