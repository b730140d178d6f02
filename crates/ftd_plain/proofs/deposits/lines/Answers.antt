use Rattle.std.proofs.Common.{arith}
use Rattle.ftd_plain.specs.Plain.{line_text}
use Rattle.ftd_plain.proofs.Members.{flat_map_next}
use Rattle.ftd_plain.proofs.deposits.lines.Goals as goal

pub loop-row-preserved : goal.loop-row-preserved
loop-row-preserved c = flat_map_next line_text c.args.rows.now c.loop-row.row-index
    c.row-item.result _ _ (omega arith) c.row-item.is c.loop-row.invariant c.in_ok-push_line.ensures
