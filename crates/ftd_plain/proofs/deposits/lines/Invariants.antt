use Rattle.std.proofs.Common.{◌≡◌, take}
use Rattle.std.specs.List.{flat_map}
use Rattle.ftd_plain.specs.Plain.{line_text}
use Rattle.ftd_plain.proofs.deposits.lines.Given as goal

abbrev pub invariant-loop-row : goal.invariant-loop-row
invariant-loop-row l = l.text.items ≡ flat_map line_text (take l.row-index l.rows)
