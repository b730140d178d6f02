use Rattle.std.proofs.Common.{◌≡◌, ◌++◌, map, take}
use Rattle.ftd_journal.specs.Parts.{line_opened}
use Rattle.ftd_journal.proofs.years.add_lines.Given as goal

abbrev pub invariant-loop-line : goal.invariant-loop-line
invariant-loop-line l =
    l.requests.items ≡ l.fn.requests.items
    ++ map (line_opened l.name) (take l.line-index l.lines)
