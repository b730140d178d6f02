use Rattle.std.proofs.Common.{take}
use Rattle.ftd_store.specs.Lists.{Pairs}
use Rattle.ftd_kept.specs.Kept.{IsKeptYear}
use Rattle.ftd_kept.proofs.year_rows.told_years.Given as goal

abbrev pub invariant-loop-line : goal.invariant-loop-line
invariant-loop-line l =
    Pairs (IsKeptYear l.account l.quarters l.years) (take l.line-index l.lines) l.rows.items
