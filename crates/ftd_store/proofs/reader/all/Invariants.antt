use Rattle.std.proofs.Common.{◌≡◌, ◌++◌, map, drop}
use Rattle.ftd_store.proofs.reader.all.Given as goal

abbrev pub invariant-loop-row : goal.invariant-loop-row
invariant-loop-row g l = map g.T.FromRow.shown l.xs.items ++ drop l.row-index l.rows ≡ l.rows
