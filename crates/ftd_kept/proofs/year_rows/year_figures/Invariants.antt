use Rattle.std.proofs.Common.{◌≡◌, map, take}
use Rattle.ftd_kept.specs.Kept.{year_figure}
use Rattle.ftd_kept.proofs.year_rows.year_figures.Given as goal

abbrev pub invariant-loop-total : goal.invariant-loop-total
invariant-loop-total l = l.figures.items ≡ map year_figure (take l.total-index l.totals)
