use Rattle.std.proofs.Common.{◌≡◌, take}
use Rattle.ftd_sound.specs.Private.Lines.{figures_in}
use Rattle.ftd_sound.proofs.figures.year_figures.Given as goal

abbrev pub invariant-loop-year : goal.invariant-loop-year
invariant-loop-year l = l.figures.items ≡ figures_in (take l.year-index l.reported) l.corrected
