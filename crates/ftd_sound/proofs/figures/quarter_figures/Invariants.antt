use Rattle.std.proofs.Common.{◌≡◌, take}
use Rattle.ftd_sound.specs.Private.Lines.{figures_in}
use Rattle.ftd_sound.proofs.figures.quarter_figures.Given as goal

abbrev pub invariant-loop-quarter : goal.invariant-loop-quarter
invariant-loop-quarter l =
    l.figures.items ≡ figures_in (take l.quarter-index l.reported) l.corrected
