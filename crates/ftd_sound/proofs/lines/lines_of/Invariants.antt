use Rattle.std.proofs.Common.{◌≡◌, ◌==◌, ◌&&◌, length, take}
use Rattle.ftd_sound.specs.Private.Lines.{AreBegun}
use Rattle.ftd_sound.proofs.lines.lines_of.Given as goal

abbrev pub invariant-loop-year : goal.invariant-loop-year
invariant-loop-year l = record {
  begun : AreBegun l.account l.figures (take l.year-index l.years) l.lines.items;
  carried_is : l.carried ≡ ((length l.lines.items == 0) && l.account.carried);
}
