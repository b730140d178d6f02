use Rattle.std.proofs.Common.{◌≡◌}
use Rattle.ftd_shell.specs.Shells.{ways_of}
use Rattle.ftd_shell.proofs.ReadLines.{Reads}
use Rattle.ftd_shell.proofs.shell.Shell.answer_script.Given as goal

abbrev pub invariant-loop-number : goal.invariant-loop-number
invariant-loop-number g l = record {
  reads : Reads g.S.Store g.O.Target.taken g.O.Target.failed g.E.Target.taken g.E.Target.failed
      l.has_stop l.fn.out l.fn.err l.fn.self.desk (ways_of l.fn.self) (g.L.Script.left l.fn.script)
      l.end l.self.desk l.number l.listed (g.L.Script.left l.script);
  stays : ways_of l.self ≡ ways_of l.fn.self;
}
