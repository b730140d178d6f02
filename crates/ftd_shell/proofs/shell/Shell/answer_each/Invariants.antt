use Rattle.std.proofs.Common.{◌≡◌, ◌+◌, List, false, length}
use Rattle.ftd_desk.specs.declared.desk.Desk.{Desk}
use Rattle.ftd_shell.specs.Listed.{Asked}
use Rattle.ftd_shell.specs.Scripts.{AnswersLines, Turn, lines_of}
use Rattle.ftd_shell.specs.Shells.{ways_of}
use Rattle.ftd_script.specs.Statuses.{is_last}
use Rattle.ftd_shell.specs.Understanding.{Holds}
use Rattle.ftd_program.specs.declared.performing.JobEnd.{JobEnd}
use Rattle.ftd_shell.proofs.Turning.{Turned}
use Rattle.ftd_shell.proofs.shell.Shell.answer_each.Given as goal

abbrev pub invariant-loop-line : goal.invariant-loop-line
invariant-loop-line g l = record {
  stays : ways_of l.self ≡ ways_of l.fn.self;
  turned : (start : JobEnd g.row.O.Denot g.row.E.Denot) → (first : Desk g.row.S.Denot)
      → (turns : List Turn) → (asked : List Asked)
      → AnswersLines g.S.Store g.O.Target.taken g.O.Target.failed g.E.Target.taken
      g.E.Target.failed l.has_stop start l.fn.before first l.fn.self.desk (ways_of l.fn.self) turns
      → is_last l.has_stop l.fn.before.status ≡ false
      → Holds (ways_of l.fn.self) (length (lines_of turns) + 1) l.listed asked
      → Turned g.S.Store g.O.Target.taken g.O.Target.failed g.E.Target.taken g.E.Target.failed
      l.has_stop start l.end first l.self.desk (ways_of l.fn.self) turns l.listed.lines.items
      l.line-index;
}
