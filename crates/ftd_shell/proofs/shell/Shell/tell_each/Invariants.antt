use Rattle.std.proofs.Common.{◌≡◌, ℕ, List, All, drop, map}
use Rattle.std.specs.Prelude.{flat_map}
use Rattle.ftd_desk.specs.Unrefused.{IsReply}
use Rattle.ftd_shell.specs.Listed.{Entered, HasItsNote, answers_of, asked_of}
use Rattle.ftd_shell.specs.Shells.{ways_of}
use Rattle.ftd_shell.specs.Understanding.{AreListed}
use Rattle.ftd_shell.proofs.Telling.{StillTells}
use Rattle.ftd_shell.proofs.shell.Shell.tell_each.Given as goal

abbrev pub invariant-loop-line : goal.invariant-loop-line
invariant-loop-line g l = record {
  replies : All IsReply l.given;
  still : (number : ℕ) → (entered : List Entered)
      → AreListed (ways_of l.self) number l.lines (map (λ (it : Entered). it.asked) entered)
      → All HasItsNote entered → l.requests ≡ flat_map asked_of entered
      → l.answers ≡ flat_map answers_of entered
      → (left : List Entered)
      × StillTells g.O.Target.taken g.O.Target.failed g.E.Target.taken g.E.Target.failed
      l.fn.before l.end (ways_of l.self) number l.line-index (drop l.line-index l.lines) l.asked
      l.given entered left;
}
