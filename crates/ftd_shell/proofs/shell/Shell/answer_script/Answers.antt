use Rattle.std.proofs.Common.{◌∙◌, arith, refl, sym}
use Rattle.ftd_shell.specs.Shells.{ways_of}
use Rattle.ftd_shell.proofs.ReadLines.{reads_end, reads_full, reads_none, reads_unread}
use Rattle.ftd_shell.proofs.ReadLines.{taken_last, taken_on}
use Rattle.ftd_shell.proofs.shell.Shell.answer_script.Goals as goal

pub loop-number-init : goal.loop-number-init
loop-number-init g c = record {
  reads = reads_none g.S.Store g.O.Target.taken g.O.Target.failed g.E.Target.taken
      g.E.Target.failed c.args.has_stop c.args.out c.args.err c.args.self.now.desk
      (ways_of c.args.self.now) (g.L.Script.left c.args.script.now) c.none-listed.result
      c.none-listed.ensures.lines c.none-listed.ensures.requests;
  stays = refl;
}

pub loop-number-preserved : goal.loop-number-preserved
loop-number-preserved g c =
    let so_far = c.loop-number.invariant in
    let read = c.understand-understood.ensures in
    record {
      reads = taken_on g.S.Store g.O.Target.taken g.O.Target.failed g.E.Target.taken
          g.E.Target.failed c.args.has_stop c.args.out c.args.err c.args.self.now.desk
          (ways_of c.args.self.now) (g.L.Script.left c.args.script.now) c.loop-number.end
          c.understand-understood.new.self.desk c.loop-number.number c.loop-number.listed
          (g.L.Script.left c.loop-number.script) (rw read.desk so_far.reads)
          (g.L.Script.left c.next.new.self) c.in-Ok.piece c.in-Ok.ensures.known
          c.understand-understood.result (rw so_far.stays at read.understands)
          c.take-alone.new.self c.answer_taken-end.result c.answer_taken-end.new.self.desk
          c.take-alone.result c.answer_taken-end.new.listed
          c.take-alone.ensures
          (rw (read.stays, so_far.stays) at c.answer_taken-end.ensures.answers)
          (sym c.is_last.ensures ∙ c.if-is_last.false);
      stays = c.answer_taken-end.ensures.stays ∙ read.stays ∙ so_far.stays;
    }

pub returns-in-Err : goal.returns-in-Err
returns-in-Err g c =
    let so_far = c.loop-number.invariant in
    record {
      answers = reads_unread g.S.Store g.O.Target.taken g.O.Target.failed g.E.Target.taken
          g.E.Target.failed c.args.has_stop c.args.out c.args.err c.args.self.now.desk
          (ways_of c.args.self.now) (g.L.Script.left c.args.script.now) c.loop-number.end
          c.loop-number.self.desk c.loop-number.number c.loop-number.listed
          (g.L.Script.left c.loop-number.script) so_far.reads c.end_unread.result
          c.end_unread.new.self.desk c.in-Err.unread.status c.in-Err.unread.said.items
          (rw so_far.stays at c.end_unread.ensures.ends)
          (g.L.Script.failed c.next.new.self) c.in-Err.ensures.fails;
      stays = c.end_unread.ensures.stays ∙ so_far.stays;
    }

pub returns-in-End : goal.returns-in-End
returns-in-End g c =
    let so_far = c.loop-number.invariant in
    record {
      answers = reads_end g.S.Store g.O.Target.taken g.O.Target.failed g.E.Target.taken
          g.E.Target.failed c.args.has_stop c.args.out c.args.err c.args.self.now.desk
          (ways_of c.args.self.now) (g.L.Script.left c.args.script.now) c.loop-number.end
          c.loop-number.self.desk c.loop-number.number c.loop-number.listed
          (g.L.Script.left c.loop-number.script) so_far.reads c.answer_listed.result
          c.answer_listed.new.self.desk (rw so_far.stays at c.answer_listed.ensures.answers)
          (g.L.Script.failed c.next.new.self) (g.L.Script.left c.next.new.self)
          (rw c.in-End.is at c.in-Ok.ensures.known);
      stays = c.answer_listed.ensures.stays ∙ so_far.stays;
    }

pub returns-then-is_last : goal.returns-then-is_last
returns-then-is_last g c =
    let so_far = c.loop-number.invariant in
    let read = c.understand-understood.ensures in
    record {
      answers = taken_last g.S.Store g.O.Target.taken g.O.Target.failed g.E.Target.taken
          g.E.Target.failed c.args.has_stop c.args.out c.args.err c.args.self.now.desk
          (ways_of c.args.self.now) (g.L.Script.left c.args.script.now) c.loop-number.end
          c.understand-understood.new.self.desk c.loop-number.number c.loop-number.listed
          (g.L.Script.left c.loop-number.script) (rw read.desk so_far.reads)
          (g.L.Script.left c.next.new.self) c.in-Ok.piece c.in-Ok.ensures.known
          c.understand-understood.result (rw so_far.stays at read.understands)
          c.take-alone.new.self c.answer_taken-end.result c.answer_taken-end.new.self.desk
          c.take-alone.result c.answer_taken-end.new.listed
          (g.L.Script.failed c.next.new.self) c.take-alone.ensures
          (rw (read.stays, so_far.stays) at c.answer_taken-end.ensures.answers)
          (sym c.is_last.ensures ∙ c.if-is_last.true);
      stays = c.answer_taken-end.ensures.stays ∙ read.stays ∙ so_far.stays;
    }

pub returns : goal.returns
returns g c =
    let so_far = c.loop-number.invariant in
    record {
      answers = reads_full g.S.Store g.O.Target.taken g.O.Target.failed g.E.Target.taken
          g.E.Target.failed c.args.has_stop c.args.out c.args.err c.args.self.now.desk
          (ways_of c.args.self.now) (g.L.Script.left c.args.script.now) c.loop-number.end
          c.loop-number.self.desk c.loop-number.number c.loop-number.listed
          (g.L.Script.left c.loop-number.script) so_far.reads c.answer_listed-2.result
          c.answer_listed-2.new.self.desk (rw so_far.stays at c.answer_listed-2.ensures.answers)
          (g.L.Script.failed c.loop-number.script) (omega (arith, c.loop-number-test.false));
      stays = c.answer_listed-2.ensures.stays ∙ so_far.stays;
    }
