use Rattle.std.proofs.Common.{◌∙◌, refl, sym}
use Rattle.ftd_shell.specs.Shells.{ways_of}
use Rattle.ftd_shell.proofs.Turning.{turned_all, turned_last, turned_more, turned_none}
use Rattle.ftd_shell.proofs.shell.Shell.answer_each.Goals as goal

pub loop-line-init : goal.loop-line-init
loop-line-init g c = record {
  stays = refl;
  turned = λ start first turns asked answers goes holds.
      turned_none g.S.Store g.O.Target.taken g.O.Target.failed g.E.Target.taken g.E.Target.failed
      c.args.has_stop start c.args.before first c.args.self.now.desk (ways_of c.args.self.now)
      turns c.args.listed.now.lines.items answers goes;
}

pub loop-line-preserved : goal.loop-line-preserved
loop-line-preserved g c =
    let so_far = c.loop-line.invariant in
    let stays = c.understand-understood.ensures.stays in
    record {
      stays = c.answer_next-end.ensures.stays ∙ stays ∙ so_far.stays;
      turned = λ start first turns asked answers goes holds.
          turned_more g.S.Store g.O.Target.taken g.O.Target.failed g.E.Target.taken
          g.E.Target.failed c.args.has_stop start c.loop-line.end c.answer_next-end.result first
          c.loop-line.self.desk c.answer_next-end.new.self.desk (ways_of c.args.self.now) turns
          c.args.listed.now asked c.loop-line.line-index c.line-item.result holds
          (rw c.deref-line-items.ensures.value at c.loop-line-test.true)
          (rw c.deref-line-items.ensures.value at c.line-item.is)
          (so_far.turned start first turns asked answers goes holds)
          (rw (so_far.stays, c.understand-understood.ensures.desk) at (rw stays at
          c.answer_next-end.ensures.answers) c.line-item.result.piece
          (rw so_far.stays at c.understand-understood.ensures.understands))
          (sym c.is_last.ensures ∙ c.if-is_last.false);
    }

pub returns-then-is_last : goal.returns-then-is_last
returns-then-is_last g c =
    let so_far = c.loop-line.invariant in
    let stays = c.understand-understood.ensures.stays in
    record {
      answers = λ start first turns asked answers goes holds.
          turned_last g.S.Store g.O.Target.taken g.O.Target.failed g.E.Target.taken
          g.E.Target.failed c.args.has_stop start c.loop-line.end c.answer_next-end.result first
          c.loop-line.self.desk c.answer_next-end.new.self.desk (ways_of c.args.self.now) turns
          c.args.listed.now asked c.loop-line.line-index c.line-item.result holds
          (rw c.deref-line-items.ensures.value at c.loop-line-test.true)
          (rw c.deref-line-items.ensures.value at c.line-item.is)
          (so_far.turned start first turns asked answers goes holds)
          (rw (so_far.stays, c.understand-understood.ensures.desk) at (rw stays at
          c.answer_next-end.ensures.answers) c.line-item.result.piece
          (rw so_far.stays at c.understand-understood.ensures.understands))
          (sym c.is_last.ensures ∙ c.if-is_last.true);
      stays = c.answer_next-end.ensures.stays ∙ stays ∙ so_far.stays;
    }

pub returns : goal.returns
returns g c =
    let so_far = c.loop-line.invariant in
    record {
      answers = λ start first turns asked answers goes holds.
          turned_all g.S.Store g.O.Target.taken g.O.Target.failed g.E.Target.taken
          g.E.Target.failed c.args.has_stop start c.loop-line.end first c.loop-line.self.desk
          (ways_of c.args.self.now) turns c.args.listed.now.lines.items c.loop-line.line-index
          (rw c.deref-line-items.ensures.value at c.loop-line-test.false)
          (rw c.deref-line-items.ensures.value at c.loop-line.auto.line-index-end)
          (so_far.turned start first turns asked answers goes holds);
      stays = so_far.stays;
    }
