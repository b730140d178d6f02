use Rattle.std.proofs.Common.{arith}
use Rattle.ftd_shell.specs.Shells.{ways_of}
use Rattle.ftd_shell.proofs.Turning.{broken_together, dropped_then, kept_together}
use Rattle.ftd_shell.proofs.shell.Shell.answer_listed.Goals as goal

pub returns-in-Kept-clause-answers : goal.returns-in-Kept-clause-answers
returns-in-Kept-clause-answers g c =
    kept_together g.S.Store g.O.Target.taken g.O.Target.failed g.E.Target.taken g.E.Target.failed
    c.args.has_stop c.args.before c.tell_each.result c.args.self.now.desk
    c.all_or_none.new.self (ways_of c.args.self.now) c.args.listed.now
    c.in-Kept.answers.items
    (rw c.deref.ensures.value at c.in-Kept.ensures.asks)
    (rw (
      c.deref-in-Kept.ensures.value,
      c.deref-in-Kept-2.ensures.value,
      c.deref-in-Kept-3.ensures.value,
    ) at c.tell_each.ensures)

pub returns-in-Stopped-clause-answers : goal.returns-in-Stopped-clause-answers
returns-in-Stopped-clause-answers g c =
    broken_together g.S.Store g.O.Target.taken g.O.Target.failed g.E.Target.taken
    g.E.Target.failed c.args.has_stop c.args.before c.tell_broken.result c.args.self.now.desk
    c.all_or_none.new.self (ways_of c.args.self.now) c.args.listed.now
    (omega (arith, c.if-len-lt2.false, c.len.ensures))
    (rw c.deref.ensures.value at c.in-Stopped.ensures.asks)
    c.tell_broken.ensures

pub returns-in-Dropped-clause-answers : goal.returns-in-Dropped-clause-answers
returns-in-Dropped-clause-answers g c =
    dropped_then g.S.Store g.O.Target.taken g.O.Target.failed g.E.Target.taken g.E.Target.failed
    c.args.has_stop c.args.before c.answer_each-in-Dropped.result c.args.self.now.desk
    c.answer_each-in-Dropped.new.self.desk (ways_of c.args.self.now) c.args.listed.now
    c.all_or_none.new.self (rw c.deref.ensures.value at c.in-Dropped.ensures.asks)
    c.answer_each-in-Dropped.ensures.answers
