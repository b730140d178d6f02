use Rattle.std.proofs.Common.{◌+◌, drop}
use Rattle.std.proofs.lemmas.Bool.{eq-eqb, ne_eqb}
use Rattle.ftd_shell.specs.Shells.{ways_of}
use Rattle.ftd_shell.proofs.Telling.{drop_all, drop_on, tells_begin, tells_end}
use Rattle.ftd_shell.proofs.Telling.{tells_last, tells_more, tells_none}
use Rattle.ftd_shell.proofs.shell.Shell.tell_each.Goals as goal

pub loop-line-init : goal.loop-line-init
loop-line-init g c = record {
  replies = c.requires.replies;
  still = λ number entered are notes requests answers. (
    entered,
    tells_begin g.O.Target.taken g.O.Target.failed g.E.Target.taken g.E.Target.failed
        c.args.before (ways_of c.args.self.now) number c.args.lines.now c.args.requests.now
        c.args.answers.now entered are notes requests answers,
  );
}

pub loop-line-preserved : goal.loop-line-preserved
loop-line-preserved g c =
    let so_far = c.loop-line.invariant in
    let i = c.loop-line.line-index in
    let line = c.line-item.result in
    let given = c.in-Some.first in
    let on = drop_on c.args.lines.now i line c.loop-line-test.true c.line-item.is in
    record {
      replies = (c.in-Some.ensures.replies so_far.replies).1;
      still = λ number entered are notes requests answers.
          let still = so_far.still number entered are notes requests answers in
          tells_more g.O.Target.taken g.O.Target.failed g.E.Target.taken g.E.Target.failed
          c.args.before c.loop-line.end c.tell_next-end.result (ways_of c.args.self.now) number i
          line (drop (i + 1) c.args.lines.now) c.loop-line.asked.now c.loop-line.given.now entered
          given c.in-Some.ensures.first c.tell_next-end.ensures still.0
          (rw on at still.1) (ne_eqb _ _ c.if-end-eq3.false);
    }

pub returns-then-end-eq3 : goal.returns-then-end-eq3
returns-then-end-eq3 g c = λ number entered are notes requests answers.
    let i = c.loop-line.line-index in
    let line = c.line-item.result in
    let given = c.in-Some.first in
    let on = drop_on c.args.lines.now i line c.loop-line-test.true c.line-item.is in
    let still = c.loop-line.invariant.still number entered are notes requests answers in
    tells_last g.O.Target.taken g.O.Target.failed g.E.Target.taken g.E.Target.failed
    c.args.before c.loop-line.end c.tell_next-end.result (ways_of c.args.self.now) number i
    line (drop (i + 1) c.args.lines.now) c.loop-line.asked.now c.loop-line.given.now entered
    given c.in-Some.ensures.first c.tell_next-end.ensures still.0
    (rw on at still.1) (eq-eqb _ _ c.if-end-eq3.true)

pub returns-in_default : goal.returns-in_default
returns-in_default g c = λ number entered are notes requests answers.
    let i = c.loop-line.line-index in
    let line = c.line-item.result in
    let on = drop_on c.args.lines.now i line c.loop-line-test.true c.line-item.is in
    let still = c.loop-line.invariant.still number entered are notes requests answers in
    absurd (tells_none g.O.Target.taken g.O.Target.failed g.E.Target.taken g.E.Target.failed
    c.args.before c.loop-line.end c.loop-line.end (ways_of c.args.self.now) number i
    line (drop (i + 1) c.args.lines.now) c.loop-line.asked.now c.loop-line.given.now entered
    still.0 (rw on at still.1) c.in_default.ensures.first)

pub returns : goal.returns
returns g c = λ number entered are notes requests answers.
    let i = c.loop-line.line-index in
    let still = c.loop-line.invariant.still number entered are notes requests answers in
    let none = drop_all c.args.lines.now i c.loop-line-test.false in
    tells_end g.O.Target.taken g.O.Target.failed g.E.Target.taken g.E.Target.failed
    c.args.before c.loop-line.end (ways_of c.args.self.now) number i
    c.loop-line.asked.now c.loop-line.given.now entered
    still.0 (rw none at still.1)
