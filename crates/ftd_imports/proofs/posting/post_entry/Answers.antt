use Rattle.std.proofs.Common.{sym}
use Rattle.ftd_desk.specs.Desks.{IsStopped, held}
use Rattle.ftd_imports.proofs.Outcomes.{faulted, posts_one}
use Rattle.ftd_imports.proofs.posting.post_entry.Goals as goal

pub returns-in-Some-clause-stops : goal.returns-in-Some-clause-stops
returns-in-Some-clause-stops g c =
    faulted (IsStopped c.handle-answer.new.self) (held g.S.Store c.args.desk.now)
    (held g.S.Store c.handle-answer.new.self) c.args.number c.args.post.now
    c.handle-answer.result c.in-Some.cause c.handle-answer.ensures.handles
    c.handle-answer.ensures.stops (sym c.in-Some.ensures)

pub returns-clause-posts : goal.returns-clause-posts
returns-clause-posts g c =
    posts_one (held g.S.Store c.args.desk.now) (held g.S.Store c.handle-answer.new.self)
    c.args.number c.args.post.now c.handle-answer.result c.args.done.now c.count.new.self
    c.handle-answer.ensures.handles (sym c.in-None.ensures) c.count.ensures.counts
