use Rattle.std.proofs.Common.{◌<◌, Err, ap, arith}
use Rattle.ftd_connections.specs.declared.connection.Cause.TheVariants as why
use Rattle.ftd_connections.proofs.ServeFacts.{reads, goes_on, ends_closed, ends_idle, ends_refused}
use Rattle.ftd_connections.proofs.ServeFacts.{ends_asked, ends_limit, ends_truncated, breaks_in}
use Rattle.ftd_connections.proofs.ServeFacts.{breaks_reading}
use Rattle.ftd_connections.proofs.ServeFacts.{breaks_refusing, fails_so}
use Rattle.ftd_connections.proofs.connection.serve_next.Goals as goal

pub returns-in-Err-Read : goal.returns-in-Err-Read
returns-in-Err-Read g c =
    rw c.failed.ensures (λ start first said talk.
    breaks_reading g.M.Machine.goes _ _ _ _ _ _ _ _ _ _ _ why.Read talk c.in-Err-Read.ensures.takes
    (c.in-Err-Read.ensures.fault (ap Err c.in-Err-Read.field-0-is)))

pub returns-in-Err-Memory : goal.returns-in-Err-Memory
returns-in-Err-Memory g c =
    rw c.failed-in-Err-Memory.ensures (λ start first said talk.
    breaks_reading g.M.Machine.goes _ _ _ _ _ _ _ _ _ _ _ why.Memory talk
    c.in-Err-Memory.ensures.takes tt)

pub returns-in-Closed : goal.returns-in-Closed
returns-in-Closed g c =
    let found = rw c.in-Closed.is at c.in-Ok.ensures.next in
    rw c.ended-in-Closed.ensures (λ start first said talk.
    ends_closed g.M.Machine.goes
    (reads g.M.Machine.goes _ _ _ _ _ _ _ _ _ _ talk c.in-Ok.ensures.reads) found.0 found.1)

pub returns-in-Idle : goal.returns-in-Idle
returns-in-Idle g c =
    let found = rw c.in-Idle.is at c.in-Ok.ensures.next in
    rw c.ended-in-Idle.ensures (λ start first said talk.
    ends_idle g.M.Machine.goes
    (reads g.M.Machine.goes _ _ _ _ _ _ _ _ _ _ talk c.in-Ok.ensures.reads) found.0 found.1)

pub returns-in-Truncated : goal.returns-in-Truncated
returns-in-Truncated g c =
    let found = rw c.in-Truncated.is at c.in-Ok.ensures.next in
    rw c.ended-in-Truncated.ensures (λ start first said talk.
    ends_truncated g.M.Machine.goes
    (reads g.M.Machine.goes _ _ _ _ _ _ _ _ _ _ talk c.in-Ok.ensures.reads) found.0 found.1)

pub returns-in-Ok-refuse : goal.returns-in-Ok-refuse
returns-in-Ok-refuse g c =
    rw c.ended.ensures (λ start first said talk.
    ends_refused g.M.Machine.goes c.in-Refused.status
    (reads g.M.Machine.goes _ _ _ _ _ _ _ _ _ _ talk c.in-Ok.ensures.reads)
    (rw c.in-Refused.is at c.in-Ok.ensures.next) c.in-Ok-refuse.ensures.ok)

pub returns-in-Err : goal.returns-in-Err
returns-in-Err g c =
    rw c.failed-in-Err.ensures (λ start first said talk.
    breaks_refusing g.M.Machine.goes _ _ _ _ _ _ _ _ _ _ _ c.in-Refused.status
    (reads g.M.Machine.goes _ _ _ _ _ _ _ _ _ _ talk c.in-Ok.ensures.reads)
    (rw c.in-Refused.is at c.in-Ok.ensures.next) c.in-Err.ensures.err c.in-Err.ensures.fault)

pub returns-in-Err-answer : goal.returns-in-Err-answer
returns-in-Err-answer g c =
    let found = rw c.in-Whole.is at c.in-Ok.ensures.next in
    let (message, at) = found.0 in
    let broken = rw c.deref.ensures.value at
    (c.in-Err-answer.ensures.err message (rw c.deref.ensures.value at)) in
    rw c.failed-in-Err-answer.ensures (λ start first said talk.
    breaks_in g.M.Machine.goes _ _ _ _ _ _ _ _ _ _ _ broken.0 _ c.in-Err-answer.cause
    (reads g.M.Machine.goes _ _ _ _ _ _ _ _ _ _ talk c.in-Ok.ensures.reads) broken.1 broken.2
    (fails_so c.in-Err-answer.cause _ _ c.in-Err-answer.ensures.fault))

pub returns-then-ends : goal.returns-then-ends
returns-then-ends g c =
    let found = rw c.in-Whole.is at c.in-Ok.ensures.next in
    let (message, at) = found.0 in
    let done = c.in-Ok-answer.ensures.ok message (rw c.deref.ensures.value at) in
    let ends = c.in-Ok-answer.ensures.ends message (rw c.deref.ensures.value at) in
    rw c.ended-then-ends.ensures (λ start first said talk.
    ends_asked g.M.Machine.goes _ _ _ _ _ _ _ _ _ _ _ c.in-Whole.parts message done.0
    c.in-Ok-answer.ends (reads g.M.Machine.goes _ _ _ _ _ _ _ _ _ _ talk c.in-Ok.ensures.reads) at
    done.1 done.2 ends c.if-ends.true)

pub returns-then-answered : goal.returns-then-answered
returns-then-answered g c =
    let found = rw c.in-Whole.is at c.in-Ok.ensures.next in
    let (message, at) = found.0 in
    let done = c.in-Ok-answer.ensures.ok message (rw c.deref.ensures.value at) in
    let ends = c.in-Ok-answer.ensures.ends message (rw c.deref.ensures.value at) in
    rw c.ended-then-answered.ensures (λ start first said talk.
    ends_limit g.M.Machine.goes _ _ _ _ _ _ _ _ _ _ _ c.in-Whole.parts message done.0
    c.in-Ok-answer.ends (reads g.M.Machine.goes _ _ _ _ _ _ _ _ _ _ talk c.in-Ok.ensures.reads) at
    done.1 done.2 ends c.if-ends.false (omega arith))

pub returns : goal.returns
returns g c =
    let found = rw c.in-Whole.is at c.in-Ok.ensures.next in
    let (message, at) = found.0 in
    let done = c.in-Ok-answer.ensures.ok message (rw c.deref.ensures.value at) in
    let ends = c.in-Ok-answer.ensures.ends message (rw c.deref.ensures.value at) in
    let few : c.args.answered < 99 = omega arith in (
      few,
      λ start first said talk.
          rw c.drop_front.ensures (goes_on g.M.Machine.goes _ _ _ _ _ _ _ _ _ _ c.in-Whole.parts
          message done.0 c.in-Ok-answer.ends
          (reads g.M.Machine.goes _ _ _ _ _ _ _ _ _ _ talk c.in-Ok.ensures.reads) at done.1 done.2
          ends c.if-ends.false few),
    )
