use Rattle.std.proofs.Common.{[], refl}
use Rattle.std.proofs.KnownBytes.{Appends-nil}
use Rattle.ftd_connections.specs.Serving.{unasked}
use Rattle.ftd_connections.specs.Responses.{response_text, said_of}
use Rattle.ftd_connections.specs.declared.connection.Cause.TheVariants as why
use Rattle.ftd_connections.proofs.ServeFacts.{answer_is, ends_at, half_answer, lost_answer}
use Rattle.ftd_connections.proofs.connection.answer.Goals as goal

pub returns-in_default-clause-err : goal.returns-in_default-clause-err
returns-in_default-clause-err g c = λ message at. (
  [],
  unasked why.Memory refl,
  Appends-nil (g.W.Target.taken c.args.target.now),
)

pub returns-in_default-respond-clause-err : goal.returns-in_default-respond-clause-err
returns-in_default-respond-clause-err g c = λ message at.
    let is = rw (c.of.ensures, c.of-2.ensures) at c.in-Ok.ensures in
    lost_answer g.M.Machine.goes c.args.answered c.args.buf.now c.args.parts.now message
    c.in-Ok.asked c.args.machine.now c.respond.new.self (g.W.Target.taken c.args.target.now) at
    is c.in_default-respond.ensures.err

pub returns-clause-err : goal.returns-clause-err
returns-clause-err g c = λ message at.
    let is = rw (c.of.ensures, c.of-2.ensures) at c.in-Ok.ensures in
    half_answer g.M.Machine.goes c.args.answered c.args.buf.now c.args.parts.now message
    c.in-Ok.asked c.args.machine.now c.respond.new.self (said_of c.in-Ok-respond.response)
    c.asks_to_end-ends.result c.closes_after.result (g.W.Target.taken c.args.target.now)
    (g.W.Target.taken c.write_response.new.target) at is c.asks_to_end-ends.ensures
    c.closes_after.ensures
    c.in-Ok-respond.ensures.ok c.in-Err.ensures.err

pub returns-in-Ok-write_response-clause-ok : goal.returns-in-Ok-write_response-clause-ok
returns-in-Ok-write_response-clause-ok g c = λ message at. (
  response_text (said_of c.in-Ok-respond.response) c.closes_after.result,
  answer_is g.M.Machine.goes c.args.answered c.args.buf.now c.args.parts.now message c.in-Ok.asked
      c.args.machine.now c.respond.new.self (said_of c.in-Ok-respond.response)
      c.asks_to_end-ends.result c.closes_after.result at
      (rw (c.of.ensures, c.of-2.ensures) at c.in-Ok.ensures) c.asks_to_end-ends.ensures
      c.closes_after.ensures c.in-Ok-respond.ensures.ok,
  c.in-Ok-write_response.ensures.ok,
)

pub returns-in-Ok-write_response-clause-ends : goal.returns-in-Ok-write_response-clause-ends
returns-in-Ok-write_response-clause-ends g c = λ message at.
    ends_at g.M.Machine.goes c.args.buf.now c.args.parts.now message c.in-Ok.asked
    c.asks_to_end-ends.result at (rw (c.of.ensures, c.of-2.ensures) at c.in-Ok.ensures)
    c.asks_to_end-ends.ensures
