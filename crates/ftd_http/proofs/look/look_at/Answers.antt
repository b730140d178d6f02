use Rattle.std.proofs.Common.{ap, Err, arith}
use Rattle.ftd_http.specs.Messages.{full}
use Rattle.ftd_http.proofs.LookFacts.{refused_by}
use Rattle.ftd_http.proofs.look.look_at.Goals as goal

pub returns-else-buf-lt-HEAD_LIMIT : goal.returns-else-buf-lt-HEAD_LIMIT
returns-else-buf-lt-HEAD_LIMIT c =
    full (rw c.in-Ok-Partial.field-0-is at c.in-Ok-Partial.ensures.partial) (omega arith)

pub returns-in-Err : goal.returns-in-Err
returns-in-Err c =
    let over = rw c.requires at c.in-Err.ensures.no_room in
    let exceeds = rw c.requires at c.in-Err.ensures.too_many in
    refused_by c.args.buf.now c.in-Err.field-0 over c.in-Err.ensures.invalid
    (λ same. exceeds (ap (λ e. Err e) same))
