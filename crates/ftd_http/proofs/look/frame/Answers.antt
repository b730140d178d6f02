use Rattle.std.proofs.Common.{◌∙◌, inr, arith}
use Rattle.ftd_http.specs.Messages.{long, fault}
use Rattle.ftd_http.proofs.LookFacts.{head_at, closes_at, whole_at, part_at}
use Rattle.ftd_http.proofs.look.frame.Goals as goal

pub returns-then-head-gt-HEAD_LIMIT : goal.returns-then-head-gt-HEAD_LIMIT
returns-then-head-gt-HEAD_LIMIT c =
    let (h, at) = c.requires.head in
    long h _ at.reads (let e = at.len in let f = c.if-head-gt-HEAD_LIMIT.true in omega arith)

pub returns-in-Err : goal.returns-in-Err
returns-in-Err c =
    let (h, at) = c.requires.head in
    let (head, same) = head_at at c.requires.within.section.count_fits c.requires.room (omega arith)
    c.of.ensures c.in-Err.ensures.value in
    fault h _ c.in-Err.status head at.reads.1 same

pub overflow_add-end : goal.overflow_add-end
overflow_add-end c = let limit = c.in-Ok.ensures.limit in omega arith

pub returns-then-buf-end : goal.returns-then-buf-end
returns-then-buf-end c =
    let (h, at) = c.requires.head in
    let (head, same) = head_at at c.requires.within.section.count_fits c.requires.room (omega arith)
    c.of.ensures c.in-Ok.ensures.value in
    let limit = c.in-Ok.ensures.limit in (
      inr (part_at c.args.buf.now c.args.headers.now c.args.head h c.in-Ok.count at head same
          c.if-buf-end.true),
      omega arith,
      omega arith,
    )

pub returns : goal.returns
returns c =
    let (h, at) = c.requires.head in
    let (head, same) = head_at at c.requires.within.section.count_fits c.requires.room (omega arith)
    c.of.ensures c.in-Ok.ensures.value in
    let closing = c.asks_to_close.ensures ∙ closes_at c.args.buf.now c.args.headers.now c.args.head
    h at in
    let within = c.requires.within in
    let fits = within.section.len_fits in (
      whole_at c.args.buf.now c.args.headers.now c.args.head h c.in-Ok.count c.asks_to_close.result
          at head same c.if-buf-end.false closing,
      record {
        method = (within.method.0, (let e = within.method.1 in omega arith));
        target = (within.path.0, (let e = within.path.1 in omega arith));
        body = omega arith;
        end = c.if-buf-end.false;
      },
    )
