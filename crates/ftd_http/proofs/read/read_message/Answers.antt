use Rattle.std.proofs.Common.{◌<◌, vec_len, arith}
use Rattle.std.proofs.lemmas.Bool.Decides.{nat_tests}
use Rattle.ftd_http.proofs.ReadingFacts.{takes_more, cut_of}
use Rattle.ftd_http.proofs.read.read_message.Goals as goal

pub returns-then-ended-clause-next : goal.returns-then-ended-clause-next
returns-then-ended-clause-next g c =
    let some : 0 < vec_len c.looks.buf = grind (arith, nat_tests) in (
      cut_of c.looks.buf.items (rw c.deref.ensures.value at c.in-More.ensures.0)
          (omega (arith, c.looks.buf.ok.0)),
      c.looks.invariant.ended c.if-ended.true,
    )

pub returns-in-Err-clause-takes : goal.returns-in-Err-clause-takes
returns-in-Err-clause-takes g c = takes_more _ _ _ _ _ c.looks.invariant.reads
    c.in-Err.ensures.takes
