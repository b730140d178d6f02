use Rattle.std.proofs.Common.{◌≡◌, false, ◌∙◌, length, arith}
use Rattle.std.proofs.lemmas.List.Elements.{All-tail}
use Rattle.httparse.specs.Spans.{header_bytes, IsHeaderWithin}
use Rattle.ftd_http.specs.Fields.{is_word}
use Rattle.ftd_http.proofs.FieldFacts.{other}
use Rattle.ftd_http.proofs.fields.find.Goals as goal

pub loop-header-preserved : goal.loop-header-preserved
loop-header-preserved c =
    let parts = c.in-Some.ensures.cases.0 in
    let header = c.in-Some.header.now in
    let unnamed : is_word c.args.name.now (header_bytes c.args.buf.now header).0 ≡ false = cc in
    record {
      within = All-tail (IsHeaderWithin (length c.args.buf.now)) header c.in-Some.others.now
          (rw parts at c.loop-header.invariant.within);
      shorter = (let h = c.loop-header.invariant.shorter in
          omega (arith, c.in-Some.ensures.cases.1));
      same = c.loop-header.invariant.same
          ∙ rw parts (other c.args.buf.now c.args.name.now header c.in-Some.others.now unnamed);
    }
