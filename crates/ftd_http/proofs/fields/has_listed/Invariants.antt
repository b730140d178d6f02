use Rattle.std.proofs.Common.{◌≡◌, length, map, All}
use Rattle.httparse.specs.Spans.{header_bytes, IsHeaderWithin}
use Rattle.ftd_http.specs.Fields.{has_listed}
use Rattle.ftd_http.proofs.fields.has_listed.Given as goal

abbrev pub invariant-loop-list : goal.invariant-loop-list
invariant-loop-list l = record {
  within : All (IsHeaderWithin (length l.buf)) l.rest;
  same : has_listed l.name l.word (map (header_bytes l.buf) l.fn.headers) ≡ has_listed l.name l.word
      (map (header_bytes l.buf) l.rest);
}

abbrev pub decreases-loop-list : goal.decreases-loop-list
decreases-loop-list l = length l.rest
