use Rattle.std.proofs.Common.{◌≡◌, ◌≤◌, length, map, All}
use Rattle.httparse.specs.Spans.{header_bytes, IsHeaderWithin}
use Rattle.ftd_http.specs.Fields.{values_of}
use Rattle.ftd_http.proofs.fields.find.Given as goal

abbrev pub invariant-loop-header : goal.invariant-loop-header
invariant-loop-header l = record {
  within : All (IsHeaderWithin (length l.buf)) l.rest;
  shorter : length l.rest ≤ length l.fn.headers;
  same : values_of l.name (map (header_bytes l.buf) l.fn.headers) ≡ values_of l.name
      (map (header_bytes l.buf) l.rest);
}

abbrev pub decreases-loop-header : goal.decreases-loop-header
decreases-loop-header l = length l.rest
