use Rattle.std.proofs.Common.{◌≡◌, length, map, All}
use Rattle.std.specs.List.{list_all}
use Rattle.std.specs.Str.{bytes_eq}
use Rattle.httparse.specs.Spans.{header_bytes, IsHeaderWithin}
use Rattle.ftd_http.specs.Fields.{values_of}
use Rattle.ftd_http.proofs.fields.are_all.Given as goal

abbrev pub invariant-loop-other : goal.invariant-loop-other
invariant-loop-other l = record {
  within : All (IsHeaderWithin (length l.buf)) l.rest;
  same : list_all (bytes_eq l.value) (values_of l.name (map (header_bytes l.buf) l.fn.headers))
      ≡ list_all (bytes_eq l.value) (values_of l.name (map (header_bytes l.buf) l.rest));
}

abbrev pub decreases-loop-other : goal.decreases-loop-other
decreases-loop-other l = length l.rest
