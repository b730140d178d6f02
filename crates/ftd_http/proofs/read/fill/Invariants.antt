use Rattle.std.proofs.Common.{◌≡◌, ◌-◌, length, vec_len}
use Rattle.ftd_http.specs.Reading.{Reads}
use Rattle.ftd_http.proofs.read.fill.Given as goal

abbrev pub invariant-fills : goal.invariant-fills
invariant-fills g l = record {
  chunk : length l.chunk ≡ 4096;
  reads : Reads (g.R.Source.left l.fn.source) (g.R.Source.left l.source) l.fn.buf.items l.buf.items;
}

abbrev pub decreases-fills : goal.decreases-fills
decreases-fills g l = l.want - vec_len l.buf
