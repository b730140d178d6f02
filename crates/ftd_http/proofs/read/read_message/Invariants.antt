use Rattle.std.proofs.Common.{◌≡◌, ◌-◌, true, length, vec_len, cond}
use Rattle.std.specs.Io.KnownBytes.{IsAtEnd}
use Rattle.ftd_http.specs.Reading.{Reads}
use Rattle.ftd_http.proofs.read.read_message.Given as goal

abbrev pub invariant-looks : goal.invariant-looks
invariant-looks g l = record {
  room : length l.headers ≡ 64;
  reads : Reads (g.R.Source.left l.fn.source) (g.R.Source.left l.source) l.fn.buf.items l.buf.items;
  ended : l.ended ≡ true → IsAtEnd (g.R.Source.left l.source);
}

abbrev pub decreases-looks : goal.decreases-looks
decreases-looks g l = cond l.ended 0 (1_064_961 - vec_len l.buf)
