use Rattle.std.proofs.Common.{arith}
use Rattle.std.proofs.lemmas.List.Sums.{prefix_len-le-length}
use Rattle.ftd_csv.specs.Headers.{is_line_end}
use Rattle.ftd_csv.proofs.headers.from_line.Goals as goal

pub slice_bounds-result-count : goal.slice_bounds-result-count
slice_bounds-result-count c =
    let least = prefix_len-le-length is_line_end c.args.text.now in
    let ends = c.line_ends.ensures in
    omega arith

pub slice_bounds-result-start : goal.slice_bounds-result-start
slice_bounds-result-start c =
    let least = prefix_len-le-length is_line_end c.args.text.now in
    let ends = c.line_ends.ensures in
    omega arith
