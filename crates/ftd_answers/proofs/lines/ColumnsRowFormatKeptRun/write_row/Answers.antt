use Rattle.std.proofs.Common.{subst, ◌∙◌}
use Rattle.ftd_ports.specs.Writing.{Writes}
use Rattle.ftd_answers.specs.Listings.{run_line}
use Rattle.ftd_answers.proofs.LineParts.{run_parts}
use Rattle.ftd_answers.proofs.lines.ColumnsRowFormatKeptRun.write_row.Goals as goal

pub returns : goal.returns
unfolding run_line
returns g c =
    subst (Writes _ _ _ _) (run_parts c.amount_column-fit.result c.amount_column-ss.result
    c.amount_column-medicare.result c.day_bytes.ensures c.amount_column-fit.ensures
    c.amount_column-ss.ensures c.amount_column-medicare.ensures
    (c.as_bytes-number.ensures.value ∙ c.format.ensures.text) c.void_end.ensures)
    c.write_pieces.ensures
