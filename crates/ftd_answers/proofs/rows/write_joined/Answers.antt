use Rattle.ftd_ports.proofs.WritingFacts.{nothing_written, begins, goes_on, stops_after, ends_in}
use Rattle.ftd_answers.proofs.RowFormatFacts.{joined_from, joined_none}
use Rattle.ftd_answers.proofs.rows.write_joined.Goals as goal

pub returns-in_default : goal.returns-in_default
returns-in_default g c =
    rw (joined_none (g.F.RowFormat.row_text c.args.format.now) c.args.rows.now
    c.in_default.ensures.cases) nothing_written

pub returns-in_err-write_row : goal.returns-in_err-write_row
returns-in_err-write_row g c =
    stops_after _ c.from_residual.ensures.0 begins
    (joined_from _ _ _ _ c.in-Some.ensures.cases.0) c.in_err-write_row.ensures

pub returns : goal.returns
returns g c =
    ends_in (goes_on _ _ begins (joined_from _ _ _ _ c.in-Some.ensures.cases.0)
    c.in_ok-write_row.ensures.ok) c.write_others.ensures
