use Rattle.ftd_answers.proofs.explanations.ColumnsRowFormatCountedDay.write_row.Goals as goal

pub returns : goal.returns
returns g c = rw (c.day_bytes-day.ensures, c.day_kind_bytes.ensures) at c.write_pieces.ensures
