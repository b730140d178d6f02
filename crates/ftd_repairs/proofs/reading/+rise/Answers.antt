use Rattle.ftd_repairs.proofs.Differing.{rise_single}
use Rattle.ftd_repairs.proofs.reading.+rise.Goals as goal

pub returns-in-len1 : goal.returns-in-len1
returns-in-len1 t c told = rise_single c.args.rows.now c.in-len1.len_below
