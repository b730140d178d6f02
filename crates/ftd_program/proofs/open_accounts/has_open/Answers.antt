use Rattle.std.proofs.Common.{◌∙◌}
use Rattle.ftd_program.proofs.OpenYears.{years_open}
use Rattle.ftd_program.proofs.open_accounts.has_open.Goals as goal

pub returns-in-Years-clause-tells : goal.returns-in-Years-clause-tells
returns-in-Years-clause-tells g c = λ clean s keeps.
    rw c.as_slice.ensures at c.has_year.ensures
    ∙ years_open s c.args.account c.in-Years.account c.args.year c.in-Years.rows
    (rw c.in-Years.is at (c.in_ok-rows.ensures.tells clean s keeps))
