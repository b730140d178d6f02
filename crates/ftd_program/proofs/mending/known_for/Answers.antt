use Rattle.ftd_program.proofs.mending.known_for.Goals as goal

pub returns-in-YearNotOpen-clause-knows : goal.returns-in-YearNotOpen-clause-knows
returns-in-YearNotOpen-clause-knows g c = rw c.in-YearNotOpen.is
    (rw c.account_in.ensures at c.beginning.ensures.knows)

pub returns-in-UnknownAccount-clause-knows : goal.returns-in-UnknownAccount-clause-knows
returns-in-UnknownAccount-clause-knows g c =
    rw c.in-UnknownAccount.is (rw c.account_in-in-UnknownAccount.ensures
    at c.meant.ensures.knows)
