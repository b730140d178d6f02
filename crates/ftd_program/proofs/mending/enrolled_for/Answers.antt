use Rattle.ftd_program.proofs.mending.enrolled_for.Goals as goal

pub returns-in-Account-clause-knows : goal.returns-in-Account-clause-knows
returns-in-Account-clause-knows g c =
    rw c.in-Account.is (rw c.as_str.ensures at c.enrolment_of.ensures.knows)
