use Rattle.ftd.proofs.journal.journal_response.Goals as goal

pub returns-in-None-clause-err : goal.returns-in-None-clause-err
returns-in-None-clause-err g c = rw c.in-None.is c.whole_response.ensures.err

pub returns-in-Some-clause-err : goal.returns-in-Some-clause-err
returns-in-Some-clause-err g c =
    rw c.in-Some.is (rw c.as_str.ensures at c.own_response.ensures.err)
