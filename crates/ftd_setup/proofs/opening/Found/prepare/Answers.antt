use Rattle.ftd_setup.proofs.opening.Found.prepare.Goals as goal

pub returns-clause-new_database : goal.returns-clause-new_database
returns-clause-new_database g c none clean free = let done = c.in_ok-carry_out.ensures.done clean in
    (done.0 none free, done.1)
