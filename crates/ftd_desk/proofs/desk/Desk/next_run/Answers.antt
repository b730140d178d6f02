use Rattle.ftd_desk.proofs.desk.Desk.next_run.Goals as goal

pub returns-clause-knows : goal.returns-clause-knows
returns-clause-knows g c = λ clean s keeps.
    c.next_run.ensures.knows clean s (λ is_open. (keeps is_open).rests.kept)
