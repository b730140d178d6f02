use Rattle.ftd_desk.proofs.desk.Desk.days_journal.Goals as goal

pub returns-clause-knows : goal.returns-clause-knows
returns-clause-knows g c = λ clean s keeps.
    c.days_journal.ensures.knows clean s (λ is_open. (keeps is_open).rests.kept)
