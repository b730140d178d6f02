use Rattle.ftd_desk.proofs.desk.Desk.account_journal.Goals as goal

pub returns-clause-knows : goal.returns-clause-knows
returns-clause-knows g c = λ clean s keeps.
    c.account_journal.ensures.knows clean s (λ is_open. (keeps is_open).rests.kept)
