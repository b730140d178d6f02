use Rattle.ftd_desk.proofs.desk.Desk.next_payment.Goals as goal

pub returns-clause-knows : goal.returns-clause-knows
returns-clause-knows g c = λ clean s keeps.
    c.next_payment.ensures.knows clean s (λ is_open. (keeps is_open).rests.kept)
