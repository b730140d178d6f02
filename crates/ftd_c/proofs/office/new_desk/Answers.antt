use Rattle.sqlite.proofs.Callers.{memory_is_clean}
use Rattle.ftd_c.proofs.NewDesks.{nothing_entered}
use Rattle.ftd_c.proofs.office.new_desk.Goals as goal

pub returns-in-Ok-open : goal.returns-in-Ok-open
returns-in-Ok-open c = nothing_entered _ _ c.in-Ok.ensures.empty c.in-Ok-open.ensures.opens
    (memory_is_clean c.in-Ok-open.desk.store.conn)
