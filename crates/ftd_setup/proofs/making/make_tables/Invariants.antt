use Rattle.std.proofs.Common.{take, Ok}
use Rattle.ftd_sql.specs.Making.{AreFree}
use Rattle.ftd_sql.proofs.Making.{AreMade}
use Rattle.ftd_setup.specs.Steps.{Steps}
use Rattle.ftd_setup.proofs.making.make_tables.Given as goal

abbrev pub invariant-loop-name : goal.invariant-loop-name
invariant-loop-name g l = Steps g.S.Store l.fn.tx l.tx (Ok (tt {0}))
    (λ _ old new. AreFree l.fn.names old.now.schema → AreMade (take l.name-index l.fn.names) old.now
    new.now)
