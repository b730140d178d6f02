use Rattle.std.proofs.Common.{◌+◌, List, take}
use Rattle.ftd_sql.specs.declared.TableName.{TableName}
use Rattle.ftd_sql.specs.Making.{AreFree}
use Rattle.ftd_sql.proofs.Making.{AreMade, next_made}
use Rattle.ftd_setup.proofs.Stepping.{steps_both}
use Rattle.ftd_setup.proofs.making.make_tables.Goals as goal

pub loop-name-preserved : goal.loop-name-preserved
loop-name-preserved g c =
    let i = c.loop-name.name-index in
    let names : List TableName = c.args.names.now in
    steps_both _
    (λ _ old new. AreFree names old.now.schema → AreMade (take (i + 1) names) old.now new.now)
    c.loop-name.invariant c.in_ok-run.ensures.step
    (λ so ran free. next_made names i _ _ _ _ _ c.loop-name-test.true c.create.ensures free
    (so free) ran)
