use Rattle.std.proofs.Common.{pos, codes}
use Rattle.ftd_sql.specs.States.{within}
use Rattle.ftd_sql.proofs.Meanings.{version_set}
use Rattle.ftd_setup.proofs.Stepping.{steps_so}
use Rattle.ftd_setup.proofs.migrating.set_version.Goals as goal

pub returns : goal.returns
returns g c = record {
  step = steps_so c.in_ok-run.ensures.step (λ ran t stands. ((version_set (codes "ftd") (pos 3)
      (within g.S.Store c.args.tx.now) (within g.S.Store c.run.new.tx) t stands).0
      (rw (c.params-to_sql.ensures, c.params-to_sql-2.ensures, c.if-branch-ne1.false) at ran)).0);
}
