use Rattle.ftd_sql.specs.States.{within}
use Rattle.ftd_sql.proofs.Controls.{keeps_tables_then}
use Rattle.ftd_setup.proofs.Stepping.{steps_then}
use Rattle.ftd_setup.proofs.making.make_indexes.Goals as goal

pub returns : goal.returns
returns g c = record {
  step = steps_then c.in_ok-index_runs.ensures.step c.index_payments.ensures.step
      (λ y one two t stands. let first = one t stands in let second = two t first.0 in (
        second.0,
        keeps_tables_then (within g.S.Store c.args.tx.now).now
            (within g.S.Store c.index_runs.new.tx).now
            (within g.S.Store c.index_payments.new.tx).now first.1 second.1,
      ));
}
