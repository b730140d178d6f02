use Rattle.std.proofs.Common.{refl}
use Rattle.ftd_store.specs.Changes.{with_run}
use Rattle.ftd_repairs.proofs.Reposting.{reposts}
use Rattle.ftd_store.proofs.Turning.{writes_turn}
use Rattle.ftd_repairs.proofs.posting.add_repaired.Goals as goal

pub returns : goal.returns
returns g c =
    let change = with_run c.args.account.now c.args.number c.args.run in
    record {
      call = reposts g.S.Store c.args.account.now c.args.form c.args.run.payday change c.args.tx.now
          c.known_years.new.tx c.add_run.new.self c.repair_rows.new.tx c.in_ok-known.known _
          c.in_ok-difference.difference
          (λ t. refl) c.in_ok-known.ensures.call
          (writes_turn c.in_ok-add_run.ensures.call) c.in_ok-difference.ensures.call;
    }
