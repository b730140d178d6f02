use Rattle.std.proofs.Common.{subst, arith}
use Rattle.ftd_store.proofs.Replaced.{all_taken}
use Rattle.ftd_kept.specs.Unapplied.{Adds, IsOfOne, IsOverpaidRow}
use Rattle.ftd_kept.proofs.Added.{adds_next}
use Rattle.ftd_kept.proofs.unapplied_rows.add_overpaid.Goals as goal

pub loop-obligation-preserved : goal.loop-obligation-preserved
loop-obligation-preserved c =
    adds_next (IsOverpaidRow c.args.name.now c.args.payments.now) c.args.owed.now
    c.loop-obligation.obligation-index c.obligation-item.result c.loop-obligation-test.true
    c.obligation-item.is c.args.rows.now.items c.loop-obligation.rows.items
    c.add_if_overpaid.new.rows.items c.loop-obligation.invariant c.in_ok-add_if_overpaid.ensures

pub returns : goal.returns
returns c =
    let end = c.loop-obligation-test.false in
    subst (λ owed. Adds (IsOfOne (IsOverpaidRow c.args.name.now c.args.payments.now) owed)
    c.args.rows.now.items c.loop-obligation.rows.items)
    (all_taken c.args.owed.now c.loop-obligation.obligation-index (omega arith))
    c.loop-obligation.invariant
