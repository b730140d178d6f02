use Rattle.ftd_kept.proofs.UnappliedAdded.{overpaid_none, overpaid_added}
use Rattle.ftd_kept.proofs.unapplied_rows.add_if_overpaid.Goals as goal

pub returns-then-paid-obligation : goal.returns-then-paid-obligation
returns-then-paid-obligation c =
    overpaid_none c.args.name.now c.args.payments.now c.args.obligation.now c.paid_for-paid.result
    c.args.rows.now.items c.paid_for-paid.ensures c.if-paid-obligation.true

pub returns : goal.returns
returns c =
    rw c.in_ok-add_obligation.ensures
    (overpaid_added c.args.name.now c.args.payments.now c.args.obligation.now c.paid_for-paid.result
    c.args.rows.now.items c.paid_for-paid.ensures c.if-paid-obligation.false)
