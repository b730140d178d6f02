use Rattle.ftd_kept.proofs.UnappliedAdded.{stray_added}
use Rattle.ftd_kept.proofs.unapplied_rows.add_if_stray.Goals as goal

pub returns-in_ok-add_payment-in-None : goal.returns-in_ok-add_payment-in-None
returns-in_ok-add_payment-in-None c =
    rw c.in_ok-add_payment-in-None.ensures
    (stray_added c.args.name.now c.args.owed.now c.args.row.now c.held_by.result
    c.args.rows.now.items c.if-row.false c.held_by.ensures c.in-None.is)
