use Rattle.std.proofs.Common.{arith, subst}
use Rattle.ftd_ports.specs.Writing.{Writes}
use Rattle.ftd_replies.proofs.Rests.{rest_left, rest_none, rest_over}
use Rattle.ftd_replies.proofs.notes.write_rest.Goals as goal

pub returns-then-paid-amount : goal.returns-then-paid-amount
returns-then-paid-amount g c =
    let less = rw c.from-amount.ensures at c.if-paid-amount.true in
    subst (Writes _ _ _ _) (rest_left c.args.cents.0 c.args.paid less)
    (rw c.from-amount.ensures at c.write_amount_so.ensures)

pub returns-then-amount-paid : goal.returns-then-amount-paid
returns-then-amount-paid g c =
    let more = rw c.from-amount.ensures at c.if-amount-paid.true in
    subst (Writes _ _ _ _) (rest_over c.args.cents.0 c.args.paid more)
    (rw c.from-amount.ensures at c.write_amount_so-then-amount-paid.ensures)

pub returns-else-amount-paid : goal.returns-else-amount-paid
returns-else-amount-paid g c =
    let low = rw c.from-amount.ensures at c.if-paid-amount.false in
    let high = rw c.from-amount.ensures at c.if-amount-paid.false in
    subst (Writes _ _ _ _)
    (rest_none c.args.cents.0 c.args.paid (omega arith) (omega arith)) c.write_all.ensures
