use Rattle.std.proofs.Common.{refl}
use Rattle.ftd_desk.specs.Desks.{held}
use Rattle.ftd_program.proofs.Numbered.{finds_unused}
use Rattle.ftd_program.proofs.numbering.unused_number.Goals as goal

pub returns-in-Post-clause-finds : goal.returns-in-Post-clause-finds
returns-in-Post-clause-finds g c =
    finds_unused (held g.S.Store c.args.desk.now) _ c.args.request.now c.next_run.result
    (rw c.in-Post.is refl) (rw c.in-Post.is (rw c.as_str.ensures at c.next_run.ensures.knows))
    c.next_run.ensures.fault c.next_run.ensures.stands

pub returns-in-Pay-clause-finds : goal.returns-in-Pay-clause-finds
returns-in-Pay-clause-finds g c =
    finds_unused (held g.S.Store c.args.desk.now) _ c.args.request.now c.next_payment.result
    (rw c.in-Pay.is refl) (rw c.in-Pay.is (rw c.as_str-in-Pay.ensures at c.next_payment.ensures.knows))
    c.next_payment.ensures.fault c.next_payment.ensures.stands
