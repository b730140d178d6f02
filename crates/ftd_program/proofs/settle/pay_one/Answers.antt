use Rattle.ftd_program.specs.Settling.{numbered, unnumbered}
use Rattle.ftd_program.proofs.settle.pay_one.Goals as goal

pub returns-in-Ok-pay_request : goal.returns-in-Ok-pay_request
returns-in-Ok-pay_request g c =
    numbered c.next_payment.new.self c.in-Ok.number
    (record {
      is = λ clean s keeps. rw c.as_str.ensures
          at (c.in-Ok.ensures.knows clean s (λ is_open. keeps));
      stands = c.next_payment.ensures.stands;
    })
    (rw c.in-Ok-pay_request.ensures.pays at c.ask_line.ensures)

pub returns-in-Err-pay_request : goal.returns-in-Err-pay_request
returns-in-Err-pay_request g c =
    unnumbered c.in-Err-pay_request.refusal c.in-Err-pay_request.ensures.fault
    c.next_payment.ensures.stands c.print_fault.ensures

pub returns-in-Err : goal.returns-in-Err
returns-in-Err g c =
    unnumbered c.in-Err.refusal c.in-Err.ensures.fault c.next_payment.ensures.stands
    c.print_fault-in-Err.ensures
