use Rattle.std.proofs.Common.{Ok, Err}
use Rattle.ftd_program.proofs.printing.print_plain.Goals as goal

pub returns-in-Ok : goal.returns-in-Ok
returns-in-Ok g c = record {
  deposits = Ok c.in-Ok.text.items;
  gives = rw (c.as_str-account.ensures, c.as_slice.ensures) at c.in-Ok.ensures;
  prints = rw c.deref.ensures.value at c.print_text.ensures;
}

pub returns-in-Err : goal.returns-in-Err
returns-in-Err g c = record {
  deposits = Err c.in-Err.fault;
  gives = rw (c.as_str-account.ensures, c.as_slice.ensures) at c.in-Err.ensures;
  prints = c.print_fault.ensures;
}
