use Rattle.ftd_program.specs.Journals.{unprinted, unread}
use Rattle.ftd_program.proofs.journal.whole_journal.Goals as goal

pub returns-in-Err-Output : goal.returns-in-Err-Output
returns-in-Err-Output g c =
    let part = rw c.in-Err-Output.field-0-is at c.in-Err-Output.ensures in
    unprinted (rw c.fail_output.ensures.out part) c.fail_output.ensures.status
    c.fail_output.ensures.line

pub returns-in-Err-Desk : goal.returns-in-Err-Desk
returns-in-Err-Desk g c =
    let part = rw c.in-Err-Desk.field-0-is at c.in-Err-Desk.ensures in
    unread c.in-Err-Desk.refusal c.write_journal.new.out part c.print_refusal.ensures
