use Rattle.ftd_ports.proofs.WritingFacts.{then_writes}
use Rattle.ftd_replies.specs.Notes.{payment_note}
use Rattle.ftd_replies.proofs.notes.write_payment_note.Goals as goal

pub returns-in_ok-write_counts-in-Some : goal.returns-in_ok-write_counts-in-Some
unfolding payment_note
returns-in_ok-write_counts-in-Some g c =
    rw c.in-Some.is (then_writes c.in_ok-write_counts-in-Some.ensures
    (rw (c.total-paid.ensures, c.as_slice.ensures) at c.write_rest.ensures))
