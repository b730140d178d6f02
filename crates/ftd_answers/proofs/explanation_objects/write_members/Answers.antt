use Rattle.ftd_ports.proofs.WritingFacts.{then_writes, stops_in}
use Rattle.ftd_answers.specs.Fields.{object_told}
use Rattle.ftd_answers.proofs.explanation_objects.write_members.Goals as goal

pub returns-in_err-write_object_member : goal.returns-in_err-write_object_member
unfolding object_told
returns-in_err-write_object_member g c =
    stops_in _ c.from_residual.ensures.0 (rw c.obligation_members-obligation.ensures at
    c.in_err-write_object_member.ensures)

pub returns-in_err-write_object_member-2 : goal.returns-in_err-write_object_member-2
unfolding object_told
returns-in_err-write_object_member-2 g c =
    then_writes (rw c.obligation_members-obligation.ensures at c.in_ok-write_object_member.ensures)
    (stops_in _ c.from_residual-in_err-write_object_member-2.ensures.0
    (rw c.status_members-status.ensures at c.in_err-write_object_member-2.ensures))

pub returns-in_err-write_array_member : goal.returns-in_err-write_array_member
unfolding object_told
returns-in_err-write_array_member g c =
    then_writes (rw c.obligation_members-obligation.ensures at c.in_ok-write_object_member.ensures)
    (then_writes (rw c.status_members-status.ensures at c.in_ok-write_object_member-2.ensures)
    (stops_in _ c.from_residual-in_err-write_array_member.ensures.0
    (rw c.as_slice.ensures at c.in_err-write_array_member.ensures)))

pub returns-in_err-write_array_member-2 : goal.returns-in_err-write_array_member-2
unfolding object_told
returns-in_err-write_array_member-2 g c =
    then_writes (rw c.obligation_members-obligation.ensures at c.in_ok-write_object_member.ensures)
    (then_writes (rw c.status_members-status.ensures at c.in_ok-write_object_member-2.ensures)
    (then_writes (rw c.as_slice.ensures at c.in_ok-write_array_member.ensures)
    (stops_in _ c.from_residual-in_err-write_array_member-2.ensures.0
    (rw c.as_slice-2.ensures at c.in_err-write_array_member-2.ensures))))

pub returns-in_err-write_return_due : goal.returns-in_err-write_return_due
unfolding object_told
returns-in_err-write_return_due g c =
    then_writes (rw c.obligation_members-obligation.ensures at c.in_ok-write_object_member.ensures)
    (then_writes (rw c.status_members-status.ensures at c.in_ok-write_object_member-2.ensures)
    (then_writes (rw c.as_slice.ensures at c.in_ok-write_array_member.ensures)
    (then_writes (rw c.as_slice-2.ensures at c.in_ok-write_array_member-2.ensures)
    (stops_in _ c.from_residual-in_err-write_return_due.ensures.0
    c.in_err-write_return_due.ensures))))

pub returns : goal.returns
unfolding object_told
returns g c =
    then_writes (rw c.obligation_members-obligation.ensures at c.in_ok-write_object_member.ensures)
    (then_writes (rw c.status_members-status.ensures at c.in_ok-write_object_member-2.ensures)
    (then_writes (rw c.as_slice.ensures at c.in_ok-write_array_member.ensures)
    (then_writes (rw c.as_slice-2.ensures at c.in_ok-write_array_member-2.ensures)
    (then_writes c.in_ok-write_return_due.ensures
    (rw c.as_slice-3.ensures at c.write_array_member-3.ensures)))))
