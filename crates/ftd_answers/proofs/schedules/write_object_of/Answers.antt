use Rattle.ftd_answers.specs.Fields.{object_told}
use Rattle.ftd_answers.proofs.schedules.write_object_of.Goals as goal

pub returns-in-None : goal.returns-in-None
unfolding object_told
returns-in-None g c =
    rw c.in-None.is (rw c.schedule_members.ensures at c.write_object.ensures)

pub returns-in-Some : goal.returns-in-Some
unfolding object_told
returns-in-Some g c =
    rw c.in-Some.is (rw c.turn_members.ensures at c.write_object-in-Some.ensures)
