use Rattle.ftd_replies.specs.Added.{due_end}
use Rattle.ftd_replies.proofs.added.write_due.Goals as goal

pub returns : goal.returns
unfolding due_end
returns g c = rw c.day_bytes-due.ensures at c.write_pieces.ensures
