use Rattle.ftd_replies.specs.Added.{added_cents}
use Rattle.ftd_replies.proofs.added.write_cents.Goals as goal

pub returns : goal.returns
unfolding added_cents
returns g c = rw c.from.ensures at c.write_amount_so.ensures
