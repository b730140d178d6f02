use Rattle.ftd_replies.specs.Added.{added_days}
use Rattle.ftd_replies.proofs.added.write_days.Goals as goal

pub returns : goal.returns
unfolding added_days
returns g c =
    rw (c.day_bytes-first.ensures, c.day_bytes-last.ensures, c.rule_name-rule.ensures)
    at c.write_pieces.ensures
