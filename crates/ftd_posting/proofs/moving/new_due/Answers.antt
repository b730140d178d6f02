use Rattle.std.proofs.Common.{rules}
use Rattle.ftd_posting.proofs.moving.new_due.Goals as goal

pub returns-then-eq : goal.returns-then-eq
returns-then-eq c = search rules
