use Rattle.std.proofs.Common.{take}
use Rattle.ftd_machine.specs.Kept.{IsHeldBy}
use Rattle.ftd_kept.proofs.payment_rows.held_by.Given as goal

abbrev pub invariant-loop-obligation : goal.invariant-loop-obligation
invariant-loop-obligation l = IsHeldBy (take l.obligation-index l.owed) l.day l.held
