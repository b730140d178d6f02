use Rattle.std.proofs.Common.{take}
use Rattle.ftd_questions.specs.Listing.{AddsDue}
use Rattle.ftd_questions.proofs.listing.add_due.Given as goal

abbrev pub invariant-loop-obligation : goal.invariant-loop-obligation
invariant-loop-obligation l =
    AddsDue l.fn.from l.fn.to l.fn.account (take l.obligation-index l.fn.owed) l.fn.listed.items
    l.listed.items
