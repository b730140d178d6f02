use Rattle.std.proofs.Common.{◌≡◌, take}
use Rattle.std.specs.Prelude.{filter}
use Rattle.ftd_questions.specs.Listing.{is_unpaid}
use Rattle.ftd_questions.proofs.listing.unpaid_of.Given as goal

abbrev pub invariant-loop-obligation : goal.invariant-loop-obligation
invariant-loop-obligation l =
    l.left.items ≡ filter (is_unpaid l.fn.payments l.fn.as_of) (take l.obligation-index l.fn.owed)
