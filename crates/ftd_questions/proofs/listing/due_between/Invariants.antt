use Rattle.std.proofs.Common.{Ok}
use Rattle.ftd_store.specs.Frame.{Reads}
use Rattle.ftd_questions.proofs.ByAccount.{SoFarDue}
use Rattle.ftd_questions.proofs.listing.due_between.Given as goal

abbrev pub invariant-loop-account : goal.invariant-loop-account
invariant-loop-account g l =
    Reads g.S.Store l.fn.tx l.tx (Ok (tt {0})) (λ done. SoFarDue l.fn.unpaid l.fn.from l.fn.to
    l.account-items l.account-index l.listed.items)
