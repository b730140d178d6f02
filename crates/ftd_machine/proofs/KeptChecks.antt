-- The checks of the question what is kept, and that its answer is no change.
use Rattle.std.proofs.Common.{◌≡◌, sym, ap, subst, [], false}
use Rattle.ftd_machine.specs.State.{State}
use Rattle.ftd_machine.specs.Checks.{Answer}
use Rattle.ftd_machine.specs.Kept.{kept_checks, TellsKept}
use Rattle.ftd_machine.specs.Laws.{is_change}
use Rattle.ftd_machine.specs.declared.requests.KeptList.{KeptList}
use Rattle.ftd_machine.specs.declared.requests.KeptList.TheVariants.{Accounts, Years, Reported}
use Rattle.ftd_machine.specs.declared.requests.KeptList.TheVariants.{Holidays, Runs, Payments}
use Rattle.ftd_machine.proofs.Brief.{AnswersBounded}
use Rattle.ftd_machine.proofs.Heads.{Refuses, refuses_none, refuses_needs, refuses_finds}

pub kept_refuses : (s : State) (kept : KeptList) → Refuses (kept_checks s kept)
kept_refuses s Accounts = refuses_none
kept_refuses s (Years name) = refuses_needs _ _ _ (refuses_finds _ _ [] refuses_none)
kept_refuses s (Reported name) = refuses_needs _ _ _ (refuses_finds _ _ [] refuses_none)
kept_refuses s (Holidays year) = refuses_needs _ _ _ (refuses_needs _ _ [] refuses_none)
kept_refuses s (Runs name quarter) =
    refuses_needs _ _ _ (refuses_needs _ _ _ (refuses_finds _ _ [] refuses_none))
kept_refuses s (Payments name quarter) =
    refuses_needs _ _ _ (refuses_needs _ _ _ (refuses_finds _ _ [] refuses_none))

pub kept_no_change : (s : State) (kept : KeptList) (answer : Answer) → TellsKept s kept answer
    → is_change answer ≡ false
kept_no_change s Accounts answer told = ap is_change told.told
kept_no_change s (Years name) answer told = ap is_change told.told
kept_no_change s (Reported name) answer told = ap is_change told.told
kept_no_change s (Holidays year) answer told = ap is_change told.told
kept_no_change s (Runs name quarter) answer told = ap is_change told.told
kept_no_change s (Payments name quarter) answer told = ap is_change told.told

-- what is told is no list whose amounts are added up
pub kept_bounded : (s : State) (kept : KeptList) (answer : Answer) → TellsKept s kept answer
    → AnswersBounded answer
kept_bounded s Accounts answer told = subst AnswersBounded (sym told.told) tt
kept_bounded s (Years name) answer told = subst AnswersBounded (sym told.told) tt
kept_bounded s (Reported name) answer told = subst AnswersBounded (sym told.told) tt
kept_bounded s (Holidays year) answer told = subst AnswersBounded (sym told.told) tt
kept_bounded s (Runs name quarter) answer told = subst AnswersBounded (sym told.told) tt
kept_bounded s (Payments name quarter) answer told = subst AnswersBounded (sym told.told) tt
