-- What a desk tells of an account.
use Rattle.std.proofs.Common.{◌≡◌, ℕ, List, Option, Result, Ok, Err, refl, subst, sym}
use Rattle.std.specs.Prelude.{IfOk, OnErr, Vec}
use Rattle.sqlite.specs.Store as store
use Rattle.ftd_machine.specs.Checks.{Answer}
use Rattle.ftd_desk.specs.Desks.{IsStopped, held}
use Rattle.ftd_desk.specs.Words.{HandlesAll}
use Rattle.ftd_desk.specs.declared.desk.Desk.{Desk}
use Rattle.ftd_server.specs.Accounts.{TellsAccount, asked, page_questions, said_to, unasked}
use Rattle.ftd_connections.specs.Responses.{Said}

pub tells : {S A E : Type 0} (g : store.Ghosts S) (today : Option ℕ) (old new : Desk S)
    (account : List ℕ) (given : Result (Vec Answer A) E)
    → IfOk given (λ answers. HandlesAll (IsStopped new) (held g old) (held g new)
    (page_questions today account) answers.items)
    → OnErr given (new ≡ old) → TellsAccount g today old new account (said_to today account given)
tells g today old new account (Ok answers) handles same = asked answers.items handles refl
tells g today old new account (Err e) handles same = unasked same refl

pub tells_so : {S : Type 0} (g : store.Ghosts S) (today : Option ℕ) (old new : Desk S)
    (account : List ℕ) (said is : Said) → said ≡ is → TellsAccount g today old new account is
    → TellsAccount g today old new account said
tells_so g today old new account said is same so =
    subst (λ (it : Said). TellsAccount g today old new account it) (sym same) so
