-- An answer that tells of no change leaves the state.
use Rattle.std.proofs.Common.{◌≡◌, inl, inr, ℕ, List, false, Option, None, Some, Ok}
use Rattle.std.proofs.lemmas.Bool.{true≢false}
use Rattle.ftd_machine.specs.State.{State, Entries}
use Rattle.ftd_machine.specs.Checks.{Answer, Decides}
use Rattle.ftd_machine.specs.Step.{Step, OpensNext}
use Rattle.ftd_machine.specs.Posting.{IsPosted}
use Rattle.ftd_machine.specs.Laws.{is_change}
use Rattle.ftd_rules.specs.declared.run.PayRun.{PayRun}
use Rattle.ftd_rules.specs.declared.run.Voidable.{Voidable}
use Rattle.ftd_machine.specs.declared.replies.Reply.TheVariants.{Done}
use Rattle.ftd_machine.specs.declared.requests.Request.{Request}
use Rattle.ftd_machine.specs.declared.requests.Request.TheVariants.{Enter, Post, Void, Pay, VoidPay}
use Rattle.ftd_machine.specs.declared.requests.Request.TheVariants.{Correct, Question}
use Rattle.ftd_machine.specs.declared.requests.Entry.TheVariants as entry
use Rattle.ftd_machine.specs.declared.requests.Correction.TheVariants as correction
use Rattle.ftd_machine.specs.declared.entries.ReturnPeriod.TheVariants.{Quarter, Year}
use Rattle.ftd_machine.proofs.Deciding.{either}

-- a request that is done has changed the state
pub done_leaves : (check : Option Answer) (s : State) (answer : Answer) (new after : State)
    → Decides check s answer new ((answer ≡ Ok Done) × (new ≡ after)) → is_change answer ≡ false
    → new ≡ s
done_leaves check s answer new after step stays =
    elim (either check s answer new _ step) [
      | inl same ↦ same.1
      | inr done ↦ absurd (let is = done.1.0 in true≢false (rw is at stays))
    ]

-- a question changes nothing
pub asked_leaves : (check : Option Answer) (s : State) (answer : Answer) (new : State)
    (Told : Type 0)
    → Decides check s answer new ((new ≡ s) × Told) → new ≡ s
asked_leaves check s answer new Told step =
    elim (either check s answer new _ step) [ inl same ↦ same.1 | inr told ↦ told.1.0 ]

next_leaves : (s : State) (answer : Answer) (new : State) (name : List ℕ) (year : ℕ)
    → OpensNext s answer new name year → is_change answer ≡ false → new ≡ s
next_leaves s answer new name year (inl missing) stays = missing.2.1
next_leaves s answer new name year (inr found) stays = done_leaves _ s answer new _ found.2 stays

open_leaves : (check : Option Answer) (s : State) (answer : Answer) (new : State) (name : List ℕ)
    (year : ℕ)
    → Decides check s answer new (OpensNext s answer new name year) → is_change answer ≡ false
    → new ≡ s
open_leaves (Some given) s answer new name year step stays = step.1
open_leaves None s answer new name year step stays = next_leaves s answer new name year step stays

-- what is posted or voided is told
post_leaves : (check : Option Answer) (s : State) (answer : Answer) (new after : State)
    (holidays : List ℕ) (own then : Entries) (payday : ℕ)
    → Decides check s answer new ((new ≡ after) × IsPosted holidays own then payday answer)
    → is_change answer ≡ false → new ≡ s
post_leaves (Some given) s answer new after holidays own then payday step stays = step.1
post_leaves None s answer new after holidays own then payday step stays =
    absurd (true≢false (rw step.1.told at stays))

void_leaves : (check : Option Answer) (s : State) (answer : Answer) (new after : State)
    (holidays : List ℕ) (own then : Entries) (known : Option (Voidable PayRun))
    → Decides check s answer new ((run : Voidable PayRun) × (known ≡ Some run) × (new ≡ after)
    × IsPosted holidays own then run.value.payday answer)
    → is_change answer ≡ false → new ≡ s
void_leaves (Some given) s answer new after holidays own then known step stays = step.1
void_leaves None s answer new after holidays own then known step stays =
    absurd (true≢false (rw step.3.told at stays))

pub leaves : (s : State) (request : Request) (answer : Answer) (next : State)
    → Step s request answer next → is_change answer ≡ false → next ≡ s
leaves s (Enter (entry.Account name account)) answer next step stays =
    done_leaves _ s answer next _ step stays
leaves s (Enter (entry.Calendar year days)) answer next step stays =
    done_leaves _ s answer next _ step stays
leaves s (Enter (entry.Holiday day)) answer next step stays =
    done_leaves _ s answer next _ step stays
leaves s (Enter (entry.Total name (Quarter quarter) cents)) answer next step stays =
    done_leaves _ s answer next _ step stays
leaves s (Enter (entry.Total name (Year year) cents)) answer next step stays =
    done_leaves _ s answer next _ step stays
leaves s (Enter (entry.Year name year)) answer next step stays =
    open_leaves _ s answer next name year step
    stays
leaves s (Post name number run) answer next step stays =
    post_leaves _ s answer next _ _ _ _ _ step stays
leaves s (Void name number) answer next step stays =
    void_leaves _ s answer next _ _ _ _ _ step stays
leaves s (Pay name number payment) answer next step stays =
    done_leaves _ s answer next _ step stays
leaves s (VoidPay name number) answer next step stays = done_leaves _ s answer next _ step stays
leaves s (Correct number (correction.Total name (Quarter quarter) cents)) answer next step stays =
    post_leaves _ s answer next _ _ _ _ _ step stays
leaves s (Correct number (correction.Total name (Year year) cents)) answer next step stays =
    post_leaves _ s answer next _ _ _ _ _ step stays
leaves s (Correct number (correction.Holiday day is_holiday)) answer next step stays =
    done_leaves _ s answer next _ step stays
leaves s (Correct number (correction.Account name beginning)) answer next step stays =
    done_leaves _ s answer next _ step stays
leaves s (Question question) answer next step stays = asked_leaves _ s answer next _ step
