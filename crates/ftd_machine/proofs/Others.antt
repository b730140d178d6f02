-- A request leaves the entries of each account that it does not name.
use Rattle.std.proofs.Common.{◌≡◌, ◌∙◌, inl, inr, refl, ap, ℕ, List, Option, None, Some, Ok}
use Rattle.ftd_machine.specs.State.{State, Entries, entries_of}
use Rattle.ftd_machine.specs.Checks.{Answer, Decides}
use Rattle.ftd_machine.specs.Step.{Step, OpensNext, taken, with_entry}
use Rattle.ftd_machine.specs.Posting.{IsPosted}
use Rattle.ftd_machine.specs.Laws.{Names}
use Rattle.ftd_rules.specs.declared.run.PayRun.{PayRun}
use Rattle.ftd_rules.specs.declared.run.Voidable.{Voidable}
use Rattle.ftd_machine.specs.declared.replies.Reply.TheVariants.{Done}
use Rattle.ftd_machine.specs.declared.requests.Request.{Request}
use Rattle.ftd_machine.specs.declared.requests.Request.TheVariants.{Enter, Post, Void, Pay, VoidPay}
use Rattle.ftd_machine.specs.declared.requests.Request.TheVariants.{Correct, Question}
use Rattle.ftd_machine.specs.declared.requests.Entry.TheVariants as entry
use Rattle.ftd_machine.specs.declared.requests.Correction.TheVariants as correction
use Rattle.ftd_machine.specs.declared.entries.ReturnPeriod.TheVariants.{Quarter, Year}
use Rattle.ftd_machine.proofs.Adding.{account_other, entry_other, voided_other, moved_other}
use Rattle.ftd_machine.proofs.Leaving.{asked_leaves}

-- what is told of a state, and stays where a request leaves what it is told of
module _ {X : Type 0} (told : State → X) (s : State) (answer : Answer) (new : State) where
  abbrev Stay : State → Type 0
  Stay after = told after ≡ told s

  -- where the state is as it was, or another one of which the same is told
  stays : (after : State) → new ≡ after → Stay after → Stay new
  stays after is same = ap told is ∙ same

  pub done_stays : (check : Option Answer) (after : State)
      → Decides check s answer new ((answer ≡ Ok Done) × (new ≡ after)) → Stay after → Stay new
  done_stays (Some given) after step same = stays s step.1 refl
  done_stays None after step same = stays after step.1 same

  pub post_stays : (check : Option Answer) (after : State) (holidays : List ℕ) (own then : Entries)
      (payday : ℕ)
      → Decides check s answer new ((new ≡ after) × IsPosted holidays own then payday answer)
      → Stay after → Stay new
  post_stays (Some given) after holidays own then payday step same = stays s step.1 refl
  post_stays None after holidays own then payday step same = stays after step.0 same

  pub void_stays : (check : Option Answer) (after : State) (holidays : List ℕ) (own then : Entries)
      (known : Option (Voidable PayRun))
      → Decides check s answer new ((run : Voidable PayRun) × (known ≡ Some run) × (new ≡ after)
      × IsPosted holidays own then run.value.payday answer)
      → Stay after → Stay new
  void_stays (Some given) after holidays own then known step same = stays s step.1 refl
  void_stays None after holidays own then known step same = stays after step.2 same

  next_stays : (name : List ℕ) (year : ℕ) → OpensNext s answer new name year
      → Stay (record s { open_years = with_entry s.open_years name year tt }) → Stay new
  next_stays name year (inl missing) same = stays s missing.2.1 refl
  next_stays name year (inr found) same = done_stays _ _ found.2 same

  pub open_stays : (check : Option Answer) (name : List ℕ) (year : ℕ) → Decides check s answer new
      (OpensNext s answer new name year)
      → Stay (record s { open_years = with_entry s.open_years name year tt }) → Stay new
  open_stays (Some given) name year step same = stays s step.1 refl
  open_stays None name year step same = next_stays name year step same

pub others : (s : State) (request : Request) (answer : Answer) (next : State) (account : List ℕ)
    → Step s request answer next → (Names request account → ⊥)
    → entries_of next account ≡ entries_of s account
others s (Enter (entry.Account name enrolled)) answer next account step other =
    done_stays (λ x. entries_of x account) s answer next _ _ step
    (rw (account_other s.accounts name enrolled
    account other) refl)
others s (Enter (entry.Calendar year days)) answer next account step other =
    done_stays (λ x. entries_of x account) s answer next _ _ step refl
others s (Enter (entry.Holiday day)) answer next account step other =
    done_stays (λ x. entries_of x account) s answer next _ _ step refl
others s (Enter (entry.Total name (Quarter quarter) cents)) answer next account step other =
    done_stays (λ x. entries_of x account) s answer next _ _ step
    (rw (entry_other s.reported name quarter cents account other) refl)
others s (Enter (entry.Total name (Year year) cents)) answer next account step other =
    done_stays (λ x. entries_of x account) s answer next _ _ step
    (rw (entry_other s.reported_years name year cents account other) refl)
others s (Enter (entry.Year name year)) answer next account step other =
    open_stays (λ x. entries_of x account) s answer next _ name year step
    (rw (entry_other s.open_years name year tt account other) refl)
others s (Post name number run) answer next account step other =
    post_stays (λ x. entries_of x account) s answer next _ _ _ _ _ _ step
    (rw (entry_other s.runs name number
    (taken run) account other)
    refl)
others s (Void name number) answer next account step other =
    void_stays (λ x. entries_of x account) s answer next _ _ _ _ _ _ step
    (rw (voided_other s.runs name number account other) refl)
others s (Pay name number payment) answer next account step other =
    done_stays (λ x. entries_of x account) s answer next _ _ step
    (rw (entry_other s.payments name number
    (taken payment) account other) refl)
others s (VoidPay name number) answer next account step other =
    done_stays (λ x. entries_of x account) s answer next _ _ step
    (rw (voided_other s.payments name number account other) refl)
others s (Correct number (correction.Total name (Quarter quarter) cents)) answer next account step
    other =
    post_stays (λ x. entries_of x account) s answer next _ _ _ _ _ _ step
    (rw (entry_other s.corrected name quarter cents account other) refl)
others s (Correct number (correction.Total name (Year year) cents)) answer next account step other =
    post_stays (λ x. entries_of x account) s answer next _ _ _ _ _ _ step
    (rw (entry_other s.corrected_years name year cents account other) refl)
others s (Correct number (correction.Holiday day is_holiday)) answer next account step other =
    done_stays (λ x. entries_of x account) s answer next _ _ step refl
others s (Correct number (correction.Account name beginning)) answer next account step other =
    done_stays (λ x. entries_of x account) s answer next _ _ step
    (rw (moved_other s.moved name beginning account other) refl)
others s (Question question) answer next account step other = ap (λ x. entries_of x account)
    (asked_leaves _ s answer next _ step)
