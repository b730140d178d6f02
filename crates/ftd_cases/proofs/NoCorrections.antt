-- The journal of a state that was told right corrects nothing, and leads to a desk that answers as
-- the state.
use Rattle.std.proofs.Common.{◌≡◌, ◌∙◌, inl, inr, refl, ap, subst, ℕ, Bool, true, false}
use Rattle.std.proofs.Common.{List, [], ◌∷◌, ◌++◌, map, filter}
use Rattle.std.specs.Prelude.{◌↔◌, flat_map, nat_lt}
use Rattle.ftd_days.specs.declared.cents.Cents.{Cents}
use Rattle.ftd_rules.specs.Lists.{Has}
use Rattle.ftd_rules.specs.declared.payment.Payment.{Payment}
use Rattle.ftd_rules.specs.declared.run.PayRun.{PayRun}
use Rattle.ftd_rules.specs.declared.run.Voidable.{Voidable}
use Rattle.ftd_rules.proofs.Members.{has_mapped}
use Rattle.ftd_rules.proofs.Owed.{has_append}
use Rattle.ftd_machine.specs.State.{State, Enrolled, Entry, nothing, all_days, is_of}
use Rattle.ftd_machine.specs.Checks.{Answer, first_of}
use Rattle.ftd_machine.specs.Journal.{journal, days_journal, account_journal, calendar_given}
use Rattle.ftd_machine.specs.Journal.{holiday_added, day_changes, own_by_key}
use Rattle.ftd_machine.specs.Journal.{total_reported, year_opened, run_posted, payment_made}
use Rattle.ftd_machine.specs.Journal.{void_if, in_order, is_calendar_before, is_account_before}
use Rattle.ftd_machine.specs.Journal.{SameEntries}
use Rattle.ftd_machine.specs.Questions.{question_checks, Tells}
use Rattle.ftd_machine.specs.Runs.{IsRun}
use Rattle.ftd_machine.specs.Sound.{IsSound}
use Rattle.ftd_machine.specs.Step.{Step}
use Rattle.ftd_machine.specs.declared.entries.ReturnPeriod.{ReturnPeriod}
use Rattle.ftd_machine.specs.declared.entries.ReturnPeriod.TheVariants.{Quarter, Year}
use Rattle.ftd_machine.specs.declared.requests.Entry.TheVariants as entry
use Rattle.ftd_machine.specs.declared.requests.Question.{Question}
use Rattle.ftd_machine.specs.declared.requests.Request.{Request}
use Rattle.ftd_machine.specs.declared.requests.Request.TheVariants as request
use Rattle.ftd_machine.proofs.Deciding.{either}
use Rattle.ftd_machine.proofs.JournalMakes.{journal_makes}
use Rattle.ftd_machine.proofs.SameMembers.{same_back}
use Rattle.ftd_machine.proofs.SameStep.{same_entries_answer}
use Rattle.ftd_machine.proofs.Soundness.{reached_sound}
use Rattle.ftd_cases.specs.ToldRight.{told_right, asks_what_is_kept, corrects}
use Rattle.ftd_cases.proofs.RightAtFirst.{answers_right}
use Rattle.ftd_cases.proofs.RightIsSound.{right_is_sound}

-- ---- requests of which none corrects anything

record NoneCorrects (requests : List Request) : Type 0 where
  none : (r : Request) → Has requests r → corrects r ≡ false

of_none : NoneCorrects []
of_none = record { none = λ r has. absurd has }

before : (r : Request) (rest : List Request) → corrects r ≡ false → NoneCorrects rest
    → NoneCorrects (r ∷ rest)
before r rest is h = record {
  none = λ x has. elim has [ inl same ↦ ap corrects same ∙ is | inr more ↦ h.none x more ];
}

both : (xs ys : List Request) → NoneCorrects xs → NoneCorrects ys → NoneCorrects (xs ++ ys)
both xs ys g h = record {
  none = λ r has. elim (has_append xs ys r has) [
    | inl left ↦ g.none r left
    | inr right ↦ h.none r right
  ];
}

of_each : {X : Type 0} (f : X → Request) → ((x : X) → corrects (f x) ≡ false) → (xs : List X)
    → NoneCorrects (map f xs)
of_each f is xs = record {
  none = λ r has. (let from = has_mapped f xs r has in ap corrects from.2 ∙ is from.0);
}

of_all : {X : Type 0} (f : X → List Request) → ((x : X) → NoneCorrects (f x)) → (xs : List X)
    → NoneCorrects (flat_map f xs)
of_all f is [] = of_none
of_all f is (x ∷ xs) = both (f x) (flat_map f xs) (is x) (of_all f is xs)

voids : (is : Bool) (r : Request) → corrects r ≡ false → NoneCorrects (void_if is r)
voids true r none = before r [] none of_none
voids false r none = of_none

-- ---- the journal

module _ (s : State) where
  abbrev right : State
  right = told_right s

  days_none : NoneCorrects (days_journal right)
  days_none =
      both _ _
      (both _ _ (of_each calendar_given (λ c. refl) (in_order is_calendar_before right.calendars))
      (of_each holiday_added (λ day. refl) (in_order nat_lt right.added_days)))
      (of_all (day_changes right) (λ day. of_none) (in_order nat_lt (all_days right)))

  run_none : (e : Entry (Voidable PayRun)) → NoneCorrects (run_posted e)
  run_none e =
      before (request.Post e.name e.key e.content.value) _ refl
      (voids e.content.voided (request.Void e.name e.key) refl)

  payment_none : (e : Entry (Voidable Payment)) → NoneCorrects (payment_made e)
  payment_none e =
      before (request.Pay e.name e.key e.content.value) _ refl
      (voids e.content.voided (request.VoidPay e.name e.key) refl)

  total_none : (period : ℕ → ReturnPeriod) (e : Entry Cents)
      → NoneCorrects (total_reported period [] e)
  total_none period e =
      before (request.Enter (entry.Total e.name (period e.key) e.content)) [] refl of_none

  account_none : (e : Enrolled) → NoneCorrects (account_journal right e)
  account_none e =
      both _ _
      (both _ _
      (both _ _
      (both _ _
      (both _ _ (before (request.Enter (entry.Account e.name e.account)) [] refl of_none)
      (of_all (total_reported Quarter []) (total_none Quarter) (own_by_key e.name right.reported)))
      (of_all (total_reported Year []) (total_none Year) (own_by_key e.name right.reported_years)))
      (of_each year_opened (λ x. refl) (filter (is_of e.name) right.open_years)))
      (of_all run_posted run_none (own_by_key e.name right.runs)))
      (of_all payment_made payment_none (own_by_key e.name right.payments))

  journal_none : NoneCorrects (journal right)
  journal_none =
      both _ _ days_none
      (of_all (account_journal right) account_none (in_order is_account_before right.accounts))

-- ---- questions over desks with the same entries

-- a question leaves the desk as it was
stays : (s next : State) (question : Question) (answer : Answer)
    → Step s (request.Question question) answer next → next ≡ s
stays s next question answer step =
    elim (either (first_of (question_checks s question)) s answer next
    ((next ≡ s) × Tells s question answer) step) [
      | inl check ↦ check.1
      | inr told ↦ told.1.0
    ]

alike : (s t : State) → IsSound s → IsSound t → SameEntries s t
    → (question : Question) (answer : Answer) → Step s (request.Question question) answer s
    → Step t (request.Question question) answer t
alike s t s_sound t_sound same question answer step =
    let there = same_entries_answer s t (request.Question question) answer s s_sound t_sound same
    step in
    subst (λ m. Step t (request.Question question) answer m)
    (stays t there.0 question answer there.1) there.1

pub reached_right : (s : State) → IsSound s
    → (requests : List Request) × (answers : List Answer) × (end : State)
    × IsRun nothing requests answers end
    × ((r : Request) → Has requests r → corrects r ≡ false)
    × ((question : Question) (answer : Answer) → asks_what_is_kept question ≡ false
    → Step s (request.Question question) answer s
    ↔ Step end (request.Question question) answer end)
reached_right s sound =
    let t = told_right s in
    let t_sound = right_is_sound s sound in
    let made = journal_makes t t_sound in
    let end = made.1 in
    let end_sound = reached_sound end (journal t, made.0, made.2) in (
      journal t,
      made.0,
      end,
      made.2,
      (journal_none s).none,
      λ question answer other.
          (let right = answers_right s question answer other in (
            (λ step. alike t end t_sound end_sound made.4 question answer (right.0 step)),
            (λ step. right.1
                (alike end t end_sound t_sound (same_back t end made.4) question answer step)),
          )),
    )
