-- Two states that agree on an account's entries answer the same to what names it.
use Rattle.std.proofs.Common.{◌≡◌, ◌∙◌, inl, inr, refl, sym, ap, subst, ℕ, ◌+◌, length, List}
use Rattle.std.proofs.Common.{[], ◌∷◌, ◌++◌, Option, None, Some, Ok}
use Rattle.std.specs.Option.{option_or}
use Rattle.ftd_days.specs.Calendar.{year_of, year_start, quarter_start}
use Rattle.ftd_rules.specs.declared.run.PayRun.{PayRun}
use Rattle.ftd_rules.specs.declared.run.Voidable.{Voidable}
use Rattle.ftd_machine.specs.State.{State, Entries, entries_of, kept_at, is_open, is_given}
use Rattle.ftd_machine.specs.State.{account_in_force, all_at, numbered, holidays}
use Rattle.ftd_machine.specs.History.{HasLookback, LacksFigure}
use Rattle.ftd_machine.specs.Checks.{Answer, first_of, Decides}
use Rattle.ftd_machine.specs.Requests.{enrol_checks, report_checks}
use Rattle.ftd_machine.specs.Requests.{open_year_checks, post_checks, void_checks, pay_checks}
use Rattle.ftd_machine.specs.Requests.{void_payment_checks, correct_total_checks}
use Rattle.ftd_machine.specs.Requests.{correct_account_checks}
use Rattle.ftd_machine.specs.Requests.{is_unused}
use Rattle.ftd_machine.specs.Posting.{IsPosted}
use Rattle.ftd_machine.specs.Step.{Step, OpensNext, may_open, taken, with_account, with_entry}
use Rattle.ftd_machine.specs.Step.{with_voided, with_move}
use Rattle.ftd_machine.specs.Laws.{Names, AgreeOn}
use Rattle.ftd_machine.specs.declared.replies.Reply.TheVariants.{Done}
use Rattle.ftd_machine.specs.declared.requests.Request.{Request}
use Rattle.ftd_machine.specs.declared.requests.Request.TheVariants.{Enter, Post, Void, Pay, VoidPay}
use Rattle.ftd_machine.specs.declared.requests.Request.TheVariants.{Correct, Question}
use Rattle.ftd_machine.specs.declared.requests.Entry.TheVariants as entry
use Rattle.ftd_machine.specs.declared.requests.Correction.TheVariants as correction
use Rattle.ftd_machine.specs.declared.entries.ReturnPeriod.TheVariants.{Quarter, Year}
use Rattle.ftd_machine.proofs.Adding.{account_own, entry_own, voided_own, moved_own}
use Rattle.ftd_machine.proofs.SameAnswers.{same_holidays, same_checks, same_told}

-- ---- the same change of both

-- the account that a request names, and what it changes of a state and of that account's entries
abbrev named_in : Request → List ℕ
named_in (Enter (entry.Account name account)) = name
named_in (Enter (entry.Total name period cents)) = name
named_in (Enter (entry.Year name year)) = name
named_in (Post name number run) = name
named_in (Void name number) = name
named_in (Pay name number payment) = name
named_in (VoidPay name number) = name
named_in (Correct number (correction.Total name period cents)) = name
named_in (Correct number (correction.Account name beginning)) = name
named_in request = []

abbrev next_of : Request → State → State
next_of (Enter (entry.Account name account)) s =
    record s { accounts = with_account s.accounts name account }
next_of (Enter (entry.Total name (Quarter quarter) cents)) s =
    record s { reported = with_entry s.reported name quarter cents }
next_of (Enter (entry.Total name (Year year) cents)) s =
    record s { reported_years = with_entry s.reported_years name year cents }
next_of (Enter (entry.Year name year)) s =
    record s { open_years = with_entry s.open_years name year tt }
next_of (Post name number run) s =
    record s { runs = with_entry s.runs name number (taken run) }
next_of (Void name number) s = record s { runs = with_voided s.runs name number }
next_of (Pay name number payment) s =
    record s { payments = with_entry s.payments name number (taken payment) }
next_of (VoidPay name number) s = record s { payments = with_voided s.payments name number }
next_of (Correct number (correction.Total name (Quarter quarter) cents)) s =
    record s { corrected = with_entry s.corrected name quarter cents }
next_of (Correct number (correction.Total name (Year year) cents)) s =
    record s { corrected_years = with_entry s.corrected_years name year cents }
next_of (Correct number (correction.Account name beginning)) s =
    record s { moved = with_move s.moved name beginning }
next_of request s = s

abbrev own_after : Request → Entries → Entries
own_after (Enter (entry.Account name account)) own =
    record own {
      enrolled = option_or own.enrolled (Some account);
      account = account_in_force (option_or own.enrolled (Some account)) own.moves;
    }
own_after (Enter (entry.Total name (Quarter quarter) cents)) own =
    record own { reported = with_entry own.reported name quarter cents }
own_after (Enter (entry.Total name (Year year) cents)) own =
    record own { reported_years = with_entry own.reported_years name year cents }
own_after (Enter (entry.Year name year)) own =
    record own { open_years = with_entry own.open_years name year tt }
own_after (Post name number run) own =
    record own { runs = with_entry own.runs name number (taken run) }
own_after (Void name number) own = record own { runs = with_voided own.runs name number }
own_after (Pay name number payment) own =
    record own { payments = with_entry own.payments name number (taken payment) }
own_after (VoidPay name number) own =
    record own { payments = with_voided own.payments name number }
own_after (Correct number (correction.Total name (Quarter quarter) cents)) own =
    record own { corrected = with_entry own.corrected name quarter cents }
own_after (Correct number (correction.Total name (Year year) cents)) own =
    record own { corrected_years = with_entry own.corrected_years name year cents }
own_after (Correct number (correction.Account name beginning)) own =
    let moves = own.moves ++ beginning ∷ [] in
    record own { moves = moves; account = account_in_force own.enrolled moves }
own_after request own = own

-- the entries of the account change so, and the holidays do not
own_next : (request : Request) (s : State) → entries_of (next_of request s) (named_in request)
    ≡ own_after request (entries_of s (named_in request))
own_next (Enter (entry.Account name account)) s = rw (account_own s.accounts name account) refl
own_next (Enter (entry.Total name (Quarter quarter) cents)) s =
    rw (entry_own s.reported name quarter cents) refl
own_next (Enter (entry.Total name (Year year) cents)) s =
    rw (entry_own s.reported_years name year cents) refl
own_next (Enter (entry.Year name year)) s = rw (entry_own s.open_years name year tt) refl
own_next (Post name number run) s = rw (entry_own s.runs name number _) refl
own_next (Void name number) s = rw (voided_own s.runs name number) refl
own_next (Pay name number payment) s = rw (entry_own s.payments name number _) refl
own_next (VoidPay name number) s = rw (voided_own s.payments name number) refl
own_next (Correct number (correction.Total name (Quarter quarter) cents)) s =
    rw (entry_own s.corrected name quarter cents) refl
own_next (Correct number (correction.Total name (Year year) cents)) s =
    rw (entry_own s.corrected_years name year cents) refl
own_next (Correct number (correction.Account name beginning)) s = rw (moved_own s.moved name _) refl
own_next request s = refl

rest_next : (request : Request) (s : State) → ((next_of request s).calendars ≡ s.calendars)
    × ((next_of request s).added_days ≡ s.added_days)
    × ((next_of request s).changed_days ≡ s.changed_days)
rest_next (Enter (entry.Total name (Quarter quarter) cents)) s = (refl, refl, refl)
rest_next (Correct number (correction.Total name (Quarter quarter) cents)) s = (refl, refl, refl)
rest_next request s = (refl, refl, refl)

agree_next : (s t : State) (request : Request) → AgreeOn (named_in request) s t
    → AgreeOn (named_in request) (next_of request s) (next_of request t)
agree_next s t request agree =
    let in_s = rest_next request s in
    let in_t = rest_next request t in
    record {
      own = own_next request t ∙ ap (own_after request) agree.own ∙ sym (own_next request s);
      calendars = in_t.0 ∙ agree.calendars ∙ sym in_s.0;
      added_days = in_t.1 ∙ agree.added_days ∙ sym in_s.1;
      changed_days = in_t.2 ∙ agree.changed_days ∙ sym in_s.2;
    }

-- ---- the same answer

posted_same : (h h' : List ℕ) (own own' then then' : Entries) (payday : ℕ) (answer : Answer)
    → h' ≡ h → own' ≡ own → then' ≡ then → IsPosted h own then payday answer
    → IsPosted h' own' then' payday answer
posted_same h h' own own' then then' payday answer a b c told = rw (a, b, c) told

module _ (name : List ℕ) (s t : State) (agree : AgreeOn name s t) (answer : Answer)
    (new : State) where
  -- the other state goes to one that agrees
  abbrev Follow : (State → Type 0) → Type 0
  Follow Goes = (then : State) × Goes then × AgreeOn name new then

  from : (here there : State) → new ≡ here → AgreeOn name here there → AgreeOn name new there
  from here there is same = subst (λ x. AgreeOn name x there) (sym is) same

  done_follows : (check check' : Option Answer) (after after' : State) → check' ≡ check
      → AgreeOn name after after'
      → Decides check s answer new ((answer ≡ Ok Done) × (new ≡ after))
      → Follow (λ then. Decides check' t answer then ((answer ≡ Ok Done) × (then ≡ after')))
  done_follows (Some given) check' after after' e same step =
      (t, rw e (step.0, refl), from s t step.1 agree)
  done_follows None check' after after' e same step =
      (after', rw e (step.0, refl), from after after' step.1 same)

  asked_follows : (check check' : Option Answer) (Told Told' : Type 0) → check' ≡ check
      → (Told → Told')
      → Decides check s answer new ((new ≡ s) × Told)
      → Follow (λ then. Decides check' t answer then ((then ≡ t) × Told'))
  asked_follows (Some given) check' Told Told' e same step =
      (t, rw e (step.0, refl), from s t step.1 agree)
  asked_follows None check' Told Told' e same step =
      (t, rw e (refl, same step.1), from s t step.0 agree)

  posts_follow : (after after' : State) (payday : ℕ) → AgreeOn name after after' → new ≡ after
      → IsPosted (holidays s) (entries_of s name) (entries_of new name) payday answer
      → IsPosted (holidays t) (entries_of t name) (entries_of after' name) payday answer
  posts_follow after after' payday same is told =
      posted_same (holidays s) (holidays t) (entries_of s name) (entries_of t name)
      (entries_of new name) (entries_of after' name) payday answer
      (same_holidays name s t agree) agree.own (same.own ∙ sym (ap (λ x. entries_of x name) is))
      told

  post_follows : (check check' : Option Answer) (after after' : State) (payday : ℕ) → check' ≡ check
      → AgreeOn name after after'
      → Decides check s answer new ((new ≡ after) × IsPosted (holidays s) (entries_of s name)
      (entries_of new name) payday answer)
      → Follow (λ then. Decides check' t answer then ((then ≡ after') × IsPosted (holidays t)
      (entries_of t name) (entries_of then name) payday answer))
  post_follows (Some given) check' after after' payday e same step =
      (t, rw e (step.0, refl), from s t step.1 agree)
  post_follows None check' after after' payday e same step = (
    after',
    rw e (refl, posts_follow after after' payday same step.0 step.1),
    from after after' step.0 same,
  )

  void_follows : (check check' : Option Answer) (after after' : State)
      (known known' : Option (Voidable PayRun))
      → check' ≡ check → AgreeOn name after after' → known' ≡ known
      → Decides check s answer new ((run : Voidable PayRun) × (known ≡ Some run) × (new ≡ after)
      × IsPosted (holidays s) (entries_of s name) (entries_of new name) run.value.payday answer)
      → Follow (λ then. Decides check' t answer then ((run : Voidable PayRun) × (known' ≡ Some run)
      × (then ≡ after')
      × IsPosted (holidays t) (entries_of t name) (entries_of then name) run.value.payday answer))
  void_follows (Some given) check' after after' known known' e same k step =
      (t, rw e (step.0, refl), from s t step.1 agree)
  void_follows None check' after after' known known' e same k step = (
    after',
    rw e (
      step.0,
      k ∙ step.1,
      refl,
      posts_follow after after' step.0.value.payday same
          step.2 step.3,
    ),
    from after after' step.2 same,
  )

  next_follows : (year : ℕ) → OpensNext s answer new name year
      → Follow (λ then. OpensNext t answer then name year)
  next_follows year (inl missing) = (
    t,
    inl (
      missing.0,
      subst (λ own. LacksFigure own year missing.0) (sym agree.own) missing.1,
      (missing.2.0, refl),
    ),
    from s t missing.2.1 agree,
  )
  next_follows year (inr found) =
      let next = done_follows (first_of (may_open (entries_of s name) year))
      (first_of (may_open (entries_of t name) year)) _ _
      (ap (λ own. first_of (may_open own year)) agree.own) (agree_next s t (Enter (entry.Year name
      year))
      agree)
      found.2 in (
        next.0,
        inr (
          found.0,
          subst (λ own. HasLookback own year found.0) (sym agree.own) found.1,
          next.1,
        ),
        next.2,
      )

  open_follows : (check check' : Option Answer) (year : ℕ) → check' ≡ check
      → Decides check s answer new (OpensNext s answer new name year)
      → Follow (λ then. Decides check' t answer then (OpensNext t answer then name year))
  open_follows (Some given) check' year e step = (t, rw e (step.0, refl), from s t step.1 agree)
  open_follows None check' year e step = let next = next_follows year step in
      (next.0, rw e next.1, next.2)

is_given_same : (name : List ℕ) (s t : State) (year : ℕ) → AgreeOn name s t
    → is_given t year ≡ is_given s year
is_given_same name s t year agree = rw (agree.calendars) refl

-- ---- requests

-- what follows for the account that is named follows for its name
at_name : (own name : List ℕ) (s t new : State) (Goes : State → Type 0) → own ≡ name
    → AgreeOn name s t
    → (AgreeOn own s t → (then : State) × Goes then × AgreeOn own new then)
    → (then : State) × Goes then × AgreeOn name new then
at_name own name s t new Goes named agree follow =
    subst (λ x. (then : State) × Goes then × AgreeOn x new then) named
    (follow (subst (λ x. AgreeOn x s t) (sym named) agree))

-- what the checks of a request that names an account see is the same
pub follows : (s t : State) (request : Request) (answer : Answer) (new : State) (name : List ℕ)
    → Names request name → AgreeOn name s t → Step s request answer new
    → (then : State) × Step t request answer then × AgreeOn name new then
follows s t (Enter (entry.Account own account)) answer new name named agree step =
    let request = Enter (entry.Account own account) in
    at_name own name s t new _ named agree (λ agrees. done_follows own s t agrees answer new _ _ _ _
    (ap (λ (e : Entries). first_of (enrol_checks own account e.enrolled)) agrees.own)
    (agree_next s t request agrees) step)
follows s t (Enter (entry.Calendar year days)) answer new name named agree step = absurd named
follows s t (Enter (entry.Holiday day)) answer new name named agree step = absurd named
follows s t (Enter (entry.Total own (Quarter quarter) cents)) answer new name named agree step =
    let request = Enter (entry.Total own (Quarter quarter) cents) in
    at_name own name s t new _ named agree (λ agrees. done_follows own s t agrees answer new _ _ _ _
    (ap (λ (e : Entries). first_of (report_checks own (Quarter quarter) cents e.account
    (kept_at quarter e.reported))) agrees.own) (agree_next s t request agrees) step)
follows s t (Enter (entry.Total own (Year year) cents)) answer new name named agree step =
    let request = Enter (entry.Total own (Year year) cents) in
    at_name own name s t new _ named agree (λ agrees. done_follows own s t agrees answer new _ _ _ _
    (ap (λ (e : Entries). first_of (report_checks own (Year year) cents e.account
    (kept_at year e.reported_years))) agrees.own) (agree_next s t request agrees) step)
follows s t (Enter (entry.Year own year)) answer new name named agree step =
    at_name own name s t new _ named agree (λ agrees. open_follows own s t agrees answer new _ _
    year (ap (λ (e : Entries). first_of (open_year_checks own year e.account (is_open e year)
    (is_given t year) (is_given t (year + 1)))) agrees.own
    ∙ rw (is_given_same own s t year agrees, is_given_same own s t (year + 1) agrees) refl) step)
follows s t (Post own number run) answer new name named agree step =
    let request = Post own number run in
    at_name own name s t new _ named agree (λ agrees. post_follows own s t agrees answer new _ _ _ _
    run.payday (ap (λ (e : Entries). first_of (post_checks own number run e.account
    (kept_at number e.runs) (is_open e (year_of run.payday)) (length e.runs))) agrees.own)
    (agree_next s t request agrees) step)
follows s t (Void own number) answer new name named agree step =
    at_name own name s t new _ named agree (λ agrees. void_follows own s t agrees answer new
    _ _ _ _ _ _
    (ap (λ (e : Entries). first_of (void_checks own number e.account (kept_at number e.runs)))
    agrees.own)
    (agree_next s t (Void own number) agrees)
    (ap (λ (e : Entries). kept_at number e.runs) agrees.own) step)
follows s t (Pay own number payment) answer new name named agree step =
    let request = Pay own number payment in
    at_name own name s t new _ named agree (λ agrees. done_follows own s t agrees answer new _ _ _ _
    (ap (λ (e : Entries). first_of (pay_checks own number payment e.account
    (kept_at number e.payments) (is_open e (year_of payment.for_day)) (length e.payments)))
    agrees.own)
    (agree_next s t request agrees) step)
follows s t (VoidPay own number) answer new name named agree step =
    at_name own name s t new _ named agree (λ agrees. done_follows own s t agrees answer new _ _ _ _
    (ap (λ (e : Entries). first_of (void_payment_checks own number e.account
    (kept_at number e.payments))) agrees.own) (agree_next s t (VoidPay own number) agrees) step)
follows s t (Correct number (correction.Total own (Quarter quarter) cents)) answer new name named
    agree
    step =
    let request = Correct number (correction.Total own (Quarter quarter) cents) in
    at_name own name s t new _ named agree (λ agrees. post_follows own s t agrees answer new _ _ _ _
    (quarter_start quarter) (ap (λ (e : Entries). let known = all_at quarter e.corrected in
    first_of (correct_total_checks own (Quarter quarter) number cents e.account
    (kept_at quarter e.reported) (numbered number known) (length known))) agrees.own)
    (agree_next s t request agrees) step)
follows s t (Correct number (correction.Total own (Year year) cents)) answer new name named agree
    step =
    let request = Correct number (correction.Total own (Year year) cents) in
    at_name own name s t new _ named agree (λ agrees. post_follows own s t agrees answer new _ _ _ _
    (year_start year) (ap (λ (e : Entries). let known = all_at year e.corrected_years in
    first_of (correct_total_checks own (Year year) number cents e.account
    (kept_at year e.reported_years) (numbered number known) (length known))) agrees.own)
    (agree_next s t request agrees) step)
follows s t (Correct number (correction.Holiday day is_holiday)) answer new name named agree step =
    absurd named
follows s t (Correct number (correction.Account own beginning)) answer new name named agree step =
    let request = Correct number (correction.Account own beginning) in
    at_name own name s t new _ named agree (λ agrees. done_follows own s t agrees answer new _ _ _ _
    (ap (λ (e : Entries). first_of (correct_account_checks own number
    beginning e.account (numbered number e.moves) (is_unused e) (length e.moves))) agrees.own)
    (agree_next s t request agrees) step)
follows s t (Question question) answer new name named agree step =
    asked_follows name s t agree answer new _ _ _ _ (same_checks s t question name named agree)
    (same_told s t question name named agree answer) step
