-- In any list a request that was done is answered Already from then on, or by a fault.
use Rattle.std.proofs.Common.{◌≡◌, ◌∙◌, inl, inr, refl, sym, ap, subst, ℕ, ◌+◌, ◌==◌, ◌||◌, Bool}
use Rattle.std.proofs.Common.{true, false, List, [], ◌∷◌, ◌++◌, length, filter, Option, None, Some}
use Rattle.std.proofs.Common.{Ok, arith, length-append}
use Rattle.std.specs.Prelude.{is_some, unwrap_or}
use Rattle.std.specs.List.{list_any}
use Rattle.std.proofs.lemmas.Bool.{true≢false, or_left, or_right}
use Rattle.std.proofs.lemmas.List.Folds.{list_any-append}
use Rattle.std.proofs.lemmas.List.Elements.{filter-append}
use Rattle.ftd_days.specs.Calendar.{year_of}
use Rattle.ftd_days.specs.Business.{is_holiday}
use Rattle.ftd_days.specs.Holidays.{YearDays}
use Rattle.ftd_rules.specs.declared.Form.TheVariants.{F941, F943}
use Rattle.ftd_machine.specs.declared.entries.Account.{Account}
use Rattle.ftd_machine.specs.declared.entries.Beginning.{Beginning}
use Rattle.ftd_rules.specs.declared.run.PayRun.{PayRun}
use Rattle.ftd_rules.specs.declared.run.Voidable.{Voidable}
use Rattle.ftd_machine.specs.State.{State, entries_of, is_named, account_of, kept_at, is_open}
use Rattle.ftd_machine.specs.State.{is_given, calendar_at, days_of, added_in, all_at, numbered}
use Rattle.ftd_machine.specs.State.{DayChange, changes_of, enrolled_in, moves_in}
use Rattle.ftd_machine.specs.State.{account_in_force, in_force}
use Rattle.ftd_machine.specs.History.{form_of}
use Rattle.ftd_machine.specs.Checks.{Answer, first_of, Decides}
use Rattle.ftd_machine.specs.Requests.{days_of_year, enrol_checks, calendar_checks}
use Rattle.ftd_machine.specs.Requests.{add_holiday_checks, report_checks}
use Rattle.ftd_machine.specs.Requests.{open_year_checks, post_checks, void_checks, pay_checks}
use Rattle.ftd_machine.specs.Requests.{void_payment_checks, correct_total_checks}
use Rattle.ftd_machine.specs.Requests.{change_holiday_checks}
use Rattle.ftd_machine.specs.Requests.{correct_account_checks, is_unused}
use Rattle.ftd_machine.specs.Requests.{same_amount, same_run, same_payment, same_flag}
use Rattle.ftd_machine.specs.Questions.{question_checks}
use Rattle.ftd_machine.specs.Step.{Step, OpensNext, may_open, taken, with_account, with_entry}
use Rattle.ftd_machine.specs.Step.{with_voided, with_move}
use Rattle.ftd_machine.specs.Runs.{Goes, IsRun}
use Rattle.ftd_machine.specs.Laws.{is_change, IsRepeat}
use Rattle.ftd_machine.specs.declared.replies.Reply.TheVariants.{Done, Already}
use Rattle.ftd_machine.specs.declared.replies.Refusal.TheVariants.{CorrectionDiffers}
use Rattle.ftd_machine.specs.declared.replies.Refusal.TheVariants.{UnknownPayment}
use Rattle.ftd_machine.specs.declared.requests.Request.{Request}
use Rattle.ftd_machine.specs.declared.requests.Request.TheVariants.{Enter, Post, Void, Pay, VoidPay}
use Rattle.ftd_machine.specs.declared.requests.Request.TheVariants.{Correct, Question}
use Rattle.ftd_machine.specs.declared.requests.Entry.TheVariants as entry
use Rattle.ftd_machine.specs.declared.requests.Correction.TheVariants as correction
use Rattle.ftd_machine.specs.declared.entries.ReturnPeriod.TheVariants.{Quarter, Year}
use Rattle.ftd_machine.proofs.Deciding.{either}
use Rattle.ftd_machine.proofs.Leaving.{asked_leaves}
use Rattle.ftd_machine.proofs.Adding.{own_name, moved_own, was_enrolled}
use Rattle.ftd_machine.proofs.Members.{some_of}
use Rattle.ftd_machine.proofs.Numbers.{KeepsNumbers, keeps_numbers, numbered_append, all_own}
use Rattle.ftd_machine.proofs.Numbers.{changes_append, changes_own, moves_append}
use Rattle.ftd_machine.proofs.Heads.{refuses_none, refuses_needs}
use Rattle.ftd_machine.proofs.Heads.{done_before, Quiet, quiet_refusal, Turns, Firm}
use Rattle.ftd_machine.proofs.Heads.{Stays, stays_new}
use Rattle.ftd_machine.proofs.Questions.{question_quiet, question_firm, told_is}
use Rattle.ftd_machine.proofs.Keeping.{found_append, found_last, is_year, same_key, kept_own}
use Rattle.ftd_machine.proofs.Keeping.{kept_some, Keeps, keeps_entry, KeepsVoidable, keeps_same}
use Rattle.ftd_machine.proofs.Keeping.{keeps_more, keeps_voided, voided_kept}
use Rattle.ftd_machine.proofs.Again.{StillThere, turning, staying, on_still, same_still}
use Rattle.ftd_machine.proofs.Again.{voided_still, voided_after, void_turns, turns_next}
use Rattle.ftd_machine.proofs.Again.{account_same, amount_same, run_same, payment_same, flag_same}
use Rattle.ftd_machine.proofs.Again.{correct_account_turns}
use Rattle.ftd_machine.proofs.InYear.{more_last}

-- the checks of a request in a state
abbrev pub checks_of : State → Request → List (Option Answer)
checks_of s (Enter (entry.Account name account)) =
    enrol_checks name account (entries_of s name).enrolled
checks_of s (Enter (entry.Calendar year days)) = calendar_checks year days (calendar_at s year)
checks_of s (Enter (entry.Holiday day)) = add_holiday_checks day (calendar_at s (year_of day))
    (added_in s (year_of day))
checks_of s (Enter (entry.Total name (Quarter quarter) cents)) =
    report_checks name (Quarter quarter) cents (entries_of s name).account
    (kept_at quarter (entries_of s name).reported)
checks_of s (Enter (entry.Total name (Year year) cents)) =
    report_checks name (Year year) cents (entries_of s name).account
    (kept_at year (entries_of s name).reported_years)
checks_of s (Enter (entry.Year name year)) = open_year_checks name year (entries_of s name).account
    (is_open (entries_of s name) year) (is_given s year) (is_given s (year + 1))
checks_of s (Post name number run) =
    post_checks name number run
    (entries_of s name).account (kept_at number (entries_of s name).runs)
    (is_open (entries_of s name) (year_of run.payday)) (length (entries_of s name).runs)
checks_of s (Void name number) = void_checks name number (entries_of s name).account
    (kept_at number (entries_of s name).runs)
checks_of s (Pay name number payment) =
    pay_checks name number payment
    (entries_of s name).account (kept_at number (entries_of s name).payments)
    (is_open (entries_of s name) (year_of payment.for_day)) (length (entries_of s name).payments)
checks_of s (VoidPay name number) = void_payment_checks name number (entries_of s name).account
    (kept_at number (entries_of s name).payments)
checks_of s (Correct number (correction.Total name (Quarter quarter) cents)) =
    let known = all_at quarter (entries_of s name).corrected in
    correct_total_checks name (Quarter quarter) number cents (entries_of s name).account
    (kept_at quarter (entries_of s name).reported) (numbered number known) (length known)
checks_of s (Correct number (correction.Total name (Year year) cents)) =
    let known = all_at year (entries_of s name).corrected_years in
    correct_total_checks name (Year year) number cents (entries_of s name).account
    (kept_at year (entries_of s name).reported_years) (numbered number known) (length known)
checks_of s (Correct number (correction.Holiday day is_holiday)) =
    let known = changes_of day s.changed_days in
    change_holiday_checks day number is_holiday (calendar_at s (year_of day))
    (added_in s (year_of day)) (numbered number known) (length known)
checks_of s (Correct number (correction.Account name beginning)) =
    correct_account_checks name number beginning
    (entries_of s name).account
    (numbered number (entries_of s name).moves) (is_unused (entries_of s name))
    (length (entries_of s name).moves)
checks_of s (Question question) = question_checks s question

-- they answer that it was done before
pub record WasDone (s : State) (request : Request) : Type 0 where
  pub told : first_of (checks_of s request) ≡ done_before

-- ---- holidays that stay

abbrev is : ℕ → ℕ → Bool
is day holiday = holiday == day

holiday_more : (o : Option (List ℕ)) (added more : List ℕ) (day : ℕ)
    → is_holiday (days_of_year o added) day ≡ true → is_holiday (days_of_year o (added ++ more)) day
    ≡ true
holiday_more None added more day e = list_any-append (is day) added more ∙ or_left _ _ e
holiday_more (Some given) added more day e =
    list_any-append (is day) given (added ++ more) ∙ ap (λ b. list_any (is day) given || b)
    (list_any-append (is day) added more)
    ∙ more_last (list_any (is day) given) (list_any (is day) added) (list_any (is day) more)
    (sym (list_any-append (is day) given added) ∙ e)

holiday_last : (o : Option (List ℕ)) (added : List ℕ) (day : ℕ)
    → is_holiday (days_of_year o (added ++ day ∷ [])) day ≡ true
holiday_last None added day = list_any-append (is day) added (day ∷ [])
    ∙ or_right _ _ (or_left _ _ (same_key day))
holiday_last (Some given) added day =
    list_any-append (is day) given (added ++ day ∷ [])
    ∙ or_right _ _ (list_any-append (is day) added (day ∷ [])
    ∙ or_right _ _ (or_left _ _ (same_key day)))

holiday_given : (o p : Option (List ℕ)) (added : List ℕ) (day : ℕ)
    → ((x : List ℕ) → o ≡ Some x → p ≡ Some x)
    → is_holiday (days_of_year o added) day ≡ true → is_holiday (days_of_year p added) day ≡ true
holiday_given (Some given) p added day still e = rw (still given refl) e
holiday_given None None added day still e = e
holiday_given None (Some given) added day still e = list_any-append (is day) given added
    ∙ or_right _ _ e

-- ---- what is kept stays

pub record Extends (s t : State) : Type 0 where
  pub enrolled : (name : List ℕ) (account : Account) → enrolled_in s name ≡ Some account
      → enrolled_in t name ≡ Some account
  pub accounts : (name : List ℕ) → StillThere (entries_of s name).account
      (entries_of t name).account
  pub calendars : (year : ℕ) (days : List ℕ) → calendar_at s year ≡ Some days
      → calendar_at t year ≡ Some days
  pub holidays : (day : ℕ)
      → is_holiday (days_of_year (calendar_at s (year_of day)) (added_in s (year_of day))) day
      ≡ true
      → is_holiday (days_of_year (calendar_at t (year_of day)) (added_in t (year_of day))) day
      ≡ true
  pub reported : Keeps s.reported t.reported
  pub reported_years : Keeps s.reported_years t.reported_years
  pub open_years : Keeps s.open_years t.open_years
  pub runs : KeepsVoidable s.runs t.runs
  pub payments : KeepsVoidable s.payments t.payments
  pub corrected : KeepsNumbers s.corrected t.corrected
  pub corrected_years : KeepsNumbers s.corrected_years t.corrected_years
  pub changes : (day number : ℕ) (one : Bool)
      → numbered number (changes_of day s.changed_days) ≡ Some one
      → numbered number (changes_of day t.changed_days) ≡ Some one
  pub moves : (name : List ℕ) (number : ℕ) (beginning : Beginning)
      → numbered number (moves_in s name) ≡ Some beginning
      → numbered number (moves_in t name) ≡ Some beginning

extends_same : (s : State) → Extends s s
extends_same s = record {
  enrolled = λ name account there. there;
  accounts = λ name a is. (a, is, refl);
  calendars = λ year days there. there;
  holidays = λ day there. there;
  reported = λ name key content there. there;
  reported_years = λ name key content there. there;
  open_years = λ name key content there. there;
  runs = keeps_same s.runs;
  payments = keeps_same s.payments;
  corrected = λ name key number content there. there;
  corrected_years = λ name key number content there. there;
  changes = λ day number one there. there;
  moves = λ name number account there. there;
}

extends_account : (s : State) (name : List ℕ) (account : Account)
    → Extends s (record s { accounts = with_account s.accounts name account })
extends_account s name account =
    let after : State = record s { accounts = with_account s.accounts name account } in
    let enrolled : (other : List ℕ) (a : Account) → enrolled_in s other ≡ Some a
    → enrolled_in after other ≡ Some a =
    λ other a there. found_append account_of (is_named other) s.accounts _ a there in
    let accounts : (other : List ℕ) → StillThere (entries_of s other).account
    (entries_of after other).account =
    λ other a is.
    let was = some_of (enrolled_in s other)
    (was_enrolled (enrolled_in s other) (moves_in s other) (ap is_some is)) in (
      a,
      ap (λ o. account_in_force o (moves_in s other))
          (found_append account_of (is_named other) s.accounts _ was.0 was.1 ∙ sym was.1) ∙ is,
      refl,
    ) in
    assumption (extends_same s)

pub calendar_still : (s : State) (year : ℕ) (days : List ℕ) (other : ℕ) (x : List ℕ)
    → calendar_at s other ≡ Some x
    → calendar_at (record s { calendars = s.calendars ++ record { year = year; days = days } ∷ [] })
    other ≡ Some x
calendar_still s year days other x there = found_append days_of (is_year other) s.calendars _ x
    there

extends_calendar : (s : State) (year : ℕ) (days : List ℕ)
    → Extends s (record s { calendars = s.calendars ++ record { year = year; days = days } ∷ [] })
extends_calendar s year days =
    let after : State =
    record s { calendars = s.calendars ++ record { year = year; days = days } ∷ [] } in
    let calendars : (other : ℕ) (x : List ℕ) → calendar_at s other ≡ Some x
    → calendar_at after other ≡ Some x = calendar_still s year days in
    let holidays : (day : ℕ)
    → is_holiday (days_of_year (calendar_at s (year_of day)) (added_in s (year_of day))) day ≡ true
    → is_holiday (days_of_year (calendar_at after (year_of day)) (added_in s (year_of day))) day
    ≡ true =
    λ day there. holiday_given _ _ (added_in s (year_of day)) day
    (calendar_still s year days (year_of day)) there in
    assumption (extends_same s)

extends_added : (s : State) (more : ℕ)
    → Extends s (record s { added_days = s.added_days ++ more ∷ [] })
extends_added s more =
    let after : State = record s { added_days = s.added_days ++ more ∷ [] } in
    let holidays : (day : ℕ)
    → is_holiday (days_of_year (calendar_at s (year_of day)) (added_in s (year_of day))) day ≡ true
    → is_holiday (days_of_year (calendar_at s (year_of day)) (added_in after (year_of day))) day
    ≡ true =
    λ day there.
    let year = year_of day in
    let added : added_in after year
    ≡ added_in s year ++ added_in (record s { added_days = more ∷ [] }) year =
    filter-append (λ d. year_of d == year) s.added_days (more ∷ []) in
    rw added (holiday_more (calendar_at s year) (added_in s year) _ day there) in
    assumption (extends_same s)

extends_changed : (s : State) (change : DayChange)
    → Extends s (record s { changed_days = s.changed_days ++ change ∷ [] })
extends_changed s change =
    let changes : (day number : ℕ) (one : Bool)
    → numbered number (changes_of day s.changed_days) ≡ Some one
    → numbered number (changes_of day (s.changed_days ++ change ∷ [])) ≡ Some one =
    λ day number one there.
    ap (numbered number) (changes_append day s.changed_days (change ∷ []))
    ∙ numbered_append number (changes_of day s.changed_days) _ one there in
    assumption (extends_same s)

-- an account that is put right stays, on its form
moved_there : (enrolled : Option Account) (moves more : List Beginning)
    → StillThere (account_in_force enrolled moves) (account_in_force enrolled more)
moved_there None moves more a is = absurd cc
moved_there (Some first) moves more a is =
    (in_force more first, refl, ap (λ o. form_of o) is)

extends_moved : (s : State) (name : List ℕ) (beginning : Beginning)
    → Extends s (record s { moved = with_move s.moved name beginning })
extends_moved s name beginning =
    let after : State = record s { moved = with_move s.moved name beginning } in
    let accounts : (other : List ℕ) → StillThere (entries_of s other).account
    (entries_of after other).account =
    λ other. moved_there (enrolled_in s other) (moves_in s other) (moves_in after other) in
    let moves : (other : List ℕ) (number : ℕ) (one : Beginning)
    → numbered number (moves_in s other) ≡ Some one
    → numbered number (moves_in after other) ≡ Some one =
    λ other number one there.
    ap (numbered number) (moves_append other s.moved _)
    ∙ numbered_append number (moves_in s other) _ one there in
    assumption (extends_same s)

pub some_still : {X : Type 0} (o p : Option X) → ((x : X) → o ≡ Some x → p ≡ Some x)
    → is_some o ≡ true → is_some p ≡ true
some_still (Some x) p still e = rw (still x refl) refl
some_still None p still e = absurd cc

through : (s t : State) (request : Request) → Stays (checks_of s request) (checks_of t request)
    → WasDone s request → WasDone t request
through s t request stays was = record { told = stays.still was.told }

never : (s t : State) (request : Request) → Firm (checks_of s request) → WasDone s request
    → WasDone t request
never s t request firm was = absurd (firm.never was.told)

-- so what was done before stays so
pub still_done : (s t : State) (request : Request) → Extends s t → WasDone s request
    → WasDone t request
still_done s t (Enter (entry.Account name account)) more =
    through s t _ (search (staying, more.enrolled name) depth 12)
still_done s t (Enter (entry.Calendar year days)) more =
    through s t _ (search (staying, more.calendars year) depth 12)
still_done s t (Enter (entry.Holiday day)) more =
    through s t _ (search (staying, more.holidays day) depth 12)
still_done s t (Enter (entry.Total name (Quarter quarter) cents)) more =
    let form = on_still F941 _ _ (more.accounts name) in
    through s t _ (search (staying, more.accounts, more.reported) depth 12)
still_done s t (Enter (entry.Total name (Year year) cents)) more =
    let form = on_still F943 _ _ (more.accounts name) in
    through s t _ (search (staying, more.accounts, more.reported_years) depth 12)
still_done s t (Enter (entry.Year name year)) more =
    let there = some_still (kept_at year (entries_of s name).open_years)
    (kept_at year (entries_of t name).open_years) (more.open_years name year) in
    through s t _ (search (staying, more.accounts) depth 12)
still_done s t (Post name number run) more =
    let still = same_still _ _ (λ x. same_run run (taken x)) (more.runs name number) in
    through s t _ (search (staying, stays_new, more.accounts) depth 12)
still_done s t (Void name number) more =
    let still = voided_still _ _ (more.runs name number) in
    through s t _ (search (staying, more.accounts) depth 12)
still_done s t (Pay name number payment) more =
    let still = same_still _ _ (λ x. same_payment payment (taken x)) (more.payments name number) in
    through s t _ (search (staying, stays_new, more.accounts) depth 12)
still_done s t (VoidPay name number) more =
    let still = voided_still _ _ (more.payments name number) in
    through s t _ (search (staying, more.accounts) depth 12)
still_done s t (Correct number (correction.Total name (Quarter quarter) cents)) more =
    let form = on_still F941 _ _ (more.accounts name) in
    through s t _ (search (staying, more.accounts, more.reported, more.corrected) depth 12)
still_done s t (Correct number (correction.Total name (Year year) cents)) more =
    let form = on_still F943 _ _ (more.accounts name) in
    through s t _
    (search (staying, more.accounts, more.reported_years, more.corrected_years) depth 12)
still_done s t (Correct number (correction.Holiday day is_holiday)) more =
    through s t _ (search (staying, more.calendars, more.holidays, more.changes) depth 12)
still_done s t (Correct number (correction.Account name beginning)) more =
    through s t _ (search (staying, more.accounts, more.moves) depth 12)
still_done s t (Question question) more = never s t (Question question) (question_firm s question)

-- ---- a step

-- what was done with a change: the checks passed, and what stands last holds; and then it was done
-- before
pub does : (s : State) (answer : Answer) (new : State) (P P' : List (Option Answer)) (Else : Type 0)
    → Turns P P'
    → Decides (first_of P) s answer new Else → is_change answer ≡ true
    → Else × (first_of P' ≡ done_before)
does s answer new P P' Else turns step changes =
    elim (either (first_of P) s answer new Else step) [
      | inl same ↦ absurd (true≢false (sym changes ∙ rw same.0 at turns.no_change))
      | inr passed ↦ (passed.1, turns.done passed.0)
    ]

done_after : (s : State) (answer : Answer) (new after : State) (request : Request)
    → Turns (checks_of s request) (checks_of after request)
    → Decides (first_of (checks_of s request)) s answer new ((answer ≡ Ok Done) × (new ≡ after))
    → is_change answer ≡ true → WasDone new request
done_after s answer new after request turns step changes =
    let done = does s answer new _ (checks_of after request) _ turns step changes in
    subst (λ x. WasDone x request) (sym done.0.1) (record { told = done.1 })

post_after : (s : State) (answer : Answer) (new after : State) (request : Request)
    (Told : Type 0) → Turns (checks_of s request) (checks_of after request)
    → Decides (first_of (checks_of s request)) s answer new ((new ≡ after) × Told)
    → is_change answer ≡ true → WasDone new request
post_after s answer new after request Told turns step changes =
    let done = does s answer new _ (checks_of after request) _ turns step changes in
    subst (λ x. WasDone x request) (sym done.0.0) (record { told = done.1 })

void_after : (s : State) (answer : Answer) (new after : State) (request : Request)
    (P : List (Option Answer)) (known : Option (Voidable PayRun))
    (Told : Voidable PayRun → Type 0) → Turns P (checks_of after request)
    → Decides (first_of P) s answer new ((run : Voidable PayRun) × (known ≡ Some run)
    × (new ≡ after) × Told run) → is_change answer ≡ true → WasDone new request
void_after s answer new after request P known Told turns step changes =
    let done = does s answer new P (checks_of after request) _ turns step changes in
    subst (λ x. WasDone x request) (sym done.0.2) (record { told = done.1 })

-- a question is answered with no change
no_question : (s : State) (answer : Answer) (new : State) (P : List (Option Answer)) (Told : Type 0)
    → Quiet P
    → (Told → is_change answer ≡ false) → Decides (first_of P) s answer new ((new ≡ s) × Told)
    → is_change answer ≡ true → ⊥
no_question s answer new P Told quiet asks step changes =
    elim (either (first_of P) s answer new _ step) [
      | inl same ↦ true≢false (sym changes ∙ rw same.0 at quiet.told)
      | inr told ↦ true≢false (sym changes ∙ asks told.1.1)
    ]

next_after : (s : State) (answer : Answer) (new : State) (name : List ℕ) (year : ℕ)
    → OpensNext s answer new name year → is_change answer ≡ true
    → new ≡ record s { open_years = with_entry s.open_years name year tt }
next_after s answer new name year (inl missing) changes =
    absurd (true≢false (sym changes ∙ ap is_change missing.2.0))
next_after s answer new name year (inr found) changes =
    let quiet : Quiet (may_open (entries_of s name) year) =
    quiet_refusal _ (refuses_needs _ _ [] refuses_none) in
    elim (either (first_of (may_open (entries_of s name) year)) s answer new _ found.2) [
      | inl same ↦ absurd (true≢false (sym changes ∙ rw same.0 at quiet.told))
      | inr done ↦ done.1.1
    ]

open_after : (s : State) (answer : Answer) (new : State) (name : List ℕ) (year : ℕ)
    → Decides (first_of (checks_of s (Enter (entry.Year name year)))) s answer new
    (OpensNext s answer new name year) → is_change answer ≡ true
    → WasDone new (Enter (entry.Year name year))
open_after s answer new name year step changes =
    let after : State = record s { open_years = with_entry s.open_years name year tt } in
    let turns : Turns (checks_of s (Enter (entry.Year name year)))
    (checks_of after (Enter (entry.Year name year))) =
    search (turning, kept_some s.open_years name year tt) depth 12 in
    let done = does s answer new (checks_of s (Enter (entry.Year name year)))
    (checks_of after (Enter (entry.Year name year))) _ turns step changes in
    subst (λ x. WasDone x (Enter (entry.Year name year)))
    (sym (next_after s answer new name year done.0 changes)) (record { told = done.1 })

added_last : (s : State) (day : ℕ)
    → is_holiday (days_of_year (calendar_at s (year_of day))
    (added_in (record s { added_days = s.added_days ++ day ∷ [] }) (year_of day))) day ≡ true
added_last s day =
    let year = year_of day in
    let one : filter (λ d. year_of d == year) (day ∷ []) ≡ day ∷ [] =
    rw (same_key (year_of day)) refl in
    let added : added_in (record s { added_days = s.added_days ++ day ∷ [] }) year ≡ added_in s year
    ++ day ∷ [] =
    filter-append (λ d. year_of d == year) s.added_days (day ∷ [])
    ∙ ap (λ xs. added_in s year ++ xs) one in
    rw added (holiday_last (calendar_at s year) (added_in s year) day)

-- what a step has changed is done from then on
pub step_done : (s : State) (request : Request) (answer : Answer) (next : State)
    → Step s request answer next → is_change answer ≡ true → WasDone next request
step_done s (Enter (entry.Account name account)) answer next step changes =
    let there = found_last account_of (is_named name) s.accounts
    (record { name = name; account = account }) (own_name name) in
    done_after s answer next (record s { accounts = with_account s.accounts name account }) _
    (search (turning, account_same account) depth 12) step changes
step_done s (Enter (entry.Calendar year days)) answer next step changes =
    let given : YearDays = record { year = year; days = days } in
    done_after s answer next (record s { calendars = s.calendars ++ given ∷ [] }) _
    (search (
      turning,
      found_last days_of (is_year year) s.calendars given (same_key year),
      own_name days,
    ) depth 12) step changes
step_done s (Enter (entry.Holiday day)) answer next step changes =
    done_after s answer next (record s { added_days = s.added_days ++ day ∷ [] }) _
    (search (turning, added_last s day) depth 12) step changes
step_done s (Enter (entry.Total name (Quarter quarter) cents)) answer next step changes =
    done_after s answer next (record s { reported = with_entry s.reported name quarter cents }) _
    (search (turning, kept_own s.reported name quarter cents, amount_same cents) depth 12) step
    changes
step_done s (Enter (entry.Total name (Year year) cents)) answer next step changes =
    done_after s answer next
    (record s { reported_years = with_entry s.reported_years name year cents }) _
    (search (turning, kept_own s.reported_years name year cents, amount_same cents) depth 12) step
    changes
step_done s (Enter (entry.Year name year)) answer next step changes =
    open_after s answer next name year step changes
step_done s (Post name number run) answer next step changes =
    post_after s answer next (record s { runs = with_entry s.runs name number (taken run) }) _ _
    (search (turning, kept_own s.runs name number (taken run), run_same run false) depth 12) step
    changes
step_done s (Void name number) answer next step changes =
    void_after s answer next (record s { runs = with_voided s.runs name number })
    (Void name number) _ _ _
    (void_turns name number _ _ _ (voided_kept s.runs name number)) step changes
step_done s (Pay name number payment) answer next step changes =
    done_after s answer next
    (record s { payments = with_entry s.payments name number (taken payment) }) _
    (search (turning, kept_own s.payments name number (taken payment), payment_same payment false)
    depth 12) step changes
step_done s (VoidPay name number) answer next step changes =
    let after = voided_after _ _ UnknownPayment (voided_kept s.payments name number) in
    done_after s answer next (record s { payments = with_voided s.payments name number }) _
    (search turning depth 12) step changes
step_done s (Correct number (correction.Total name (Quarter quarter) cents)) answer next step
    changes =
    let next_one = turns_next number _ _ cents (same_amount cents) CorrectionDiffers
    (all_own s.corrected name quarter cents) (amount_same cents) in
    post_after s answer next (record s { corrected = with_entry s.corrected name quarter cents })
    _ _ (search turning depth 12) step changes
step_done s (Correct number (correction.Total name (Year year) cents)) answer next step changes =
    let next_one = turns_next number _ _ cents (same_amount cents) CorrectionDiffers
    (all_own s.corrected_years name year cents) (amount_same cents) in
    post_after s answer next
    (record s { corrected_years = with_entry s.corrected_years name year cents }) _ _
    (search turning depth 12) step changes
step_done s (Correct number (correction.Holiday day is_holiday)) answer next step changes =
    let change : DayChange = record { day = day; is_holiday = is_holiday } in
    let next_one = turns_next number _ _ is_holiday (same_flag is_holiday) CorrectionDiffers
    (changes_own day s.changed_days is_holiday) (flag_same is_holiday) in
    done_after s answer next (record s { changed_days = s.changed_days ++ change ∷ [] }) _
    (search turning depth 12) step changes
step_done s (Correct number (correction.Account name beginning)) answer next step changes =
    let after : State = record s { moved = with_move s.moved name beginning } in
    let here = entries_of s name in
    let there = entries_of after name in
    done_after s answer next after (Correct number (correction.Account name beginning))
    (correct_account_turns name number beginning (is_unused here) (is_unused there) here.moves
    there.moves (moved_own s.moved name beginning) here.account there.account
    (λ a is. (let b = moved_there here.enrolled here.moves there.moves a is in (b.0, b.1))))
    step changes
step_done s (Question question) answer next step changes =
    absurd (no_question s answer next (checks_of s (Question question)) _
    (question_quiet s question)
    (told_is s question answer) step changes)

-- ---- each step keeps what was kept

done_extends : (check : Option Answer) (s : State) (answer : Answer) (new after : State)
    → Decides check s answer new ((answer ≡ Ok Done) × (new ≡ after)) → Extends s after
    → Extends s new
done_extends (Some given) s answer new after step more = subst (Extends s) (sym step.1)
    (extends_same s)
done_extends None s answer new after step more = subst (Extends s) (sym step.1) more

post_extends : (check : Option Answer) (s : State) (answer : Answer) (new after : State)
    (Told : Type 0)
    → Decides check s answer new ((new ≡ after) × Told) → Extends s after → Extends s new
post_extends (Some given) s answer new after Told step more = subst (Extends s) (sym step.1)
    (extends_same s)
post_extends None s answer new after Told step more = subst (Extends s) (sym step.0) more

void_extends : (check : Option Answer) (s : State) (answer : Answer) (new after : State)
    (known : Option (Voidable PayRun)) (Told : Voidable PayRun → Type 0)
    → Decides check s answer new ((run : Voidable PayRun) × (known ≡ Some run) × (new ≡ after)
    × Told run) → Extends s after → Extends s new
void_extends (Some given) s answer new after known Told step more = subst (Extends s) (sym step.1)
    (extends_same s)
void_extends None s answer new after known Told step more = subst (Extends s) (sym step.2) more

next_extends : (s : State) (answer : Answer) (new : State) (name : List ℕ) (year : ℕ)
    → OpensNext s answer new name year → Extends s new
next_extends s answer new name year (inl missing) = subst (Extends s) (sym missing.2.1)
    (extends_same s)
next_extends s answer new name year (inr found) = done_extends _ s answer new _ found.2
    (assumption (extends_same s, keeps_entry s.open_years name year tt))

open_extends : (check : Option Answer) (s : State) (answer : Answer) (new : State) (name : List ℕ)
    (year : ℕ)
    → Decides check s answer new (OpensNext s answer new name year) → Extends s new
open_extends (Some given) s answer new name year step = subst (Extends s) (sym step.1)
    (extends_same s)
open_extends None s answer new name year step = next_extends s answer new name year step

pub step_extends : (s : State) (request : Request) (answer : Answer) (next : State)
    → Step s request answer next → Extends s next
step_extends s (Enter (entry.Account name account)) answer next step =
    done_extends _ s answer next _ step
    (extends_account s name account)
step_extends s (Enter (entry.Calendar year days)) answer next step =
    done_extends _ s answer next _ step
    (extends_calendar s year days)
step_extends s (Enter (entry.Holiday day)) answer next step = done_extends _ s answer next _ step
    (extends_added s day)
step_extends s (Enter (entry.Total name (Quarter quarter) cents)) answer next step =
    done_extends _ s answer next _ step
    (assumption (extends_same s, keeps_entry s.reported name quarter cents))
step_extends s (Enter (entry.Total name (Year year) cents)) answer next step =
    done_extends _ s answer next _ step
    (assumption (extends_same s, keeps_entry s.reported_years name year cents))
step_extends s (Enter (entry.Year name year)) answer next step =
    open_extends _ s answer next name year step
step_extends s (Post name number run) answer next step =
    post_extends _ s answer next _ _ step
    (assumption (
      extends_same s,
      keeps_more s.runs name number
          (taken run),
    ))
step_extends s (Void name number) answer next step = void_extends _ s answer next _ _ _ step
    (assumption (extends_same s, keeps_voided s.runs name number))
step_extends s (Pay name number payment) answer next step =
    done_extends _ s answer next _ step
    (assumption (
      extends_same s,
      keeps_more s.payments name number
          (taken payment),
    ))
step_extends s (VoidPay name number) answer next step = done_extends _ s answer next _ step
    (assumption (extends_same s, keeps_voided s.payments name number))
step_extends s (Correct number (correction.Total name (Quarter quarter) cents)) answer next step =
    post_extends _ s answer next _ _ step
    (assumption (extends_same s, keeps_numbers s.corrected name quarter cents))
step_extends s (Correct number (correction.Total name (Year year) cents)) answer next step =
    post_extends _ s answer next _ _ step
    (assumption (extends_same s, keeps_numbers s.corrected_years name year cents))
step_extends s (Correct number (correction.Holiday day is_holiday)) answer next step =
    done_extends _ s answer next _ step
    (extends_changed s (record { day = day; is_holiday = is_holiday }))
step_extends s (Correct number (correction.Account name beginning)) answer next step =
    done_extends _ s answer next _ step (extends_moved s name
    beginning)
step_extends s (Question question) answer next step =
    subst (Extends s) (sym (asked_leaves _ s answer next _ step)) (extends_same s)

-- ---- the same request again

again_told : (check : Option Answer) (s : State) (answer : Answer) (new : State) (Else : Type 0)
    → check ≡ done_before
    → Decides check s answer new Else → (answer ≡ Ok Already) × (new ≡ s)
again_told (Some given) s answer new Else e step = (step.0 ∙ inside given e, step.1)
  where
    inside : (given : Answer) → Some given ≡ done_before → given ≡ Ok Already
    inside given e = ap (λ o. unwrap_or o given) e
again_told None s answer new Else e step = absurd cc

pub step_again : (s : State) (request : Request) (answer : Answer) (next : State)
    → WasDone s request → Step s request answer next
    → (answer ≡ Ok Already) × (next ≡ s)
step_again s (Enter (entry.Total name (Quarter quarter) cents)) answer next was step =
    again_told _ s answer next _ was.told step
step_again s (Correct number (correction.Total name (Quarter quarter) cents)) answer next was step =
    again_told _ s answer next _ was.told step
step_again s request answer next was step = again_told _ s answer next _ was.told step

-- ---- a run

goes_done : (s : State) (request : Request) (answer : Answer) (next : State)
    → Goes s request answer next → is_change answer ≡ true → WasDone next request
goes_done s request answer next (inl step) changes = step_done s request answer next step changes
goes_done s request answer next (inr (inl memory, same)) changes =
    absurd (true≢false (sym changes ∙ ap is_change memory))
goes_done s request answer next (inr (inr store, same)) changes =
    absurd (true≢false (sym changes ∙ ap is_change store))

goes_still : (s : State) (request : Request) (answer : Answer) (next : State) (earlier : Request)
    → Goes s request answer next → WasDone s earlier → WasDone next earlier
goes_still s request answer next earlier (inl step) was = still_done s next earlier
    (step_extends s request answer next step) was
goes_still s request answer next earlier (inr fault) was = subst (λ x. WasDone x earlier)
    (sym fault.1) was

run_still : (s : State) (requests : List Request) (answers : List Answer) (end : State)
    (earlier : Request) → IsRun s requests answers end → WasDone s earlier → WasDone end earlier
run_still s [] [] end earlier run was = subst (λ x. WasDone x earlier) (sym run) was
run_still s [] (answer ∷ answers) end earlier run was = absurd run
run_still s (request ∷ requests) [] end earlier run was = absurd run
run_still s (request ∷ requests) (answer ∷ answers) end earlier run was =
    run_still run.0 requests answers end earlier run.2
    (goes_still s request answer run.0 earlier run.1 was)

goes_again : (s : State) (request : Request) (answer : Answer) (next : State) → WasDone s request
    → Goes s request answer next → IsRepeat answer × (next ≡ s)
goes_again s request answer next was (inl step) = let told =
    step_again s request answer next was step in (inl told.0, told.1)
goes_again s request answer next was (inr fault) = (inr fault.0, fault.1)

-- a run is cut in two where both lists are
split : (s : State) (xs ys : List Request) (us vs : List Answer) (end : State)
    → length us ≡ length xs → IsRun s (xs ++ ys) (us ++ vs) end
    → (mid : State) × IsRun s xs us mid × IsRun mid ys vs end
split s [] ys [] vs end e run = (s, refl, run)
split s [] ys (a ∷ us) vs end e run = absurd (omega arith)
split s (x ∷ xs) ys [] vs end e run = absurd (omega arith)
split s (x ∷ xs) ys (a ∷ us) vs end e run =
    let rest = split run.0 xs ys us vs end (omega arith) run.2 in
    (rest.0, (run.0, run.1, rest.1), rest.2)

join : (s : State) (xs ys : List Request) (us vs : List Answer) (mid end : State)
    → IsRun s xs us mid → IsRun mid ys vs end → IsRun s (xs ++ ys) (us ++ vs) end
join s [] ys [] vs mid end first run = subst (λ from. IsRun from ys vs end) first run
join s [] ys (a ∷ us) vs mid end first run = absurd first
join s (x ∷ xs) ys [] vs mid end first run = absurd first
join s (x ∷ xs) ys (a ∷ us) vs mid end first run =
    (first.0, first.1, join first.0 xs ys us vs mid end first.2 run)

pub repeats : (s end : State) (before between after : List Request) (request : Request)
    (answers_before answers_between answers_after : List Answer) (answer again : Answer)
    → length answers_before ≡ length before → length answers_between ≡ length between
    → IsRun s (before ++ request ∷ between ++ request ∷ after)
    (answers_before ++ answer ∷ answers_between ++ again ∷ answers_after) end
    → is_change answer ≡ true
    → IsRepeat again × IsRun s (before ++ request ∷ between ++ after)
    (answers_before ++ answer ∷ answers_between ++ answers_after) end
repeats s end before between after request answers_before answers_between answers_after answer again
    e f run changes =
    let lengths : length (answers_before ++ answer ∷ answers_between) ≡ length
    (before ++ request ∷ between) =
    length-append answers_before (answer ∷ answers_between)
    ∙ (rw (e, f) (sym (length-append before (request ∷ between)))) in
    let halves = split s (before ++ request ∷ between) (request ∷ after)
    (answers_before ++ answer ∷ answers_between) (again ∷ answers_after) end lengths run in
    let parts = split s before (request ∷ between) answers_before (answer ∷ answers_between)
    halves.0 e halves.1 in
    let was = run_still parts.2.0 between answers_between halves.0 request parts.2.2
    (goes_done parts.0 request answer parts.2.0 parts.2.1 changes) in
    let told = goes_again halves.0 request again halves.2.0 was halves.2.1 in (
      told.0,
      join s (before ++ request ∷ between) after (answers_before ++ answer ∷ answers_between)
          answers_after halves.0 end halves.1
          (subst (λ from. IsRun from after answers_after end) told.1 halves.2.2),
    )
