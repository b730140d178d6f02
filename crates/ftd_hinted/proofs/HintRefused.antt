-- What a refusal leaves for its hint: the checks before it have passed.
use Rattle.std.proofs.Common.{◌≡◌, ◌+◌, ◌-◌, ◌<◌, ◌≤◌, ℕ, inl, inr, Bool, true, false, List, []}
use Rattle.std.proofs.Common.{◌∷◌, Option}
use Rattle.std.proofs.Common.{None, Some, Ok, Err, arith, length, refl, subst, sym}
use Rattle.std.specs.Prelude.{nat_le}
use Rattle.std.proofs.lemmas.Bool.{and_parts}
use Rattle.std.proofs.lemmas.Bool.Decides.{nat_tests}
use Rattle.ftd_days.specs.Calendar.{quarter_year, year_of}
use Rattle.ftd_days.specs.declared.cents.Cents.{Cents}
use Rattle.ftd_days.specs.declared.limits.TheConstants.{QUARTERS}
use Rattle.ftd_days.proofs.Months.{day_in_years}
use Rattle.ftd_rules.specs.Accounts.{is_account_name}
use Rattle.ftd_rules.specs.Lists.{Has}
use Rattle.ftd_rules.specs.Lookback.{lookback_quarters}
use Rattle.ftd_rules.specs.declared.Form.{Form}
use Rattle.ftd_rules.specs.declared.Form.TheVariants.{F941, F943}
use Rattle.ftd_machine.specs.Checks.{Answer, Decides, done_if, finds, first_of, is_new, needs}
use Rattle.ftd_machine.specs.History.{IsMissingOn, form_of}
use Rattle.ftd_machine.specs.Kept.{TellsKept, kept_checks}
use Rattle.ftd_machine.specs.Limits.{can_be_opened, can_be_reported, can_have_calendar, is_number}
use Rattle.ftd_machine.specs.Questions.{Tells, question_checks}
use Rattle.ftd_machine.specs.Requests.{add_holiday_checks, calendar_checks, change_holiday_checks}
use Rattle.ftd_machine.specs.Requests.{correct_account_checks, correct_total_checks, enrol_checks}
use Rattle.ftd_machine.specs.Requests.{is_unused, open_year_checks, pay_checks, post_checks}
use Rattle.ftd_machine.specs.Requests.{report_checks}
use Rattle.ftd_machine.specs.Requests.{void_checks, void_payment_checks}
use Rattle.ftd_machine.specs.Requests.{year_of_period}
use Rattle.ftd_machine.specs.declared.entries.Account.{Account}
use Rattle.ftd_machine.specs.declared.entries.Beginning.{Beginning}
use Rattle.ftd_machine.specs.declared.replies.Reply.{Reply}
use Rattle.ftd_rules.specs.declared.payment.Payment.{Payment}
use Rattle.ftd_rules.specs.declared.run.PayRun.{PayRun}
use Rattle.ftd_rules.specs.declared.run.Voidable.{Voidable}
use Rattle.ftd_machine.specs.State.{Entries, State, added_in, calendar_at, changes_of}
use Rattle.ftd_machine.specs.State.{corrections_at}
use Rattle.ftd_machine.specs.State.{entries_of, is_given, is_open, kept_at, numbered, reported_at}
use Rattle.ftd_machine.specs.Step.{OpensNext, Step, may_open}
use Rattle.ftd_machine.specs.declared.entries.ReturnPeriod.{ReturnPeriod}
use Rattle.ftd_machine.specs.declared.entries.ReturnPeriod.TheVariants.{Quarter, Year}
use Rattle.ftd_machine.specs.declared.replies.Refusal.{Refusal}
use Rattle.ftd_machine.specs.declared.replies.Refusal.TheVariants as refusal
use Rattle.ftd_machine.specs.declared.requests.Correction.TheVariants as correction
use Rattle.ftd_machine.specs.declared.requests.Entry.{Entry}
use Rattle.ftd_machine.specs.declared.requests.Entry.TheVariants as entry
use Rattle.ftd_machine.specs.declared.requests.KeptList.{KeptList}
use Rattle.ftd_machine.specs.declared.requests.KeptList.TheVariants as kept
use Rattle.ftd_machine.specs.declared.requests.Question.{Question}
use Rattle.ftd_machine.specs.declared.requests.Question.TheVariants as question
use Rattle.ftd_machine.specs.declared.requests.Request.{Request}
use Rattle.ftd_machine.specs.declared.requests.Request.TheVariants as request
use Rattle.ftd_machine.proofs.Deciding.{either}
use Rattle.ftd_replies.specs.LineLaws.{IsDay, IsName, IsNumber, IsPeriod}
use Rattle.ftd_hinted.specs.Hinted.{HasValues}

-- ---- checks

-- each refusal of the checks is such
pub record Only (P : Refusal → Type 0) (checks : List (Option Answer)) : Type 0 where
  pub only : (r : Refusal) → first_of checks ≡ Some (Err r) → P r

module _ (P : Refusal → Type 0) where
  ends : Only P []
  ends = record { only = λ r e. cc e }

  on_needs : (holds : Bool) (refused : Refusal) (checks : List (Option Answer)) → P refused
      → (holds ≡ true → Only P checks) → Only P (needs holds refused ∷ checks)
  on_needs true refused checks p more = record { only = (more refl).only }
  on_needs false refused checks p more =
      record { only = λ r e. let same : refused ≡ r = cc e in subst P same p }

  on_finds : {X : Type 0} (o : Option X) (refused : Refusal) (checks : List (Option Answer))
      → P refused → Only P checks → Only P (finds o refused ∷ checks)
  on_finds (Some x) refused checks p more = record { only = more.only }
  on_finds None refused checks p more =
      record { only = λ r e. let same : refused ≡ r = cc e in subst P same p }

  on_done : (holds : Bool) (checks : List (Option Answer)) → Only P checks
      → Only P (done_if holds ∷ checks)
  on_done false checks more = record { only = more.only }
  on_done true checks more = record { only = λ r e. cc e }

  on_new : {X : Type 0} (o : Option X) (same : X → Bool) (refused : Refusal)
      (checks : List (Option Answer)) → P refused → Only P checks
      → Only P (is_new o same refused ∷ checks)
  on_new None same refused checks p more = record { only = more.only }
  on_new (Some x) same refused checks p more = go (same x) refl
    where
      go : (b : Bool) → same x ≡ b → Only P (is_new (Some x) same refused ∷ checks)
      go true is = record { only = λ r e. cc (is, e) }
      go false is = record {
        only = λ r e. let same : refused ≡ r = cc (is, e) in subst P same p;
      }

  -- what is decided so, where what stands last refuses such alone
  decided : (checks : List (Option Answer)) (s : State) (r : Refusal) (new : State)
      (Else : Type 0) → Only P checks → (first_of checks ≡ None → Else → P r)
      → Decides (first_of checks) s (Err r) new Else → P r
  decided checks s r new Else o last d = elim (either (first_of checks) s (Err r) new Else d) [
    | inl refused ↦ o.only r refused.0
    | inr otherwise ↦ last otherwise.0 otherwise.1
  ]

-- what passes
passed_needs : (holds : Bool) (refused : Refusal) (checks : List (Option Answer))
    → first_of (needs holds refused ∷ checks) ≡ None
    → (holds ≡ true) × (first_of checks ≡ None)
passed_needs true refused checks e = (refl, e)
passed_needs false refused checks e = cc e

-- ---- values

-- years, numbers and the first days of accounts are small
opened_small : (year : ℕ) → can_be_opened year ≡ true → IsNumber year
opened_small year e =
    let most = (and_parts (nat_le 2001 year) (nat_le year 2098) e).1 in
    let high : year ≤ 2098 = grind (arith, nat_tests) in
    omega arith

next_small : (year : ℕ) → can_be_opened year ≡ true → IsNumber (year + 1)
next_small year e =
    let most = (and_parts (nat_le 2001 year) (nat_le year 2098) e).1 in
    let high : year ≤ 2098 = grind (arith, nat_tests) in
    omega arith

last_small : (year : ℕ) → can_be_opened year ≡ true → IsNumber (year - 1)
last_small year e =
    let most = (and_parts (nat_le 2001 year) (nat_le year 2098) e).1 in
    let high : year ≤ 2098 = grind (arith, nat_tests) in
    omega arith

calendar_small : (year : ℕ) → can_have_calendar year ≡ true → IsNumber year
calendar_small year e =
    let most = (and_parts (nat_le 2001 year) (nat_le year 2099) e).1 in
    let high : year ≤ 2099 = grind (arith, nat_tests) in
    omega arith

started_small : (day : ℕ) → nat_le (year_of day) 2098 ≡ true → IsDay day
started_small day e =
    let high : year_of day ≤ 2098 = grind (arith, nat_tests) in
    day_in_years day (omega arith)

number_small : (number : ℕ) → is_number number ≡ true → IsNumber number
number_small number e =
    let most = (and_parts (nat_le 1 number) (nat_le number 999999999) e).1 in
    let high : number ≤ 999999999 = grind (arith, nat_tests) in
    omega arith

-- so is a period whose total may be reported
period_small : (period : ReturnPeriod) → can_be_reported (year_of_period period) ≡ true
    → IsPeriod period
period_small (Quarter quarter) e =
    let most = (and_parts (nat_le 1999 (quarter_year quarter)) (nat_le (quarter_year quarter) 2098)
    e).1 in
    let high : quarter_year quarter ≤ 2098 = grind (arith, nat_tests) in
    omega arith
period_small (Year year) e =
    let most = (and_parts (nat_le 1999 year) (nat_le year 2098) e).1 in
    let high : year ≤ 2098 = grind (arith, nat_tests) in
    omega arith

-- and the second year before a year that may be opened, and a quarter of its lookback period
missing_small : (year missing : ℕ) → can_be_opened year ≡ true → missing ≡ year - 2
    → IsNumber missing
missing_small year missing e same =
    let most = (and_parts (nat_le 2001 year) (nat_le year 2098) e).1 in
    let high : year ≤ 2098 = grind (arith, nat_tests) in
    omega arith

lookback_small : (year quarter : ℕ) → can_be_opened year ≡ true
    → Has (lookback_quarters year) quarter → quarter < QUARTERS
lookback_small year quarter e has =
    let most = (and_parts (nat_le 2001 year) (nat_le year 2098) e).1 in
    let high : year ≤ 2098 = grind (arith, nat_tests) in
    elim has [
      | inl same ↦ omega arith
      | inr (inl same) ↦ omega arith
      | inr (inr (inl same)) ↦ omega arith
      | inr (inr (inr (inl same))) ↦ omega arith
      | inr (inr (inr (inr none))) ↦ absurd none
    ]

-- ---- the checks of each request

enrol_only : (name : List ℕ) (account : Account) (known : Option Account)
    → Only (HasValues (request.Enter (entry.Account name account)))
    (enrol_checks name account known)
enrol_only name account known =
    let P = HasValues (request.Enter (entry.Account name account)) in
    on_needs P _ _ _ tt (λ n. on_needs P _ _ _ tt (λ d.
    on_new P _ _ _ _ (n, started_small account.start d) (ends P)))

calendar_only : (year : ℕ) (days : List ℕ) (known : Option (List ℕ))
    → Only (HasValues (request.Enter (entry.Calendar year days))) (calendar_checks year days known)
calendar_only year days known =
    let P = HasValues (request.Enter (entry.Calendar year days)) in
    on_needs P _ _ _ tt (λ y. on_needs P _ _ _ tt (λ d. on_new P _ _ _ _ tt (ends P)))

add_holiday_only : (day : ℕ) (calendar : Option (List ℕ)) (added : List ℕ)
    → Only (HasValues (request.Enter (entry.Holiday day))) (add_holiday_checks day calendar added)
add_holiday_only day calendar added =
    let P = HasValues (request.Enter (entry.Holiday day)) in
    on_needs P _ _ _ tt (λ y. on_done P _ _ (on_finds P _ _ _ (calendar_small (year_of day) y)
    (on_needs P _ _ _ tt (λ f. ends P))))

report_only : (name : List ℕ) (period : ReturnPeriod) (cents : Cents) (account : Option Account)
    (known : Option Cents)
    → Only (HasValues (request.Enter (entry.Total name period cents)))
    (report_checks name period cents account known)
report_only name (Quarter quarter) cents account known =
    let P = HasValues (request.Enter (entry.Total name (Quarter quarter) cents)) in
    on_needs P _ _ _ tt (λ n. on_needs P _ _ _ tt (λ y. on_needs P _ _ _ tt (λ c.
    on_finds P _ _ _ n (on_needs P _ _ _ tt (λ f.
    on_new P _ _ _ _ (n, period_small (Quarter quarter) y)
    (on_needs P _ _ _ tt (λ b. ends P)))))))
report_only name (Year year) cents account known =
    let P = HasValues (request.Enter (entry.Total name (Year year) cents)) in
    on_needs P _ _ _ tt (λ n. on_needs P _ _ _ tt (λ y. on_needs P _ _ _ tt (λ c.
    on_finds P _ _ _ n (on_needs P _ _ _ tt (λ f.
    on_new P _ _ _ _ (n, period_small (Year year) y)
    (on_needs P _ _ _ tt (λ b. ends P)))))))

open_year_only : (name : List ℕ) (year : ℕ) (account : Option Account) (there calendar next : Bool)
    → Only (HasValues (request.Enter (entry.Year name year)))
    (open_year_checks name year account there calendar next)
open_year_only name year account there calendar next =
    let P = HasValues (request.Enter (entry.Year name year)) in
    on_needs P _ _ _ tt (λ n. on_needs P _ _ _ tt (λ y. on_finds P _ _ _ n (on_done P _ _
    (on_needs P _ _ _ tt (λ b. on_needs P _ _ _ (opened_small year y) (λ c.
    on_needs P _ _ _ (next_small year y) (λ d. ends P)))))))

post_only : (name : List ℕ) (number : ℕ) (run : PayRun) (account : Option Account)
    (known : Option (Voidable PayRun)) (there : Bool) (count : ℕ)
    → Only (HasValues (request.Post name number run))
    (post_checks name number run account known there count)
post_only name number run account known there count =
    let P = HasValues (request.Post name number run) in
    on_needs P _ _ _ tt (λ n. on_needs P _ _ _ tt (λ y. on_needs P _ _ _ tt (λ c.
    on_needs P _ _ _ tt (λ k. on_finds P _ _ _ n (on_new P _ _ _ _ (n, number_small number k)
    (on_needs P _ _ _ tt (λ b. on_needs P _ _ _ (n, opened_small (year_of run.payday) y) (λ t.
    on_needs P _ _ _ tt (λ f. ends P)))))))))

void_only : (name : List ℕ) (number : ℕ) (account : Option Account)
    (known : Option (Voidable PayRun))
    → Only (HasValues (request.Void name number)) (void_checks name number account known)
void_only name number account known =
    let P = HasValues (request.Void name number) in
    on_needs P _ _ _ tt (λ n. on_needs P _ _ _ tt (λ k. on_finds P _ _ _ n (on_done P _ _
    (on_finds P _ _ _ tt (ends P)))))

pay_only : (name : List ℕ) (number : ℕ) (payment : Payment) (account : Option Account)
    (known : Option (Voidable Payment)) (there : Bool) (count : ℕ)
    → Only (HasValues (request.Pay name number payment))
    (pay_checks name number payment account known there count)
pay_only name number payment account known there count =
    let P = HasValues (request.Pay name number payment) in
    on_needs P _ _ _ tt (λ n. on_needs P _ _ _ tt (λ y. on_needs P _ _ _ tt (λ c.
    on_needs P _ _ _ tt (λ k. on_finds P _ _ _ n (on_new P _ _ _ _ (n, number_small number k)
    (on_needs P _ _ _ tt (λ b. on_needs P _ _ _ (
      n,
      opened_small (year_of payment.for_day) (and_parts (can_have_calendar (year_of payment.paid))
          (can_be_opened (year_of payment.for_day)) y).1,
    ) (λ t.
    on_needs P _ _ _ tt (λ f. ends P)))))))))

void_pay_only : (name : List ℕ) (number : ℕ) (account : Option Account)
    (known : Option (Voidable Payment))
    → Only (HasValues (request.VoidPay name number))
    (void_payment_checks name number account known)
void_pay_only name number account known =
    let P = HasValues (request.VoidPay name number) in
    on_needs P _ _ _ tt (λ n. on_needs P _ _ _ tt (λ k. on_finds P _ _ _ n (on_done P _ _
    (on_finds P _ _ _ tt (ends P)))))

correct_total_only : (name : List ℕ) (period : ReturnPeriod) (number : ℕ) (cents : Cents)
    (account : Option Account) (reported known : Option Cents) (count : ℕ)
    → Only (HasValues (request.Correct number (correction.Total name period cents)))
    (correct_total_checks name period number cents account reported known count)
correct_total_only name (Quarter quarter) number cents account reported known count =
    let P = HasValues (request.Correct number (correction.Total name (Quarter quarter) cents)) in
    on_needs P _ _ _ tt (λ n. on_needs P _ _ _ tt (λ y. on_needs P _ _ _ tt (λ c.
    on_needs P _ _ _ tt (λ k. on_finds P _ _ _ n (on_needs P _ _ _ tt (λ f.
    on_finds P _ _ _ (n, period_small (Quarter quarter) y) (on_new P _ _ _ _ tt
    (on_needs P _ _ _ tt (λ i. ends P)))))))))
correct_total_only name (Year year) number cents account reported known count =
    let P = HasValues (request.Correct number (correction.Total name (Year year) cents)) in
    on_needs P _ _ _ tt (λ n. on_needs P _ _ _ tt (λ y. on_needs P _ _ _ tt (λ c.
    on_needs P _ _ _ tt (λ k. on_finds P _ _ _ n (on_needs P _ _ _ tt (λ f.
    on_finds P _ _ _ (n, period_small (Year year) y) (on_new P _ _ _ _ tt
    (on_needs P _ _ _ tt (λ i. ends P)))))))))

change_holiday_only : (day number : ℕ) (is_one : Bool) (calendar : Option (List ℕ))
    (added : List ℕ) (known : Option Bool) (count : ℕ)
    → Only (HasValues (request.Correct number (correction.Holiday day is_one)))
    (change_holiday_checks day number is_one calendar added known count)
change_holiday_only day number is_one calendar added known count =
    let P = HasValues (request.Correct number (correction.Holiday day is_one)) in
    on_needs P _ _ _ tt (λ y. on_needs P _ _ _ tt (λ k.
    on_finds P _ _ _ (calendar_small (year_of day) y) (on_needs P _ _ _ tt (λ h.
    on_new P _ _ _ _ tt (on_needs P _ _ _ tt (λ i. ends P))))))

correct_account_only : (name : List ℕ) (number : ℕ) (beginning : Beginning)
    (account : Option Account) (known : Option Beginning) (unused : Bool) (count : ℕ)
    → Only (HasValues (request.Correct number (correction.Account name beginning)))
    (correct_account_checks name number beginning account known unused count)
correct_account_only name number beginning account known unused count =
    let P = HasValues (request.Correct number (correction.Account name beginning)) in
    on_needs P _ _ _ tt (λ n. on_needs P _ _ _ tt (λ d. on_needs P _ _ _ tt (λ k.
    on_finds P _ _ _ n (on_new P _ _ _ _ tt (on_needs P _ _ _ tt (λ u.
    on_needs P _ _ _ tt (λ i. ends P)))))))

kept_only : (s : State) (asked : KeptList)
    → Only (HasValues (request.Question (question.Kept asked))) (kept_checks s asked)
kept_only s kept.Accounts = ends (HasValues (request.Question (question.Kept kept.Accounts)))
kept_only s (kept.Years name) =
    let P = HasValues (request.Question (question.Kept (kept.Years name))) in
    on_needs P _ _ _ tt (λ n. on_finds P _ _ _ n (ends P))
kept_only s (kept.Reported name) =
    let P = HasValues (request.Question (question.Kept (kept.Reported name))) in
    on_needs P _ _ _ tt (λ n. on_finds P _ _ _ n (ends P))
kept_only s (kept.Holidays year) =
    let P = HasValues (request.Question (question.Kept (kept.Holidays year))) in
    on_needs P _ _ _ tt (λ y. on_needs P _ _ _ (calendar_small year y) (λ g. ends P))
kept_only s (kept.Runs name quarter) =
    let P = HasValues (request.Question (question.Kept (kept.Runs name quarter))) in
    on_needs P _ _ _ tt (λ n. on_needs P _ _ _ tt (λ y. on_finds P _ _ _ n (ends P)))
kept_only s (kept.Payments name quarter) =
    let P = HasValues (request.Question (question.Kept (kept.Payments name quarter))) in
    on_needs P _ _ _ tt (λ n. on_needs P _ _ _ tt (λ y. on_finds P _ _ _ n (ends P)))

question_only : (s : State) (asked : Question)
    → Only (HasValues (request.Question asked)) (question_checks s asked)
question_only s (question.Status name day) =
    let P = HasValues (request.Question (question.Status name day)) in
    on_needs P _ _ _ tt (λ n. on_needs P _ _ _ tt (λ y. on_finds P _ _ _ n
    (on_needs P _ _ _ (n, opened_small (year_of day) y) (λ t. ends P))))
question_only s (question.Explain name day) =
    let P = HasValues (request.Question (question.Explain name day)) in
    on_needs P _ _ _ tt (λ n. on_needs P _ _ _ tt (λ y. on_finds P _ _ _ n
    (on_needs P _ _ _ (n, opened_small (year_of day) y) (λ t. ends P))))
question_only s (question.DueList name quarter as_of) =
    let P = HasValues (request.Question (question.DueList name quarter as_of)) in
    on_needs P _ _ _ tt (λ n. on_needs P _ _ _ tt (λ y. on_needs P _ _ _ tt (λ d.
    on_finds P _ _ _ n (on_needs P _ _ _ (n, opened_small (quarter_year quarter) y)
    (λ t. ends P)))))
question_only s (question.ScheduleB name quarter) =
    let P = HasValues (request.Question (question.ScheduleB name quarter)) in
    on_needs P _ _ _ tt (λ n. on_needs P _ _ _ tt (λ y. on_finds P _ _ _ n
    (on_needs P _ _ _ tt (λ f. on_needs P _ _ _ (n, opened_small (quarter_year quarter) y)
    (λ t. ends P)))))
question_only s (question.Agenda from to as_of) =
    let P = HasValues (request.Question (question.Agenda from to as_of)) in
    on_needs P _ _ _ tt (λ d. on_needs P _ _ _ tt (λ e. ends P))
question_only s (question.Owed until as_of) =
    let P = HasValues (request.Question (question.Owed until as_of)) in
    on_needs P _ _ _ tt (λ d. on_needs P _ _ _ tt (λ e. ends P))
question_only s (question.Unapplied until) =
    let P = HasValues (request.Question (question.Unapplied until)) in
    on_needs P _ _ _ tt (λ d. ends P)
question_only s (question.Kept asked) = kept_only s asked

-- ---- what stands last

-- a refusal is no reply
no_reply : {P : Type 0} (r : Refusal) (reply : Reply) (answer : Answer) → answer ≡ Err r
    → answer ≡ Ok reply → P
no_reply r reply answer e o = cc (e, o)

-- a question is told with a reply
kept_told : {P : Type 0} (s : State) (asked : KeptList) (r : Refusal) → TellsKept s asked (Err r)
    → P
kept_told s kept.Accounts r told = no_reply r _ (Err r) refl told.told
kept_told s (kept.Years name) r told = no_reply r _ (Err r) refl told.told
kept_told s (kept.Reported name) r told = no_reply r _ (Err r) refl told.told
kept_told s (kept.Holidays year) r told = no_reply r _ (Err r) refl told.told
kept_told s (kept.Runs name quarter) r told = no_reply r _ (Err r) refl told.told
kept_told s (kept.Payments name quarter) r told = no_reply r _ (Err r) refl told.told

question_told : {P : Type 0} (s : State) (asked : Question) (r : Refusal)
    → Tells s asked (Err r) → P
question_told s (question.Status name day) r told = no_reply r _ (Err r) refl told.told
question_told s (question.Explain name day) r told = no_reply r _ (Err r) refl told.told
question_told s (question.DueList name quarter as_of) r told = no_reply r _ (Err r) refl told.told
question_told s (question.ScheduleB name quarter) r told = no_reply r _ (Err r) refl told.told
question_told s (question.Agenda from to as_of) r told = no_reply r _ (Err r) refl told.told
question_told s (question.Owed until as_of) r told = no_reply r _ (Err r) refl told.told
question_told s (question.Unapplied until) r told = no_reply r _ (Err r) refl told.told
question_told s (question.Kept asked) r told = kept_told s asked r told

-- a figure of a lookback period is missing
lacks_only : (form : Form) (own : Entries) (name : List ℕ) (year : ℕ) (r : Refusal) → IsName name
    → can_be_opened year ≡ true → IsMissingOn form own year r
    → HasValues (request.Enter (entry.Year name year)) r
lacks_only F941 own name year r n y lacks =
    subst (HasValues (request.Enter (entry.Year name year))) (sym lacks.2)
    (n, lookback_small year lacks.0 y lacks.1.0)
lacks_only F943 own name year r n y lacks =
    subst (HasValues (request.Enter (entry.Year name year))) (sym lacks.2)
    (n, missing_small year lacks.0 y lacks.1.0)

-- a year is opened after the one before it
opens_has : (s : State) (name : List ℕ) (year : ℕ) (r : Refusal) (new : State) → IsName name
    → can_be_opened year ≡ true → OpensNext s (Err r) new name year
    → HasValues (request.Enter (entry.Year name year)) r
opens_has s name year r new n y opens =
    let P = HasValues (request.Enter (entry.Year name year)) in
    let own = entries_of s name in
    elim opens [
      | inl lacks ↦
          let same : lacks.0 ≡ r = cc lacks.2.0 in
          subst P same (lacks_only (form_of own.account) own name year lacks.0 n y lacks.1)
      | inr more ↦
          decided P (may_open own year) s r new _
          (on_needs P _ _ _ (n, last_small year y) (λ t. ends P))
          (λ pass done. no_reply r _ (Err r) refl done.0) more.2
    ]

-- ---- each request

enter_has : (s : State) (entered : Entry) (r : Refusal) (new : State)
    → Step s (request.Enter entered) (Err r) new → HasValues (request.Enter entered) r
enter_has s (entry.Account name account) r new step =
    decided (HasValues (request.Enter (entry.Account name account)))
    (enrol_checks name account (entries_of s name).enrolled) s r new _
    (enrol_only name account (entries_of s name).enrolled)
    (λ pass done. no_reply r _ (Err r) refl done.0) step
enter_has s (entry.Calendar year days) r new step =
    decided (HasValues (request.Enter (entry.Calendar year days)))
    (calendar_checks year days (calendar_at s year)) s r new _
    (calendar_only year days (calendar_at s year))
    (λ pass done. no_reply r _ (Err r) refl done.0) step
enter_has s (entry.Holiday day) r new step =
    decided (HasValues (request.Enter (entry.Holiday day)))
    (add_holiday_checks day (calendar_at s (year_of day)) (added_in s (year_of day))) s r new _
    (add_holiday_only day (calendar_at s (year_of day)) (added_in s (year_of day)))
    (λ pass done. no_reply r _ (Err r) refl done.0) step
enter_has s (entry.Total name period cents) r new step =
    decided (HasValues (request.Enter (entry.Total name period cents)))
    (report_checks name period cents (entries_of s name).account
    (reported_at (entries_of s name) period)) s r new _
    (report_only name period cents (entries_of s name).account
    (reported_at (entries_of s name) period))
    (λ pass done. no_reply r _ (Err r) refl done.0) step
enter_has s (entry.Year name year) r new step =
    let own = entries_of s name in
    decided (HasValues (request.Enter (entry.Year name year)))
    (open_year_checks name year own.account (is_open own year) (is_given s year)
    (is_given s (year + 1))) s r new _
    (open_year_only name year own.account (is_open own year) (is_given s year)
    (is_given s (year + 1)))
    (λ pass opens.
    let named = passed_needs (is_account_name name) refusal.BadName _ pass in
    let ranged = passed_needs (can_be_opened year) refusal.BadYear _ named.1 in
    opens_has s name year r new named.0 ranged.0 opens) step

pub has_values : (s : State) (asked : Request) (r : Refusal) (new : State)
    → Step s asked (Err r) new → HasValues asked r
has_values s (request.Enter entered) r new step = enter_has s entered r new step
has_values s (request.Post name number run) r new step =
    let own = entries_of s name in
    let there = is_open own (year_of run.payday) in
    let known = kept_at number own.runs in
    decided (HasValues (request.Post name number run))
    (post_checks name number run own.account known there (length own.runs)) s r new _
    (post_only name number run own.account known there (length own.runs))
    (λ pass done. no_reply r _ (Err r) refl done.1.told) step
has_values s (request.Void name number) r new step =
    let own = entries_of s name in
    decided (HasValues (request.Void name number))
    (void_checks name number own.account (kept_at number own.runs)) s r new _
    (void_only name number own.account (kept_at number own.runs))
    (λ pass done. no_reply r _ (Err r) refl done.3.told) step
has_values s (request.Pay name number payment) r new step =
    let own = entries_of s name in
    let there = is_open own (year_of payment.for_day) in
    let known = kept_at number own.payments in
    decided (HasValues (request.Pay name number payment))
    (pay_checks name number payment own.account known there (length own.payments)) s r new _
    (pay_only name number payment own.account known there (length own.payments))
    (λ pass done. no_reply r _ (Err r) refl done.0) step
has_values s (request.VoidPay name number) r new step =
    let own = entries_of s name in
    decided (HasValues (request.VoidPay name number))
    (void_payment_checks name number own.account (kept_at number own.payments)) s r new _
    (void_pay_only name number own.account (kept_at number own.payments))
    (λ pass done. no_reply r _ (Err r) refl done.0) step
has_values s (request.Correct number (correction.Total name period cents)) r new step =
    let own = entries_of s name in
    let known = corrections_at own period in
    decided (HasValues (request.Correct number (correction.Total name period cents)))
    (correct_total_checks name period number cents own.account (reported_at own period)
    (numbered number known) (length known)) s r new _
    (correct_total_only name period number cents own.account (reported_at own period)
    (numbered number known) (length known))
    (λ pass done. no_reply r _ (Err r) refl done.1.told) step
has_values s (request.Correct number (correction.Holiday day is_holiday)) r new step =
    let known = changes_of day s.changed_days in
    decided (HasValues (request.Correct number (correction.Holiday day is_holiday)))
    (change_holiday_checks day number is_holiday (calendar_at s (year_of day))
    (added_in s (year_of day)) (numbered number known) (length known)) s r new _
    (change_holiday_only day number is_holiday (calendar_at s (year_of day))
    (added_in s (year_of day)) (numbered number known) (length known))
    (λ pass done. no_reply r _ (Err r) refl done.0) step
has_values s (request.Correct number (correction.Account name beginning)) r new step =
    let own = entries_of s name in
    decided (HasValues (request.Correct number (correction.Account name beginning)))
    (correct_account_checks name number beginning own.account (numbered number own.moves)
    (is_unused own) (length own.moves)) s r new _
    (correct_account_only name number beginning own.account (numbered number own.moves)
    (is_unused own) (length own.moves))
    (λ pass done. no_reply r _ (Err r) refl done.0) step
has_values s (request.Question asked) r new step =
    decided (HasValues (request.Question asked)) (question_checks s asked) s r new _
    (question_only s asked) (λ pass done. question_told s asked r done.1) step
