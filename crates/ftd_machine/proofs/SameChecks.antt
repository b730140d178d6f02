-- Sound states that have the same entries answer the checks of each request the same.
use Rattle.std.proofs.Common.{◌≡◌, ◌∙◌, refl, sym, ap, ℕ, ◌+◌, ◌==◌, ◌&&◌, Bool, List, [], ◌∷◌}
use Rattle.std.proofs.Common.{length, Option, None, Some}
use Rattle.std.specs.Prelude.{is_some, nat_lt}
use Rattle.std.specs.List.Sorted.{IsPermutation}
use Rattle.std.proofs.lemmas.List.Sorted.{IsPermutation-append, IsPermutation-refl}
use Rattle.std.proofs.lemmas.List.Sorted.{length_permutation, list_any-IsPermutation}
use Rattle.ftd_days.specs.Business.{is_holiday}
use Rattle.ftd_days.specs.Calendar.{quarter_year, year_of}
use Rattle.ftd_days.specs.Holidays.{holidays_of}
use Rattle.ftd_days.specs.declared.limits.TheConstants.{MOST_HOLIDAYS}
use Rattle.ftd_rules.specs.Lists.{Has}
use Rattle.ftd_rules.proofs.Members.{has_kept}
use Rattle.ftd_machine.specs.Checks.{done_if, finds, is_new, needs}
use Rattle.ftd_machine.specs.Journal.{SameEntries}
use Rattle.ftd_machine.specs.Kept.{kept_checks}
use Rattle.ftd_machine.specs.Limits.{can_have_calendar, is_number}
use Rattle.ftd_machine.specs.Questions.{question_checks}
use Rattle.ftd_machine.specs.Requests.{calendar_checks, correct_account_checks}
use Rattle.ftd_machine.specs.Requests.{correct_total_checks, days_of_year, due_list_checks}
use Rattle.ftd_machine.specs.Requests.{enrol_checks, holidays_checks, is_next, is_unused}
use Rattle.ftd_machine.specs.Requests.{kept_in_quarter_checks, kept_of_checks, open_year_checks}
use Rattle.ftd_machine.specs.Requests.{pay_checks, post_checks, report_checks, same_flag}
use Rattle.ftd_machine.specs.Requests.{schedule_b_checks, status_checks, void_checks}
use Rattle.ftd_machine.specs.Requests.{void_payment_checks}
use Rattle.ftd_machine.specs.Sound.{IsSound}
use Rattle.ftd_machine.specs.State.{State, added_in, calendar_at, entries_of, is_given}
use Rattle.ftd_machine.specs.State.{numbered}
use Rattle.ftd_machine.specs.declared.entries.ReturnPeriod.TheVariants.{Quarter, Year}
use Rattle.ftd_machine.specs.declared.replies.Refusal.TheVariants.{BadCalendar, BadDay, BadNumber}
use Rattle.ftd_machine.specs.declared.replies.Refusal.TheVariants.{CalendarMissing, NoHoliday}
use Rattle.ftd_machine.specs.declared.replies.Refusal.TheVariants.{CorrectionDiffers}
use Rattle.ftd_machine.specs.declared.requests.Correction.TheVariants as correction
use Rattle.ftd_machine.specs.declared.requests.Entry.TheVariants as entry
use Rattle.ftd_machine.specs.declared.requests.KeptList.{KeptList}
use Rattle.ftd_machine.specs.declared.requests.KeptList.TheVariants.{Accounts, Years, Reported}
use Rattle.ftd_machine.specs.declared.requests.KeptList.TheVariants.{Holidays, Runs, Payments}
use Rattle.ftd_machine.specs.declared.requests.Question.{Question as Questions}
use Rattle.ftd_machine.specs.declared.requests.Question.TheVariants.{Status, Explain, DueList}
use Rattle.ftd_machine.specs.declared.requests.Question.TheVariants.{ScheduleB, Agenda, Owed, Kept}
use Rattle.ftd_machine.specs.declared.requests.Question.TheVariants.{Unapplied}
use Rattle.ftd_machine.specs.declared.requests.Request.{Request}
use Rattle.ftd_machine.specs.declared.requests.Request.TheVariants.{Enter, Post, Void, Pay, VoidPay}
use Rattle.ftd_machine.specs.declared.requests.Request.TheVariants.{Correct, Question}
use Rattle.ftd_machine.proofs.DaysOnce.{once_right}
use Rattle.ftd_machine.proofs.Found.{filter_apart}
use Rattle.ftd_machine.proofs.Members.{has_filtered}
use Rattle.ftd_machine.proofs.Repeats.{checks_of}
use Rattle.ftd_machine.proofs.SameMembers.{added_day, moved_by, same_back, years_same}
use Rattle.ftd_machine.proofs.SameTold.{account_same, reordered}

-- ---- the days of a year

-- those that were added to it
added_has : (s t : State) → IsSound s → SameEntries s t → (year day : ℕ)
    → Has (added_in s year) day → Has (added_in t year) day
added_has s t sound same year day has =
    let here = has_filtered (λ added. year_of added == year) s.added_days day has in
    has_kept (λ added. year_of added == year) t.added_days day
    (added_day s t sound same day here.0) here.1

-- they are those of the other state in another order
added_moved : (s t : State) → IsSound s → IsSound t → SameEntries s t → (year : ℕ)
    → IsPermutation (added_in s year) (added_in t year)
added_moved s t s_sound t_sound same year =
    let in_year : ℕ → Bool = λ added. year_of added == year in
    moved_by (λ (day : ℕ). day) (added_in s year) (added_in t year)
    (filter_apart (λ (day : ℕ). day) in_year s.added_days
    (once_right (holidays_of s.calendars) s.added_days s_sound.days_once))
    (filter_apart (λ (day : ℕ). day) in_year t.added_days
    (once_right (holidays_of t.calendars) t.added_days t_sound.days_once))
    (added_has s t s_sound same year) (added_has t s t_sound (same_back s t same) year)

-- beside those that were given
year_moved : (given : Option (List ℕ)) (xs ys : List ℕ) → IsPermutation xs ys
    → IsPermutation (days_of_year given xs) (days_of_year given ys)
year_moved None xs ys moved = moved
year_moved (Some given) xs ys moved =
    IsPermutation-append given given xs ys (IsPermutation-refl given) moved

module _ (s t : State) (s_sound : IsSound s) (t_sound : IsSound t) (same : SameEntries s t) where
  -- so the days of a year are, where the calendars are the same
  of_year_moved : (year : ℕ) → IsPermutation (days_of_year (calendar_at t year) (added_in s year))
      (days_of_year (calendar_at t year) (added_in t year))
  of_year_moved year =
      year_moved (calendar_at t year) (added_in s year) (added_in t year)
      (added_moved s t s_sound t_sound same year)

  -- so the same days are among them
  day_same : (year day : ℕ)
      → is_holiday (days_of_year (calendar_at t year) (added_in t year)) day
      ≡ is_holiday (days_of_year (calendar_at s year) (added_in s year)) day
  day_same year day =
      sym (list_any-IsPermutation (λ holiday. holiday == day) _ _ (of_year_moved year))
      ∙ ap (λ given. is_holiday (days_of_year given (added_in s year)) day) (same.calendars year)

  -- and there are as many
  many_same : (year : ℕ) → length (days_of_year (calendar_at t year) (added_in t year))
      ≡ length (days_of_year (calendar_at s year) (added_in s year))
  many_same year =
      length_permutation _ _ (of_year_moved year)
      ∙ ap (λ given. length (days_of_year given (added_in s year))) (same.calendars year)

  -- ---- how many

  -- an account has as many runs
  runs_many : (name : List ℕ) → length (entries_of t name).runs ≡ length (entries_of s name).runs
  runs_many name = length_permutation _ _ (reordered s t s_sound t_sound same name).runs.moved

  -- and as many payments
  payments_many : (name : List ℕ)
      → length (entries_of t name).payments ≡ length (entries_of s name).payments
  payments_many name =
      length_permutation _ _ (reordered s t s_sound t_sound same name).payments.moved

  -- something rests on both or on neither
  unused_same : (name : List ℕ) → is_unused (entries_of t name) ≡ is_unused (entries_of s name)
  unused_same name =
      let its = reordered s t s_sound t_sound same name in
      let quarters : length (entries_of t name).reported ≡ length (entries_of s name).reported =
      length_permutation _ _ its.reported.moved in
      let years : length (entries_of t name).reported_years
      ≡ length (entries_of s name).reported_years =
      length_permutation _ _ its.reported_years.moved in
      let opened : length (entries_of t name).open_years
      ≡ length (entries_of s name).open_years =
      ap length (years_same s t s_sound t_sound same name) in
      λ i. (quarters i == 0) && ((years i == 0) && (opened i == 0))

  -- a calendar is given of both or of neither
  given_same : (year : ℕ) → is_given t year ≡ is_given s year
  given_same year = ap is_some (same.calendars year)

  -- ---- questions

  -- the account in force is the same
  account : (name : List ℕ) → (entries_of t name).account ≡ (entries_of s name).account
  account name = account_same s t s_sound t_sound same name

  -- the checks of the question what is kept are the same
  kept_same : (kept : KeptList) → kept_checks t kept ≡ kept_checks s kept
  kept_same Accounts = refl
  kept_same (Years name) = ap (kept_of_checks name) (account name)
  kept_same (Reported name) = ap (kept_of_checks name) (account name)
  kept_same (Holidays year) = ap (holidays_checks year) (given_same year)
  kept_same (Runs name quarter) = ap (kept_in_quarter_checks name quarter) (account name)
  kept_same (Payments name quarter) = ap (kept_in_quarter_checks name quarter) (account name)

  -- the checks of each question are the same
  asked_same : (question : Questions) → question_checks t question ≡ question_checks s question
  asked_same (Status name day) =
      let own = account name in
      let there = (same.accounts name).open_years (year_of day) in
      λ i. status_checks name day (own i) (there i)
  asked_same (Explain name day) =
      let own = account name in
      let there = (same.accounts name).open_years (year_of day) in
      λ i. status_checks name day (own i) (there i)
  asked_same (DueList name quarter as_of) =
      let own = account name in
      let there = (same.accounts name).open_years (quarter_year quarter) in
      λ i. due_list_checks name quarter as_of (own i) (there i)
  asked_same (ScheduleB name quarter) =
      let own = account name in
      let there = (same.accounts name).open_years (quarter_year quarter) in
      λ i. schedule_b_checks name quarter (own i) (there i)
  asked_same (Agenda from to as_of) = refl
  asked_same (Owed until as_of) = refl
  asked_same (Unapplied until) = refl
  asked_same (Kept kept) = kept_same kept

  -- ---- requests

  -- the checks of each request are the same
  pub same_checks : (request : Request) → checks_of t request ≡ checks_of s request
  same_checks (Enter (entry.Account name own)) =
      ap (enrol_checks name own) ((same.accounts name).enrolled)
  same_checks (Enter (entry.Calendar year days)) =
      ap (calendar_checks year days) (same.calendars year)
  same_checks (Enter (entry.Holiday day)) =
      let year = year_of day in
      let known = day_same year day in
      let given = same.calendars year in
      let many = many_same year in
      λ i. needs (can_have_calendar year) BadDay ∷ done_if (known i)
      ∷ finds (given i) (CalendarMissing year) ∷ needs (nat_lt (many i) MOST_HOLIDAYS) BadCalendar
      ∷ []
  same_checks (Enter (entry.Total name (Quarter quarter) cents)) =
      let own = account name in
      let known = (same.accounts name).reported quarter in
      λ i. report_checks name (Quarter quarter) cents (own i) (known i)
  same_checks (Enter (entry.Total name (Year year) cents)) =
      let own = account name in
      let known = (same.accounts name).reported_years year in
      λ i. report_checks name (Year year) cents (own i) (known i)
  same_checks (Enter (entry.Year name year)) =
      let own = account name in
      let there = (same.accounts name).open_years year in
      let first = given_same year in
      let next = given_same (year + 1) in
      λ i. open_year_checks name year (own i) (there i) (first i) (next i)
  same_checks (Post name number run) =
      let own = account name in
      let known = (same.accounts name).runs number in
      let there = (same.accounts name).open_years (year_of run.payday) in
      let many = runs_many name in
      λ i. post_checks name number run (own i) (known i) (there i) (many i)
  same_checks (Void name number) =
      let own = account name in
      let known = (same.accounts name).runs number in
      λ i. void_checks name number (own i) (known i)
  same_checks (Pay name number payment) =
      let own = account name in
      let known = (same.accounts name).payments number in
      let there = (same.accounts name).open_years (year_of payment.for_day) in
      let many = payments_many name in
      λ i. pay_checks name number payment (own i) (known i) (there i) (many i)
  same_checks (VoidPay name number) =
      let own = account name in
      let known = (same.accounts name).payments number in
      λ i. void_payment_checks name number (own i) (known i)
  same_checks (Correct number (correction.Total name (Quarter quarter) cents)) =
      let own = account name in
      let first = (same.accounts name).reported quarter in
      let known = (same.accounts name).corrected quarter in
      λ i. correct_total_checks name (Quarter quarter) number cents (own i) (first i)
      (numbered number (known i)) (length (known i))
  same_checks (Correct number (correction.Total name (Year year) cents)) =
      let own = account name in
      let first = (same.accounts name).reported_years year in
      let known = (same.accounts name).corrected_years year in
      λ i. correct_total_checks name (Year year) number cents (own i) (first i)
      (numbered number (known i)) (length (known i))
  same_checks (Correct number (correction.Holiday day is_one)) =
      let year = year_of day in
      let there = day_same year day in
      let given = same.calendars year in
      let known = same.changed_days day in
      λ i. needs (can_have_calendar year) BadDay ∷ needs (is_number number) BadNumber
      ∷ finds (given i) (CalendarMissing year) ∷ needs (there i) NoHoliday
      ∷ is_new (numbered number (known i)) (same_flag is_one) CorrectionDiffers
      ∷ is_next number (length (known i)) ∷ []
  same_checks (Correct number (correction.Account name beginning)) =
      let own = account name in
      let moves = (same.accounts name).moves in
      let unused = unused_same name in
      λ i. correct_account_checks name number beginning (own i) (numbered number (moves i))
      (unused i) (length (moves i))
  same_checks (Question question) = asked_same question
