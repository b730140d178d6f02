-- What the desk answers to each request, and what it keeps then.
use Rattle.std.specs.Prelude.{◌≡◌, ◌⊎◌, ◌||◌, ◌&&◌, ℕ, ◌-◌, ◌+◌, ◌==◌, Bool, true, false, List, []}
use Rattle.std.specs.Prelude.{◌∷◌, ◌++◌, length, map, Option, Some, Ok, Err, if◌then◌else◌}
use Rattle.ftd_days.specs.Calendar.{year_of, year_start, quarter_start}
use Rattle.ftd_days.specs.declared.cents.Cents.{Cents}
use Rattle.ftd_machine.specs.declared.entries.Account.{Account}
use Rattle.ftd_machine.specs.declared.entries.Beginning.{Beginning}
use Rattle.ftd_rules.specs.declared.run.PayRun.{PayRun}
use Rattle.ftd_rules.specs.declared.payment.Payment.{Payment}
use Rattle.ftd_rules.specs.declared.run.Voidable.{Voidable}
use Rattle.ftd_machine.specs.State.{State, Enrolled, Entries, Entry, holidays, calendar_at}
use Rattle.ftd_machine.specs.State.{is_given, added_in, entries_of, is_of, has_key, kept_at}
use Rattle.ftd_machine.specs.State.{is_open, changes_of, numbered, Move}
use Rattle.ftd_machine.specs.State.{reported_at, corrections_at}
use Rattle.ftd_machine.specs.History.{HasLookback, LacksFigure}
use Rattle.ftd_machine.specs.Checks.{Answer, first_of, needs, Decides}
use Rattle.ftd_machine.specs.Requests.{enrol_checks, calendar_checks, add_holiday_checks}
use Rattle.ftd_machine.specs.Requests.{report_checks, open_year_checks, correct_total_checks}
use Rattle.ftd_machine.specs.Requests.{post_checks, void_checks, pay_checks, void_payment_checks}
use Rattle.ftd_machine.specs.Requests.{change_holiday_checks, correct_account_checks, is_unused}
use Rattle.ftd_machine.specs.Posting.{IsPosted}
use Rattle.ftd_machine.specs.Questions.{question_checks, Tells}
use Rattle.ftd_machine.specs.declared.replies.Reply.TheVariants as reply
use Rattle.ftd_machine.specs.declared.replies.Refusal.{Refusal}
use Rattle.ftd_machine.specs.declared.replies.Refusal.TheVariants.{YearNotOpen}
use Rattle.ftd_machine.specs.declared.requests.Question.{Question as Questions}
use Rattle.ftd_machine.specs.declared.requests.Request.{Request}
use Rattle.ftd_machine.specs.declared.requests.Request.TheVariants.{Enter, Post, Void, Pay, VoidPay}
use Rattle.ftd_machine.specs.declared.requests.Request.TheVariants.{Correct, Question}
use Rattle.ftd_machine.specs.declared.requests.Entry.TheVariants as entry
use Rattle.ftd_machine.specs.declared.requests.Correction.TheVariants as correction
use Rattle.ftd_machine.specs.declared.entries.ReturnPeriod.{ReturnPeriod}
use Rattle.ftd_machine.specs.declared.entries.ReturnPeriod.TheVariants.{Quarter, Year}

-- an account more, under its name
abbrev pub with_account : List Enrolled → List ℕ → Account → List Enrolled
with_account accounts name account = accounts ++ record { name = name; account = account } ∷ []

-- an entry more of an account, under a key
abbrev pub with_entry : {X : Type 0} → List (Entry X) → List ℕ → ℕ → X → List (Entry X)
with_entry entries name key content =
    entries ++ record { name = name; key = key; content = content } ∷ []

-- the total of a period more, as it was first reported, and a correction more of it
abbrev pub with_total : State → List ℕ → ReturnPeriod → Cents → State
with_total s name (Quarter quarter) cents =
    record s { reported = with_entry s.reported name quarter cents }
with_total s name (Year year) cents =
    record s { reported_years = with_entry s.reported_years name year cents }

abbrev pub with_correction : State → List ℕ → ReturnPeriod → Cents → State
with_correction s name (Quarter quarter) cents =
    record s { corrected = with_entry s.corrected name quarter cents }
with_correction s name (Year year) cents =
    record s { corrected_years = with_entry s.corrected_years name year cents }

-- the first day of a period
abbrev pub first_day_of : ReturnPeriod → ℕ
first_day_of (Quarter quarter) = quarter_start quarter
first_day_of (Year year) = year_start year

-- a run or a payment that is taken, and is live
abbrev pub taken : {X : Type 0} → X → Voidable X
taken value = record { value = value; voided = false }

-- the account's entry under the key is voided, and stays in its place
abbrev pub is_under : {X : Type 0} → List ℕ → ℕ → Entry X → Bool
is_under name key e = is_of name e && has_key key e

abbrev pub as_voided : {X : Type 0} → Voidable X → Voidable X
as_voided v = record { value = v.value; voided = true }

abbrev pub voided_if : {X : Type 0} → List ℕ → ℕ → Entry (Voidable X) → Entry (Voidable X)
voided_if name key e =
    let content = if is_under name key e then as_voided e.content else e.content in
    record { name = e.name; key = e.key; content = content }

abbrev pub with_voided
    : {X : Type 0} → List (Entry (Voidable X)) → List ℕ → ℕ → List (Entry (Voidable X))
with_voided entries name key = map (voided_if name key) entries

-- years are opened one after the other: the first, or one whose year before is open
abbrev pub may_open : Entries → ℕ → List (Option Answer)
may_open own year =
    needs ((length own.open_years == 0) || is_open own (year - 1)) (YearNotOpen (year - 1)) ∷ []

-- a correction more of how an account begins
abbrev pub with_move : List Move → List ℕ → Beginning → List Move
with_move moved name beginning = moved ++ record { name = name; beginning = beginning } ∷ []

module _ (s : State) (answer : Answer) (new : State) where
  -- the first check that answers decides, and if all pass, what stands last
  abbrev pub Checks : List (Option Answer) → Type 0 → Type 0
  Checks checks Else = Decides (first_of checks) s answer new Else

  -- the request is done, and this is kept then
  abbrev pub IsDone : State → Type 0
  IsDone after = (answer ≡ Ok reply.Done) × (new ≡ after)

  -- the request is refused, and nothing changes
  abbrev pub IsRefused : Refusal → Type 0
  IsRefused refusal = (answer ≡ Err refusal) × (new ≡ s)

  -- an account is enrolled
  abbrev pub Enrols : List ℕ → Account → Type 0
  Enrols name account =
      let own = entries_of s name in
      Checks (enrol_checks name account own.enrolled)
      (IsDone (record s { accounts = with_account s.accounts name account }))

  -- the calendar of a year is taken
  abbrev pub Takes : ℕ → List ℕ → Type 0
  Takes year days =
      Checks (calendar_checks year days (calendar_at s year))
      (IsDone (record s { calendars = s.calendars ++ record { year = year; days = days } ∷ [] }))

  -- a holiday is added to a year. The calendar stays as it was given.
  abbrev pub Adds : ℕ → Type 0
  Adds day =
      let year = year_of day in
      Checks (add_holiday_checks day (calendar_at s year) (added_in s year))
      (IsDone (record s { added_days = s.added_days ++ day ∷ [] }))

  -- the total of a quarter or a year is taken
  abbrev pub Reports : List ℕ → ReturnPeriod → Cents → Type 0
  Reports name period cents =
      let own = entries_of s name in
      Checks (report_checks name period cents own.account (reported_at own period))
      (IsDone (with_total s name period cents))

  -- a year is opened: a figure of its lookback period is missing, which is named; or else the year
  -- before has to be opened first, or it is done
  abbrev pub OpensNext : List ℕ → ℕ → Type 0
  OpensNext name year =
      let own = entries_of s name in
      ((refusal : Refusal) × LacksFigure own year refusal × IsRefused refusal)
      ⊎ ((total : Cents) × HasLookback own year total
      × Checks (may_open own year)
      (IsDone (record s { open_years = with_entry s.open_years name year tt })))

  abbrev pub Opens : List ℕ → ℕ → Type 0
  Opens name year =
      let own = entries_of s name in
      let there = is_open own year in
      let next = is_given s (year + 1) in
      Checks (open_year_checks name year own.account there (is_given s year) next)
      (OpensNext name year)

  -- a pay run is taken, and the obligations that differ are told
  abbrev pub Posts : List ℕ → ℕ → PayRun → Type 0
  Posts name number run =
      let own = entries_of s name in
      let there = is_open own (year_of run.payday) in
      let known = kept_at number own.runs in
      Checks (post_checks name number run own.account known there (length own.runs))
      ((new ≡ record s { runs = with_entry s.runs name number (taken run) })
      × IsPosted (holidays s) own (entries_of new name) run.payday answer)

  -- a pay run is voided, and the obligations that differ are told
  abbrev pub Voids : List ℕ → ℕ → Type 0
  Voids name number =
      let own = entries_of s name in
      let known = kept_at number own.runs in
      Checks (void_checks name number own.account known)
      ((run : Voidable PayRun) × (known ≡ Some run)
      × (new ≡ record s { runs = with_voided s.runs name number })
      × IsPosted (holidays s) own (entries_of new name) run.value.payday answer)

  -- a payment is taken
  abbrev pub Pays : List ℕ → ℕ → Payment → Type 0
  Pays name number payment =
      let own = entries_of s name in
      let there = is_open own (year_of payment.for_day) in
      let known = kept_at number own.payments in
      Checks (pay_checks name number payment own.account known there (length own.payments))
      (IsDone (record s { payments = with_entry s.payments name number (taken payment) }))

  -- a payment is voided
  abbrev pub VoidsPayment : List ℕ → ℕ → Type 0
  VoidsPayment name number =
      let own = entries_of s name in
      Checks (void_payment_checks name number own.account (kept_at number own.payments))
      (IsDone (record s { payments = with_voided s.payments name number }))

  -- the total of a quarter or a year is corrected, and the obligations that differ are told
  abbrev pub CorrectsTotal : List ℕ → ReturnPeriod → ℕ → Cents → Type 0
  CorrectsTotal name period number cents =
      let own = entries_of s name in
      let known = corrections_at own period in
      Checks
      (correct_total_checks name period number cents own.account (reported_at own period)
      (numbered number known) (length known))
      ((new ≡ with_correction s name period cents)
      × IsPosted (holidays s) own (entries_of new name) (first_day_of period) answer)

  -- a day is taken back as a holiday, or made one again
  abbrev pub Changes : ℕ → ℕ → Bool → Type 0
  Changes day number is_holiday =
      let year = year_of day in
      let known = changes_of day s.changed_days in
      Checks
      (change_holiday_checks day number is_holiday (calendar_at s year) (added_in s year)
      (numbered number known) (length known))
      (IsDone (record s {
        changed_days = s.changed_days ++ record { day = day; is_holiday = is_holiday } ∷ [];
      }))

  -- an account's first day, and whether it is carried, are put right; its form stays
  abbrev pub Moves : List ℕ → ℕ → Beginning → Type 0
  Moves name number beginning =
      let own = entries_of s name in
      Checks
      (correct_account_checks name number beginning own.account (numbered number own.moves)
      (is_unused own) (length own.moves))
      (IsDone (record s { moved = with_move s.moved name beginning }))

  -- a question is answered, and nothing changes
  abbrev pub Answers : Questions → Type 0
  Answers question = Checks (question_checks s question) ((new ≡ s) × Tells s question answer)

-- the desk that keeps s answers this to the request, and keeps the new state then
abbrev pub Step : State → Request → Answer → State → Type 0
Step s (Enter (entry.Account name account)) answer new = Enrols s answer new name account
Step s (Enter (entry.Calendar year days)) answer new = Takes s answer new year days
Step s (Enter (entry.Holiday day)) answer new = Adds s answer new day
Step s (Enter (entry.Total name period cents)) answer new =
    Reports s answer new name period cents
Step s (Enter (entry.Year name year)) answer new = Opens s answer new name year
Step s (Post name number run) answer new = Posts s answer new name number run
Step s (Void name number) answer new = Voids s answer new name number
Step s (Pay name number payment) answer new = Pays s answer new name number payment
Step s (VoidPay name number) answer new = VoidsPayment s answer new name number
Step s (Correct number (correction.Total name period cents)) answer new =
    CorrectsTotal s answer new name period number cents
Step s (Correct number (correction.Holiday day is_holiday)) answer new =
    Changes s answer new day number is_holiday
Step s (Correct number (correction.Account name beginning)) answer new =
    Moves s answer new name number beginning
Step s (Question question) answer new = Answers s answer new question

-- the same pay run, payment or correction under another number; any other request stays as it is
abbrev pub with_number : Request → ℕ → Request
with_number (Post account known run) number = Post account number run
with_number (Pay account known payment) number = Pay account number payment
with_number (Correct known correction) number = Correct number correction
with_number request number = request
