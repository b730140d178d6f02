-- The due list of a quarter: what is answered, and that it is the machine's answer.
use Rattle.std.proofs.Common.{◌≡◌, ℕ, ◌+◌, ◌≤◌, Bool, true, List, Option, None, Some, Ok, refl, sym}
use Rattle.std.proofs.Common.{ap, ◌∙◌, subst}
use Rattle.std.specs.Prelude.{filter, nat_le}
use Rattle.std.proofs.lemmas.Bool.{leb-true, and_parts}
use Rattle.std.specs.List.{list_any}
use Rattle.ftd_days.specs.Calendar.{quarter_year}
use Rattle.ftd_days.specs.Holidays.{YearDays, holidays_of}
use Rattle.ftd_rules.specs.declared.Obligation.{Obligation}
use Rattle.ftd_rules.specs.declared.Form.{Form}
use Rattle.ftd_rules.specs.declared.verdict.DueRow.{DueRow}
use Rattle.ftd_sql.specs.Standing.{Tables}
use Rattle.ftd_store.specs.Lists.{Pairs}
use Rattle.ftd_store.specs.Holidays.{HasYears}
use Rattle.ftd_machine.specs.declared.entries.Account.{Account}
use Rattle.ftd_machine.specs.declared.requests.Question.TheVariants.{DueList}
use Rattle.ftd_machine.specs.declared.requests.Request.TheVariants.{Question}
use Rattle.ftd_machine.specs.Told.{due_answer}
use Rattle.ftd_machine.specs.Checks.{Answer, first_of}
use Rattle.ftd_machine.specs.Asking.{return_period, has_next_day}
use Rattle.ftd_machine.specs.History.{form_of}
use Rattle.ftd_machine.specs.Limits.{is_between}
use Rattle.ftd_machine.specs.Requests.{due_list_checks}
use Rattle.ftd_machine.specs.Sound.{IsSound}
use Rattle.ftd_machine.specs.State.{State, entries_of, is_open}
use Rattle.ftd_machine.specs.Step.{Step}
use Rattle.ftd_machine.proofs.Deciding.{decided, passed}
use Rattle.ftd_machine.proofs.Heads.{Gives, gives_needs, skip_needs}
use Rattle.ftd_entries.specs.Standing.{StandsFor}
use Rattle.ftd_entries.specs.Owed.{KnowsObligations}
use Rattle.ftd_entries.specs.Returns.{KnowsPeriod}
use Rattle.ftd_questions.specs.DueRows.{begins_in, is_next_day_row, IsReturnBy, IsRowBy}
use Rattle.ftd_questions.specs.DueRows.{KnowsForDue, KnowsDueList}
use Rattle.ftd_questions.specs.Telling.{Passes, KnowsAsked, KnowsRows}
use Rattle.ftd_questions.specs.Walks.{KnowsNextDayOfReturn}
use Rattle.ftd_questions.specs.declared.asking.KnownReturn.{KnownReturn}
use Rattle.ftd_entries.specs.declared.return_periods.ReturnFacts.{ReturnFacts}
use Rattle.ftd_questions.specs.declared.due_rows.QuarterReturn.{QuarterReturn}
use Rattle.ftd_questions.specs.declared.due.KnownForDue.{KnownForDue}
use Rattle.ftd_questions.proofs.DueListed.{due_listed}
use Rattle.ftd_questions.proofs.FoundRows.{next_day_found, found_begun}

-- the rows by what was read are the due list of each sound state
pub due_known : (name : List ℕ) (form : Form) (quarter as_of : ℕ) (given : List YearDays)
    (period : ReturnFacts) (next_day : Bool) (found : List Obligation) (of_return : QuarterReturn)
    (rows : List DueRow) → 2001 ≤ quarter_year quarter → quarter_year quarter ≤ 2098
    → IsReturnBy form quarter next_day period given of_return
    → next_day ≡ list_any is_next_day_row found → Pairs (IsRowBy of_return as_of)
    (filter (begins_in quarter) found) rows
    → (t : Tables) → HasYears (quarter_year quarter) (quarter_year quarter + 1)
    (holidays_of given) t → KnowsPeriod name form quarter period t
    → KnowsObligations name period.first period.last found t
    → KnowsDueList name form quarter as_of rows t
due_known name form quarter as_of given period next_day found of_return rows from to is_return
    is_next are_rows t years known are_found s stands sound form_is =
    let known_so = subst (λ f. KnowsPeriod name f quarter period t) (sym form_is) known in
    due_listed name quarter as_of given period next_day of_return rows from to t s stands sound
    (subst (λ f. IsReturnBy f quarter next_day period given of_return) (sym form_is) is_return)
    (is_next ∙ next_day_found name quarter to period found t s stands known_so are_found)
    (subst (λ (os : List Obligation). Pairs (IsRowBy of_return as_of) os rows)
    (found_begun name quarter to period found t s stands known_so are_found) are_rows) years
    known_so

-- so are those told row by row
pub rows_known : (name : List ℕ) (quarter as_of : ℕ) (read : KnownReturn) (next_day : Bool)
    (of_return : QuarterReturn) → 2001 ≤ quarter_year quarter → quarter_year quarter ≤ 2098
    → IsReturnBy read.form quarter next_day read.period read.holidays of_return → (t : Tables)
    → KnowsAsked name quarter as_of (Ok read) t → KnowsNextDayOfReturn name read.form quarter
    next_day t → KnowsRows name quarter as_of of_return t
rows_known name quarter as_of read next_day of_return from to is_return t knows is_next s stands
    sound rows are_rows =
    let asked = knows.1 s stands in
    let form_is = asked.1 in
    passed _ s (due_answer name quarter as_of rows) s _ asked.0 (
      refl,
      due_listed name quarter as_of read.holidays read.period next_day of_return rows from to t s
          stands sound
          (subst (λ f. IsReturnBy f quarter next_day read.period read.holidays of_return)
          (sym form_is) is_return)
          (subst (λ f. next_day ≡ has_next_day f (stands.settled name).owed
          (return_period f quarter)) (sym form_is) (is_next s stands)) are_rows knows.0.holidays
          (subst (λ f. KnowsPeriod name f quarter read.period t) (sym form_is) knows.0.period),
    )

module _ (name : List ℕ) (quarter as_of : ℕ) (known : KnownForDue) where
  abbrev pub checks : Option Answer
  checks = first_of (due_list_checks name quarter as_of known.account known.is_open)

  checks_are : (t : Tables) (s : State) → StandsFor t s → KnowsForDue name quarter known t
      → first_of (due_list_checks name quarter as_of (entries_of s name).account
      (is_open (entries_of s name) (quarter_year quarter))) ≡ checks
  checks_are t s stands knows =
      ap (λ a. first_of
      (due_list_checks name quarter as_of a (is_open (entries_of s name) (quarter_year quarter))))
      (knows.account s stands)
      ∙ ap (λ b. first_of (due_list_checks name quarter as_of known.account b))
      (knows.is_open s stands)

  -- a check decides
  pub due_refused : (answer : Answer) → checks ≡ Some answer → (t : Tables) (s : State)
      → StandsFor t s → KnowsForDue name quarter known t
      → Step s (Question (DueList name quarter as_of)) answer s
  due_refused answer is t s stands knows = decided _ s answer _ (checks_are t s stands knows ∙ is)

  pub due_decided : (answer : Answer) → checks ≡ Some answer → (t : Tables) (s : State)
      → StandsFor t s → IsSound s → KnowsForDue name quarter known t
      → Step s (Question (DueList name quarter as_of)) answer s
  due_decided answer is t s stands sound knows = due_refused answer is t s stands knows

  -- no check does
  pub due_passes : (form : Form) → checks ≡ None → form_of known.account ≡ form → (t : Tables)
      → KnowsForDue name quarter known t → (s : State) → StandsFor t s
      → Passes s name quarter as_of × (form_of (entries_of s name).account ≡ form)
  due_passes form is of t knows s stands = (
    checks_are t s stands knows ∙ is,
    ap form_of (knows.account s stands) ∙ of,
  )

  -- all checks pass
  pub in_years : checks ≡ None → (2001 ≤ quarter_year quarter) × (quarter_year quarter ≤ 2098)
  in_years is =
      let within : Gives (due_list_checks name quarter as_of known.account known.is_open)
      (is_between 2001 2098 (quarter_year quarter) ≡ true) =
      skip_needs _ _ _ _ (gives_needs _ _ _) in
      let parts = and_parts (nat_le 2001 (quarter_year quarter))
      (nat_le (quarter_year quarter) 2098)
      (within.fact is) in
      (leb-true 2001 (quarter_year quarter) parts.0, leb-true (quarter_year quarter) 2098 parts.1)

  pub due_told : (account : Account) (rows : List DueRow) → known.account ≡ Some account
      → checks ≡ None
      → (t : Tables) (s : State) → StandsFor t s → IsSound s → KnowsForDue name quarter known t
      × KnowsDueList name account.form quarter as_of rows t
      → Step s (Question (DueList name quarter as_of))
      (due_answer name quarter as_of rows) s
  due_told account rows is_account is t s stands sound knows =
      passed _ s (due_answer name quarter as_of rows) s _ (checks_are t s stands knows.0 ∙ is)
      (refl, knows.1 s stands sound (ap form_of (knows.0.account s stands ∙ is_account)))
