-- Each request has an answer, where each account has lines.
use Rattle.std.proofs.Common.{◌≡◌, inl, inr, refl, ℕ, true, List, Option, None, Some, Ok, Err, rules}
use Rattle.std.specs.Prelude.{is_some}
use Rattle.ftd_days.specs.Calendar.{year_start, quarter_start}
use Rattle.ftd_rules.specs.declared.run.PayRun.{PayRun}
use Rattle.ftd_rules.specs.declared.run.Voidable.{Voidable}
use Rattle.ftd_rules.specs.declared.YearLine.{YearLine}
use Rattle.ftd_machine.specs.declared.entries.Account.{Account}
use Rattle.ftd_machine.specs.State.{State, entries_of, holidays, kept_at}
use Rattle.ftd_machine.specs.History.{form_of, AreLinesOf}
use Rattle.ftd_machine.specs.Requests.{void_checks}
use Rattle.ftd_machine.specs.Checks.{Answer, first_of, Decides}
use Rattle.ftd_machine.specs.Posting.{IsPosted}
use Rattle.ftd_machine.specs.Questions.{Tells}
use Rattle.ftd_machine.specs.Step.{Step, OpensNext, may_open, with_entry, with_voided, taken}
use Rattle.ftd_machine.specs.declared.replies.Reply.TheVariants.{Done}
use Rattle.ftd_machine.specs.declared.requests.Request.{Request}
use Rattle.ftd_machine.specs.declared.requests.Request.TheVariants.{Enter, Post, Void, Pay, VoidPay}
use Rattle.ftd_machine.specs.declared.requests.Request.TheVariants.{Correct, Question}
use Rattle.ftd_machine.specs.declared.requests.Entry.TheVariants as entry
use Rattle.ftd_machine.specs.declared.requests.Correction.TheVariants as correction
use Rattle.ftd_machine.specs.declared.entries.ReturnPeriod.TheVariants.{Quarter, Year}
use Rattle.ftd_machine.specs.Sound.{IsSound}
use Rattle.ftd_machine.proofs.Members.{some_of}
use Rattle.ftd_machine.proofs.Heads.{Gives, heads}
use Rattle.ftd_machine.proofs.Lined.{lines_of_sound, lines_after, lines_again}
use Rattle.ftd_machine.proofs.PostedSome.{told_some}
use Rattle.ftd_machine.proofs.SameAnswers.{tells_some}
use Rattle.ftd_machine.proofs.ToldSome.{total_or}
use Rattle.ftd_machine.proofs.Single.{IsOnce}
use Rattle.ftd_machine.proofs.Soundness.{sound_once}

module _ (s : State) where
  -- the checks decide, or there is an answer where they pass
  decides : (check : Option Answer) (Else : Answer → State → Type 0)
      → (check ≡ None → (a : Answer) × (n : State) × Else a n)
      → (a : Answer) × (n : State) × Decides check s a n (Else a n)
  decides (Some given) Else f = (given, s, (refl, refl))
  decides None Else f = f refl

  done : (check : Option Answer) (after : State)
      → (a : Answer) × (n : State) × Decides check s a n ((a ≡ Ok Done) × (n ≡ after))
  done check after = decides check (λ a n. (a ≡ Ok Done) × (n ≡ after))
      (λ e. (Ok Done, after, (refl, refl)))

  -- or it is told how the obligations differ
  posts : (check : Option Answer) (name : List ℕ) (after : State) (first : ℕ)
      (lines : (xs : List YearLine) × AreLinesOf (entries_of s name) xs)
      (others : (xs : List YearLine) × AreLinesOf (entries_of after name) xs)
      → (a : Answer) × (n : State) × Decides check s a n
      ((n ≡ after) × IsPosted (holidays s) (entries_of s name) (entries_of n name) first a)
  posts check name after first lines others = decides check (λ a n. (n ≡ after)
      × IsPosted (holidays s) (entries_of s name) (entries_of n name) first a) (λ e.
      let told = told_some (holidays s) (entries_of s name) (entries_of after name) first lines.0
      others.0 lines.1 others.1 in
      (told.0, after, (refl, told.1)))

known_of_void : (name : List ℕ) (number : ℕ) (account : Option Account)
    (known : Option (Voidable PayRun))
    → first_of (void_checks name number account known) ≡ None → is_some known ≡ true
known_of_void name number account known e =
    let gives : Gives (void_checks name number account known) (is_some known ≡ true) =
    search heads depth 12 in
    gives.fact e

-- where each account has lines, each request has an answer and a next state
lines_answer : (s : State) (request : Request)
    → ((name : List ℕ) → IsOnce (entries_of s name))
    → ((name : List ℕ) → (lines : List YearLine) × AreLinesOf (entries_of s name) lines)
    → (answer : Answer) × (next : State) × Step s request answer next
lines_answer s (Enter (entry.Account name account)) once lines = done s _ _
lines_answer s (Enter (entry.Calendar year days)) once lines = done s _ _
lines_answer s (Enter (entry.Holiday day)) once lines = done s _ _
lines_answer s (Enter (entry.Total name (Quarter quarter) cents)) once lines = done s _ _
lines_answer s (Enter (entry.Total name (Year year) cents)) once lines = done s _ _
lines_answer s (Enter (entry.Year name year)) once lines =
    let own = entries_of s name in
    decides s _ (λ a n. OpensNext s a n name year)
    (λ e. elim (total_or (form_of own.account) own year) [
      | inl gap ↦ (Err gap.0, s, inl (gap.0, gap.1, (refl, refl)))
      | inr total ↦ (let d = done s (first_of (may_open own year))
          (record s { open_years = with_entry s.open_years name year tt }) in
          (d.0, d.1, inr (total.0, total.1, d.2)))
    ])
lines_answer s (Post name number run) once lines =
    let after = record s { runs = with_entry s.runs name number (taken run) } in
    posts s _ name after run.payday (lines name) (lines_after (entries_of s name)
    (entries_of after name) (lines name).0 (search rules) (lines name).1)
lines_answer s (Void name number) once lines =
    let own = entries_of s name in
    let known = kept_at number own.runs in
    let after = record s { runs = with_voided s.runs name number } in
    let others = lines_after own (entries_of after name) (lines name).0 (search rules)
    (lines name).1 in
    decides s _ (λ a n. (run : Voidable PayRun) × (known ≡ Some run) × (n ≡ after)
    × IsPosted (holidays s) own (entries_of n name) run.value.payday a) (λ e.
    (let run = some_of known (known_of_void name number own.account known e) in
    let p = told_some (holidays s) own (entries_of after name) run.0.value.payday (lines name).0
    others.0 (lines name).1 others.1 in
    (p.0, after, (run.0, run.1, refl, p.1))))
lines_answer s (Pay name number payment) once lines = done s _ _
lines_answer s (VoidPay name number) once lines = done s _ _
lines_answer s (Correct number (correction.Total name (Quarter quarter) cents)) once lines =
    let after = record s { corrected = with_entry s.corrected name quarter cents } in
    posts s _ name after (quarter_start quarter) (lines name) (lines_again (entries_of s name)
    (entries_of after name) (lines name).0 (search rules) (lines name).1)
lines_answer s (Correct number (correction.Total name (Year year) cents)) once lines =
    let after = record s { corrected_years = with_entry s.corrected_years name year cents } in
    posts s _ name after (year_start year) (lines name) (lines_again (entries_of s name)
    (entries_of after name) (lines name).0 (search rules) (lines name).1)
lines_answer s (Correct number (correction.Holiday day is_holiday)) once lines = done s _ _
lines_answer s (Correct number (correction.Account name beginning)) once lines = done s _ _
lines_answer s (Question question) once lines =
    decides s _ (λ a n. (n ≡ s) × Tells s question a) (λ e.
    (let p = tells_some s question once lines e in (p.0, s, (refl, p.1))))

-- in each sound state, each request has an answer and a next state
pub each_request_is_answered : (s : State) (request : Request) → IsSound s
    → (answer : Answer) × (next : State) × Step s request answer next
each_request_is_answered s request sound =
    lines_answer s request (sound_once s sound) (λ name. lines_of_sound s name sound)
