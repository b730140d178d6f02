-- The runs that a reached desk tells are read again from their CSV.
use Rattle.std.proofs.Common.{◌≡◌, ◌⊎◌, refl, subst, ℕ, ◌≤◌, Bool, true, false, inl, inr}
use Rattle.std.proofs.Common.{List, [], ◌∷◌, Option, None, Some, Ok, arith}
use Rattle.std.specs.Prelude.{nat_le}
use Rattle.std.proofs.lemmas.Bool.{leb-true, and_parts}
use Rattle.ftd_days.specs.Calendar.{year_of, quarter_year}
use Rattle.ftd_days.proofs.Months.{day_in_years}
use Rattle.ftd_rules.specs.declared.run.PayRun.{PayRun}
use Rattle.ftd_rules.specs.declared.run.Voidable.{Voidable}
use Rattle.ftd_rules.specs.Accounts.{is_account_name}
use Rattle.ftd_rules.specs.Lists.{Has}
use Rattle.ftd_machine.specs.Checks.{Answer, first_of, needs, finds}
use Rattle.ftd_machine.specs.Kept.{AreRuns, IsRunIn}
use Rattle.ftd_machine.specs.Told.{kept_answer}
use Rattle.ftd_machine.specs.Limits.{are_amounts, is_between, is_number}
use Rattle.ftd_machine.specs.Requests.{kept_in_quarter_checks}
use Rattle.ftd_machine.specs.Runs.{IsReached}
use Rattle.ftd_machine.specs.Sound.{IsSound}
use Rattle.ftd_machine.specs.State.{State, Entry, entries_of, is_open, kept_at}
use Rattle.ftd_machine.specs.Step.{Step}
use Rattle.ftd_machine.specs.declared.entries.Account.{Account}
use Rattle.ftd_machine.specs.declared.kept.KeptRows.TheVariants as rows
use Rattle.ftd_machine.specs.declared.kept.KeptRun.{KeptRun}
use Rattle.ftd_machine.specs.declared.replies.Refusal.TheVariants.{BadName, BadYear, UnknownAccount}
use Rattle.ftd_machine.specs.declared.replies.Reply.{Reply}
use Rattle.ftd_machine.specs.declared.facts.Facts.TheVariants as facts
use Rattle.ftd_machine.specs.declared.replies.Reply.TheVariants as reply
use Rattle.ftd_machine.specs.declared.requests.KeptList.TheVariants as kept
use Rattle.ftd_machine.specs.declared.requests.Question.TheVariants as question
use Rattle.ftd_machine.specs.declared.requests.Request.TheVariants.{Question}
use Rattle.ftd_machine.proofs.Deciding.{either}
use Rattle.ftd_machine.proofs.Entered.{of_kept}
use Rattle.ftd_machine.proofs.Members.{some_of}
use Rattle.ftd_machine.proofs.Soundness.{reached_sound}
use Rattle.ftd_imports.specs.Exports.{IsPosted}

-- the checks answer no reply, and where they pass the name is one of an account
no_reply : (name year : Bool) (account : Option Account) (told : Reply)
    → first_of (needs name BadName ∷ needs year BadYear ∷ finds account UnknownAccount ∷ [])
    ≡ Some (Ok told) → ⊥
no_reply true true (Some account) told e = absurd cc
no_reply true true None told e = absurd cc
no_reply true false account told e = absurd cc
no_reply false year account told e = absurd cc

named : (name year : Bool) (account : Option Account)
    → first_of (needs name BadName ∷ needs year BadYear ∷ finds account UnknownAccount ∷ []) ≡ None
    → name ≡ true
named true year account e = refl
named false year account e = absurd cc

same_runs : (name : List ℕ) (quarter : ℕ) (a b : List KeptRun)
    → kept_answer (rows.Runs name quarter a) ≡ kept_answer (rows.Runs name quarter b) → a ≡ b
same_runs name quarter a b e = cc

module _ (s : State) (account : List ℕ) (quarter : ℕ) (listed : List KeptRun) (next : State)
    (reached : IsReached s)
    (step : Step s (Question (question.Kept (kept.Runs account quarter)))
    (kept_answer (rows.Runs account quarter listed)) next) where
  abbrev checks : Option Answer
  checks = first_of (kept_in_quarter_checks account quarter (entries_of s account).account)

  abbrev answer : Answer
  answer = kept_answer (rows.Runs account quarter listed)

  abbrev Told : Type 0
  Told = (next ≡ s) × AreRuns (entries_of s account) account quarter answer

  told : (is_account_name account ≡ true)
      × ((x : KeptRun) → Has listed x → IsRunIn (entries_of s account) quarter x)
  told =
      let found : ((checks ≡ Some answer) × (next ≡ s)) ⊎ ((checks ≡ None) × Told) =
      either checks s answer next Told step in
      elim found [
        | inl refused ↦ absurd (no_reply (is_account_name account)
            (is_between 2001 2098 (quarter_year quarter)) (entries_of s account).account
            (reply.Told (facts.Kept (rows.Runs account quarter listed))) refused.0)
        | inr passed ↦ (
          named (is_account_name account) (is_between 2001 2098 (quarter_year quarter))
              (entries_of s account).account passed.0,
          λ x has. (passed.1.1.all x).0
              (subst (λ (xs : List KeptRun). Has xs x)
              (same_runs account quarter listed passed.1.1.listed passed.1.1.told) has),
        )
      ]

  pub is_name : is_account_name account ≡ true
  is_name = told.0

  sound : IsSound s
  sound = reached_sound s reached

  early : (year : ℕ) → is_open (entries_of s account) year ≡ true → year ≤ 2098
  early year e =
      let some = some_of (kept_at year (entries_of s account).open_years) e in
      let found = of_kept account s.open_years sound.open_years year some.0 some.1 in
      let between = (and_parts (nat_le 2001 found.0.key) (nat_le found.0.key 2098)
      (sound.opened found.0 found.1).0).1 in
      let last = leb-true found.0.key 2098 between in
      let key = found.3 in
      omega (arith, last, key)

  -- each is in the limits of a run that was posted
  pub posted : (x : KeptRun) → Has listed x → IsPosted x
  posted x has =
      let is = told.1 x has in
      let content : Voidable PayRun = record { value = x.run; voided = x.voided } in
      let found = of_kept account s.runs sound.runs x.number content is.0 in
      let e : Entry (Voidable PayRun) = found.0 in
      let own_year = subst (λ n. is_open (entries_of s n) (year_of e.content.value.payday) ≡ true)
      found.2 (sound.paydays e found.1) in
      let year = early (year_of x.run.payday)
      (subst
      (λ (v : Voidable PayRun). is_open (entries_of s account) (year_of v.value.payday) ≡ true)
      found.4 own_year) in
      record {
        number = subst (λ n. is_number n ≡ true) found.3 (sound.run_numbers e found.1);
        payday = day_in_years x.run.payday (omega (arith, year));
        amounts = subst (λ (v : Voidable PayRun). are_amounts v.value ≡ true) found.4
            (sound.run_amounts e found.1);
      }
