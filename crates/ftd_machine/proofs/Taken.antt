-- A request whose checks pass is done, and so is each of a list of them.
use Rattle.std.proofs.Common.{◌≡◌, ◌∙◌, inl, inr, refl, sym, ap, subst, ℕ, ◌+◌, List, [], ◌∷◌, ◌++◌}
use Rattle.std.proofs.Common.{Option, None, Some, Ok, map, length, arith, append-nil, append_assoc}
use Rattle.std.proofs.Common.{length-append, true}
use Rattle.std.specs.Prelude.{flat_map}
use Rattle.std.proofs.lemmas.List.Concat.{flat_map_single}
use Rattle.ftd_days.specs.declared.cents.Cents.{Cents}
use Rattle.ftd_machine.specs.State.{State, Entries, entries_of, reported_at, corrections_at}
use Rattle.ftd_machine.specs.State.{numbered}
use Rattle.ftd_machine.specs.History.{HasLookback}
use Rattle.ftd_machine.specs.Checks.{Answer, first_of, Decides}
use Rattle.ftd_machine.specs.Requests.{report_checks, correct_total_checks}
use Rattle.ftd_machine.specs.Posting.{IsPosted}
use Rattle.ftd_machine.specs.Laws.{is_change}
use Rattle.ftd_machine.specs.Journal.{AreChanges, corrections_from, corrections}
use Rattle.ftd_machine.specs.Step.{Step, may_open, with_entry, with_voided, with_account, with_move}
use Rattle.ftd_machine.specs.Step.{taken, with_total, with_correction}
use Rattle.ftd_machine.specs.Sound.{IsSound}
use Rattle.ftd_machine.specs.Runs.{IsRun}
use Rattle.ftd_machine.specs.declared.replies.Reply.TheVariants.{Done}
use Rattle.ftd_machine.specs.declared.requests.Request.{Request}
use Rattle.ftd_machine.specs.declared.requests.Request.TheVariants.{Enter, Post, Void, Pay, VoidPay}
use Rattle.ftd_machine.specs.declared.requests.Request.TheVariants.{Correct, Question}
use Rattle.ftd_machine.specs.declared.requests.Entry.TheVariants as entry
use Rattle.ftd_machine.specs.declared.requests.Correction.{Correction}
use Rattle.ftd_machine.specs.declared.requests.Correction.TheVariants as correction
use Rattle.ftd_machine.proofs.Deciding.{passed}
use Rattle.ftd_machine.proofs.Repeats.{checks_of}
use Rattle.ftd_machine.proofs.Soundness.{step_sound}
use Rattle.ftd_machine.proofs.AnswerSome.{each_request_is_answered}

-- what is kept where a request is done
abbrev pub state_after : Request → State → State
state_after (Enter (entry.Account name account)) s =
    record s { accounts = with_account s.accounts name account }
state_after (Enter (entry.Calendar year days)) s =
    record s { calendars = s.calendars ++ record { year = year; days = days } ∷ [] }
state_after (Enter (entry.Holiday day)) s = record s { added_days = s.added_days ++ day ∷ [] }
state_after (Enter (entry.Total name period cents)) s = with_total s name period cents
state_after (Enter (entry.Year name year)) s =
    record s { open_years = with_entry s.open_years name year tt }
state_after (Post name number run) s =
    record s { runs = with_entry s.runs name number (taken run) }
state_after (Void name number) s = record s { runs = with_voided s.runs name number }
state_after (Pay name number payment) s =
    record s { payments = with_entry s.payments name number (taken payment) }
state_after (VoidPay name number) s = record s { payments = with_voided s.payments name number }
state_after (Correct number (correction.Total name period cents)) s =
    with_correction s name period cents
state_after (Correct number (correction.Holiday day is_holiday)) s = record s {
  changed_days = s.changed_days ++ record { day = day; is_holiday = is_holiday } ∷ [];
}
state_after (Correct number (correction.Account name beginning)) s =
    record s { moved = with_move s.moved name beginning }
state_after (Question question) s = s

-- the checks of a request, which changes something, pass
abbrev pub Passes : State → Request → Type 0
Passes s (Enter (entry.Account name account)) =
    first_of (checks_of s (Enter (entry.Account name account))) ≡ None
Passes s (Enter (entry.Calendar year days)) =
    first_of (checks_of s (Enter (entry.Calendar year days))) ≡ None
Passes s (Enter (entry.Holiday day)) = first_of (checks_of s (Enter (entry.Holiday day))) ≡ None
Passes s (Enter (entry.Total name period cents)) =
    let own = entries_of s name in
    first_of (report_checks name period cents own.account (reported_at own period)) ≡ None
Passes s (Enter (entry.Year name year)) =
    let own = entries_of s name in
    (first_of (checks_of s (Enter (entry.Year name year))) ≡ None)
    × ((total : Cents) × HasLookback own year total) × (first_of (may_open own year) ≡ None)
Passes s (Post name number run) = first_of (checks_of s (Post name number run)) ≡ None
Passes s (Void name number) = first_of (checks_of s (Void name number)) ≡ None
Passes s (Pay name number payment) = first_of (checks_of s (Pay name number payment)) ≡ None
Passes s (VoidPay name number) = first_of (checks_of s (VoidPay name number)) ≡ None
Passes s (Correct number (correction.Total name period cents)) =
    let own = entries_of s name in
    let known = corrections_at own period in
    first_of (correct_total_checks name period number cents own.account (reported_at own period)
    (numbered number known) (length known)) ≡ None
Passes s (Correct number (correction.Holiday day is_holiday)) =
    first_of (checks_of s (Correct number (correction.Holiday day is_holiday))) ≡ None
Passes s (Correct number (correction.Account name beginning)) =
    first_of (checks_of s (Correct number (correction.Account name beginning))) ≡ None
Passes s (Question question) = ⊥

abbrev IsTaken : State → Request → Type 0
IsTaken s request =
    (answer : Answer) × Step s request answer (state_after request s) × (is_change answer ≡ true)

-- where the checks pass, what stands last
else_is : (check : Option Answer) (s : State) (answer : Answer) (new : State) (Else : Type 0)
    → check ≡ None → Decides check s answer new Else → Else
else_is (Some given) s answer new Else e d = absurd cc
else_is None s answer new Else e d = d

-- it is told how the obligations differ
posted : (holidays : List ℕ) (own after : Entries) (first : ℕ) (answer : Answer)
    → IsPosted holidays own after first answer → is_change answer ≡ true
posted holidays own after first answer p = ap is_change p.told

module _ (s : State) (sound : IsSound s) where
  -- a request that tells of obligations has an answer
  is_taken : (request : Request) → Passes s request → IsTaken s request
  is_taken (Enter (entry.Account name account)) e =
      (Ok Done, passed _ s (Ok Done) _ _ e (refl, refl), refl)
  is_taken (Enter (entry.Calendar year days)) e =
      (Ok Done, passed _ s (Ok Done) _ _ e (refl, refl), refl)
  is_taken (Enter (entry.Holiday day)) e =
      (Ok Done, passed _ s (Ok Done) _ _ e (refl, refl), refl)
  is_taken (Enter (entry.Total name period cents)) e =
      (Ok Done, passed _ s (Ok Done) _ _ e (refl, refl), refl)
  is_taken (Enter (entry.Year name year)) e = (
    Ok Done,
    passed _ s (Ok Done) _ _ e.0
        (inr (e.1.0, e.1.1, passed _ s (Ok Done) _ _ e.2 (refl, refl))),
    refl,
  )
  is_taken (Post name number run) e =
      let a = each_request_is_answered s (Post name number run) sound in
      let d = else_is _ s a.0 a.1 _ e a.2 in
      (a.0, subst (λ n. Step s (Post name number run) a.0 n) d.0 a.2, posted _ _ _ _ a.0 d.1)
  is_taken (Void name number) e =
      let a = each_request_is_answered s (Void name number) sound in
      let d = else_is _ s a.0 a.1 _ e a.2 in
      (a.0, subst (λ n. Step s (Void name number) a.0 n) d.2 a.2, posted _ _ _ _ a.0 d.3)
  is_taken (Pay name number payment) e =
      (Ok Done, passed _ s (Ok Done) _ _ e (refl, refl), refl)
  is_taken (VoidPay name number) e = (Ok Done, passed _ s (Ok Done) _ _ e (refl, refl), refl)
  is_taken (Correct number (correction.Total name period cents)) e =
      let request = Correct number (correction.Total name period cents) in
      let a = each_request_is_answered s request sound in
      let d = else_is _ s a.0 a.1 _ e a.2 in
      (a.0, subst (λ n. Step s request a.0 n) d.0 a.2, posted _ _ _ _ a.0 d.1)
  is_taken (Correct number (correction.Holiday day is_holiday)) e =
      (Ok Done, passed _ s (Ok Done) _ _ e (refl, refl), refl)
  is_taken (Correct number (correction.Account name beginning)) e =
      (Ok Done, passed _ s (Ok Done) _ _ e (refl, refl), refl)
  is_taken (Question question) e = absurd e

-- ---- one after the other

abbrev pub after_all : List Request → State → State
after_all [] s = s
after_all (request ∷ requests) s = after_all requests (state_after request s)

abbrev pub PassAll : List Request → State → Type 0
PassAll [] s = Unit {0}
PassAll (request ∷ requests) s = Passes s request × PassAll requests (state_after request s)

-- where the checks of each pass in its turn, each is done, and this is kept at the end
all_taken : (requests : List Request) (s : State) → IsSound s → PassAll requests s
    → (answers : List Answer) × IsRun s requests answers (after_all requests s)
    × AreChanges answers
all_taken [] s sound pass = ([], refl, (λ answer has. absurd has))
all_taken (request ∷ requests) s sound pass =
    let first = is_taken s sound request pass.0 in
    let next = state_after request s in
    let rest = all_taken requests next (step_sound s request first.0 next first.1 sound) pass.1 in (
      first.0 ∷ rest.0,
      (next, inl first.1, rest.1),
      (λ answer has. elim has [
        | inl is ↦ ap is_change is ∙ first.2
        | inr later ↦ rest.2 answer later
      ]),
    )

-- a list whose requests pass, and what is kept after it
pub record Leads (requests : List Request) (s end : State) : Type 0 where
  pub pass : PassAll requests s
  pub ends : after_all requests s ≡ end

-- so it is a run, each of whose requests is done
pub is_run : (requests : List Request) (s end : State) → IsSound s → Leads requests s end
    → (answers : List Answer) × IsRun s requests answers end × AreChanges answers
is_run requests s end sound leads =
    let a = all_taken requests s sound leads.pass in
    (a.0, subst (IsRun s requests a.0) leads.ends a.1, a.2)

after_append : (xs ys : List Request) (s : State)
    → after_all (xs ++ ys) s ≡ after_all ys (after_all xs s)
after_append [] ys s = refl
after_append (x ∷ xs) ys s = after_append xs ys (state_after x s)

pass_append : (xs ys : List Request) (s : State) → PassAll xs s → PassAll ys (after_all xs s)
    → PassAll (xs ++ ys) s
pass_append [] ys s a b = b
pass_append (x ∷ xs) ys s a b = (a.0, pass_append xs ys (state_after x s) a.1 b)

pub leads_append : (xs ys : List Request) (s t u : State) → Leads xs s t → Leads ys t u
    → Leads (xs ++ ys) s u
leads_append xs ys s t u a b = record {
  pass = pass_append xs ys s a.pass (subst (PassAll ys) (sym a.ends) b.pass);
  ends = after_append xs ys s ∙ ap (after_all ys) a.ends ∙ b.ends;
}

-- ---- along a list, of which more and more is put into the state

module _ {X : Type 0} (ask : X → List Request) (put : List X → State) (all : List X)
    (one : (xs : List X) (x : X) (rest : List X) → all ≡ xs ++ x ∷ rest
    → Leads (ask x) (put xs) (put (xs ++ x ∷ []))) where
  rest_leads : (xs rest : List X) → all ≡ xs ++ rest → Leads (flat_map ask rest) (put xs) (put all)
  rest_leads xs [] is = record { pass = tt; ends = ap put (sym (is ∙ append-nil xs)) }
  rest_leads xs (x ∷ rest) is =
      leads_append (ask x) (flat_map ask rest) (put xs) (put (xs ++ x ∷ [])) (put all)
      (one xs x rest is)
      (rest_leads (xs ++ x ∷ []) rest (is ∙ sym (append_assoc xs (x ∷ []) rest)))

  pub all_lead : Leads (flat_map ask all) (put []) (put all)
  all_lead = rest_leads [] all refl

-- each by one request
pub each_leads : {X : Type 0} (ask : X → Request) (put : List X → State) (all : List X)
    → ((xs : List X) (x : X) (rest : List X) → all ≡ xs ++ x ∷ rest
    → Leads (ask x ∷ []) (put xs) (put (xs ++ x ∷ [])))
    → Leads (map ask all) (put []) (put all)
each_leads ask put all one =
    subst (λ rs. Leads rs (put []) (put all)) (flat_map_single ask all)
    (all_lead (λ x. ask x ∷ []) put all one)

-- corrections, each under the next number
module _ {X : Type 0} (of : X → Correction) (put : List X → State) (all : List X)
    (one : (xs : List X) (x : X) (rest : List X) → all ≡ xs ++ x ∷ rest
    → Leads (Correct (length xs + 1) (of x) ∷ []) (put xs) (put (xs ++ x ∷ []))) where
  more_lead : (number : ℕ) (xs rest : List X) → number ≡ length xs + 1 → all ≡ xs ++ rest
      → Leads (corrections_from number of rest) (put xs) (put all)
  more_lead number xs [] next is =
      record { pass = tt; ends = ap put (sym (is ∙ append-nil xs)) }
  more_lead number xs (x ∷ rest) next is =
      let longer : length (xs ++ x ∷ []) ≡ length xs + 1 = length-append xs (x ∷ []) in
      let after : number + 1 ≡ length (xs ++ x ∷ []) + 1 = omega arith in
      leads_append (Correct number (of x) ∷ []) (corrections_from (number + 1) of rest) (put xs)
      (put (xs ++ x ∷ [])) (put all)
      (subst (λ n. Leads (Correct n (of x) ∷ []) (put xs) (put (xs ++ x ∷ []))) (sym next)
      (one xs x rest is))
      (more_lead (number + 1) (xs ++ x ∷ []) rest after
      (is ∙ sym (append_assoc xs (x ∷ []) rest)))

  pub corrections_lead : Leads (corrections of all) (put []) (put all)
  corrections_lead = more_lead 1 [] all refl refl
