-- Sound states that have the same entries answer each request the same, and have the same entries
-- afterwards.
use Rattle.std.proofs.Common.{◌≡◌, ◌∙◌, inl, inr, sym, ap, subst, ℕ, List, Option, None, Some, Ok}
use Rattle.std.proofs.Common.{Err}
use Rattle.std.specs.Prelude.{unwrap_or}
use Rattle.ftd_days.specs.Calendar.{quarter_start, year_start}
use Rattle.ftd_days.specs.declared.cents.Cents.{Cents}
use Rattle.ftd_rules.specs.declared.run.PayRun.{PayRun}
use Rattle.ftd_rules.specs.declared.run.Voidable.{Voidable}
use Rattle.ftd_machine.specs.Checks.{Answer, Decides, first_of}
use Rattle.ftd_machine.specs.History.{HasLookback, LacksFigure, form_of}
use Rattle.ftd_machine.specs.Journal.{SameEntries}
use Rattle.ftd_machine.specs.Posting.{IsPosted}
use Rattle.ftd_machine.specs.Questions.{Tells}
use Rattle.ftd_machine.specs.Sound.{IsSound}
use Rattle.ftd_machine.specs.State.{State, entries_of, holidays, kept_at}
use Rattle.ftd_machine.specs.Step.{OpensNext, Step, may_open}
use Rattle.ftd_machine.specs.declared.entries.ReturnPeriod.TheVariants.{Quarter, Year}
use Rattle.ftd_machine.specs.declared.replies.Refusal.{Refusal}
use Rattle.ftd_machine.specs.declared.replies.Reply.TheVariants.{Done}
use Rattle.ftd_machine.specs.declared.requests.Correction.TheVariants as correction
use Rattle.ftd_machine.specs.declared.requests.Entry.TheVariants as entry
use Rattle.ftd_machine.specs.declared.requests.Question.{Question as Questions}
use Rattle.ftd_machine.specs.declared.requests.Request.{Request}
use Rattle.ftd_machine.specs.declared.requests.Request.TheVariants.{Enter, Post, Void, Pay, VoidPay}
use Rattle.ftd_machine.specs.declared.requests.Request.TheVariants.{Correct, Question}
use Rattle.ftd_machine.proofs.AnswerSome.{each_request_is_answered}
use Rattle.ftd_machine.proofs.Repeats.{checks_of}
use Rattle.ftd_machine.proofs.Reordered.{lacks_to, total_to}
use Rattle.ftd_machine.proofs.SameAfter.{same_after}
use Rattle.ftd_machine.proofs.SameAnswers.{tells_one}
use Rattle.ftd_machine.proofs.SameChecks.{same_checks}
use Rattle.ftd_machine.proofs.SameMembers.{years_same}
use Rattle.ftd_machine.proofs.SameTold.{moved_to, posted_as, reordered, tells_to}
use Rattle.ftd_machine.proofs.Single.{lacks_none, lacks_one, posted_one}
use Rattle.ftd_machine.proofs.Soundness.{sound_once, step_sound}
use Rattle.ftd_machine.proofs.Taken.{state_after}

module _ (s t : State) (s_sound : IsSound s) (t_sound : IsSound t) (same : SameEntries s t)
    (a b : Answer) (m n : State) where
  -- the answers are equal, and the states afterwards have the same entries
  abbrev Equal : Type 0
  Equal = (a ≡ b) × SameEntries m n

  -- the states afterwards have the same entries if those have them that they are
  both_are : (here there : State) → m ≡ here → n ≡ there → SameEntries here there → SameEntries m n
  both_are here there of_m of_n alike =
      subst (λ x. SameEntries x n) (sym of_m) (subst (SameEntries here) (sym of_n) alike)

  -- checks that answer the same decide the same
  decided_equal : (check other : Option Answer) (Else Others : Type 0) → other ≡ check
      → (Else → Others → Equal) → Decides check s a m Else → Decides other t b n Others → Equal
  decided_equal (Some given) other Else Others is both g h =
      let there : (b ≡ given) × (n ≡ t) = subst (λ c. Decides c t b n Others) is h in
      (g.0 ∙ sym there.0, both_are s t g.1 there.1 same)
  decided_equal None other Else Others is both g h =
      both g (subst (λ c. Decides c t b n Others) is h)

  -- so do the checks of a request
  checked_equal : (request : Request) (Else Others : Type 0) → (Else → Others → Equal)
      → Decides (first_of (checks_of s request)) s a m Else
      → Decides (first_of (checks_of t request)) t b n Others → Equal
  checked_equal request Else Others both g h =
      decided_equal (first_of (checks_of s request)) (first_of (checks_of t request)) Else Others
      (ap first_of (same_checks s t s_sound t_sound same request)) both g h

  -- they are the same after the request, where it is done
  changed : (request : Request) → m ≡ state_after request s → n ≡ state_after request t
      → SameEntries m n
  changed request g h =
      both_are (state_after request s) (state_after request t) g h (same_after request s t same)

  -- a request that is done is answered the same
  done_equal : (request : Request) → (a ≡ Ok Done) × (m ≡ state_after request s)
      → (b ≡ Ok Done) × (n ≡ state_after request t) → Equal
  done_equal request g h = (g.0 ∙ sym h.0, changed request g.1 h.1)

  -- a question is told the same
  asked_equal : (question : Questions) → (m ≡ s) × Tells s question a
      → (n ≡ t) × Tells t question b → Equal
  asked_equal question g h = (
    tells_one t question a b (sound_once t t_sound)
        (tells_to s t s_sound t_sound same a question g.1) h.1,
    both_are s t g.0 h.0 same,
  )

  -- a figure that is missing of the one is missing of the other
  lacks_there : (name : List ℕ) (year : ℕ) (refusal : Refusal)
      → LacksFigure (entries_of s name) year refusal → LacksFigure (entries_of t name) year refusal
  lacks_there name year refusal x =
      moved_to s t s_sound t_sound same (λ own. LacksFigure own year refusal) name
      (lacks_to (entries_of s name) (entries_of t name) (reordered s t s_sound t_sound same name)
      year refusal x)

  -- a lookback total of the one is one of the other
  total_there : (name : List ℕ) (year : ℕ) (total : Cents)
      → HasLookback (entries_of s name) year total → HasLookback (entries_of t name) year total
  total_there name year total x =
      moved_to s t s_sound t_sound same (λ own. HasLookback own year total) name
      (total_to (entries_of s name) (entries_of t name) (reordered s t s_sound t_sound same name)
      year total x)

  -- a year is opened, or refused, the same
  next_equal : (name : List ℕ) (year : ℕ) → OpensNext s a m name year → OpensNext t b n name year
      → Equal
  next_equal name year (inl g) (inl h) = (
    g.2.0 ∙ ap Err (lacks_one (form_of (entries_of t name).account) (entries_of t name) year g.0
        h.0 (lacks_there name year g.0 g.1) h.1) ∙ sym h.2.0,
    both_are s t g.2.1 h.2.1 same,
  )
  next_equal name year (inl g) (inr h) =
      let own = entries_of t name in
      absurd (lacks_none (form_of own.account) own year g.0 h.0 (lacks_there name year g.0 g.1) h.1)
  next_equal name year (inr g) (inl h) =
      let own = entries_of t name in
      absurd (lacks_none (form_of own.account) own year h.0 g.0 h.1 (total_there name year g.0 g.1))
  next_equal name year (inr g) (inr h) =
      decided_equal (first_of (may_open (entries_of s name) year))
      (first_of (may_open (entries_of t name) year)) _ _
      (ap (λ xs. first_of (may_open (record (entries_of t name) { open_years = xs }) year))
      (years_same s t s_sound t_sound same name))
      (done_equal (Enter (entry.Year name year))) g.2 h.2

  module _ (m_sound : IsSound m) (n_sound : IsSound n) where
    -- it is told the same of the obligations that differ
    posted_equal : (name : List ℕ) (payday : ℕ) → SameEntries m n
        → IsPosted (holidays s) (entries_of s name) (entries_of m name) payday a
        → IsPosted (holidays t) (entries_of t name) (entries_of n name) payday b → a ≡ b
    posted_equal name payday after g h =
        posted_one (holidays t) (entries_of t name) (entries_of n name) payday a b
        (sound_once t t_sound name) (sound_once n n_sound name)
        (posted_as s t m n s_sound t_sound same m_sound n_sound after name payday a g) h

    -- a run that is posted, or a total that is put right, is answered the same
    post_equal : (request : Request) (name : List ℕ) (payday : ℕ)
        → (m ≡ state_after request s)
        × IsPosted (holidays s) (entries_of s name) (entries_of m name) payday a
        → (n ≡ state_after request t)
        × IsPosted (holidays t) (entries_of t name) (entries_of n name) payday b → Equal
    post_equal request name payday g h =
        let after = changed request g.0 h.0 in
        (posted_equal name payday after g.1 h.1, after)

    -- a run that is voided is answered the same
    void_equal : (name : List ℕ) (number : ℕ)
        → (run : Voidable PayRun) × (kept_at number (entries_of s name).runs ≡ Some run)
        × (m ≡ state_after (Void name number) s)
        × IsPosted (holidays s) (entries_of s name) (entries_of m name) run.value.payday a
        → (run : Voidable PayRun) × (kept_at number (entries_of t name).runs ≡ Some run)
        × (n ≡ state_after (Void name number) t)
        × IsPosted (holidays t) (entries_of t name) (entries_of n name) run.value.payday b
        → Equal
    void_equal name number g h =
        let after = changed (Void name number) g.2 h.2 in
        let run : h.0 ≡ g.0 =
        ap (λ o. unwrap_or o h.0) (sym h.1 ∙ (same.accounts name).runs number ∙ g.1) in
        let there = subst (λ (r : Voidable PayRun). IsPosted (holidays t) (entries_of t name)
        (entries_of n name) r.value.payday b) run h.3 in
        (posted_equal name g.0.value.payday after g.3 there, after)

    -- each request is answered the same
    step_equal : (request : Request) → Step s request a m → Step t request b n → Equal
    step_equal (Enter (entry.Account name account)) g h =
        let request = Enter (entry.Account name account) in
        checked_equal request _ _ (done_equal request) g h
    step_equal (Enter (entry.Calendar year days)) g h =
        let request = Enter (entry.Calendar year days) in
        checked_equal request _ _ (done_equal request) g h
    step_equal (Enter (entry.Holiday day)) g h =
        let request = Enter (entry.Holiday day) in
        checked_equal request _ _ (done_equal request) g h
    step_equal (Enter (entry.Total name (Quarter quarter) cents)) g h =
        let request = Enter (entry.Total name (Quarter quarter) cents) in
        checked_equal request _ _ (done_equal request) g h
    step_equal (Enter (entry.Total name (Year year) cents)) g h =
        let request = Enter (entry.Total name (Year year) cents) in
        checked_equal request _ _ (done_equal request) g h
    step_equal (Enter (entry.Year name year)) g h =
        checked_equal (Enter (entry.Year name year)) _ _ (next_equal name year) g h
    step_equal (Post name number run) g h =
        let request = Post name number run in
        checked_equal request _ _ (post_equal request name run.payday) g h
    step_equal (Void name number) g h =
        checked_equal (Void name number) _ _ (void_equal name number) g h
    step_equal (Pay name number payment) g h =
        let request = Pay name number payment in
        checked_equal request _ _ (done_equal request) g h
    step_equal (VoidPay name number) g h =
        checked_equal (VoidPay name number) _ _ (done_equal (VoidPay name number)) g h
    step_equal (Correct number (correction.Total name (Quarter quarter) cents)) g h =
        let request = Correct number (correction.Total name (Quarter quarter) cents) in
        checked_equal request _ _ (post_equal request name (quarter_start quarter)) g h
    step_equal (Correct number (correction.Total name (Year year) cents)) g h =
        let request = Correct number (correction.Total name (Year year) cents) in
        checked_equal request _ _ (post_equal request name (year_start year)) g h
    step_equal (Correct number (correction.Holiday day is_holiday)) g h =
        let request = Correct number (correction.Holiday day is_holiday) in
        checked_equal request _ _ (done_equal request) g h
    step_equal (Correct number (correction.Account name beginning)) g h =
        let request = Correct number (correction.Account name beginning) in
        checked_equal request _ _ (done_equal request) g h
    step_equal (Question question) g h =
        checked_equal (Question question) _ _ (asked_equal question) g h

-- what one of them answers, the other does
pub same_entries_answer : (s t : State) (request : Request) (answer : Answer) (next : State)
    → IsSound s → IsSound t → SameEntries s t → Step s request answer next
    → (after : State) × Step t request answer after × SameEntries next after
same_entries_answer s t request answer next s_sound t_sound same step =
    let there = each_request_is_answered t request t_sound in
    let equal = step_equal s t s_sound t_sound same answer there.0 next there.1
    (step_sound s request answer next step s_sound)
    (step_sound t request there.0 there.1 there.2 t_sound) request step there.2 in
    (there.1, subst (λ a. Step t request a there.1) (sym equal.0) there.2, equal.1)

-- and their answers are equal
pub same_entries_equal : (s t : State) (request : Request) (answer other : Answer)
    (next after : State) → IsSound s → IsSound t → SameEntries s t → Step s request answer next
    → Step t request other after → (answer ≡ other) × SameEntries next after
same_entries_equal s t request answer other next after s_sound t_sound same g h =
    step_equal s t s_sound t_sound same answer other next after
    (step_sound s request answer next g s_sound) (step_sound t request other after h t_sound)
    request g h
