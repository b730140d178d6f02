-- A step has one answer and one next state.
use Rattle.std.proofs.Common.{◌≡◌, ◌∙◌, inl, inr, refl, sym, ap, subst, ℕ, List, Option, None, Some}
use Rattle.std.proofs.Common.{Ok, Err}
use Rattle.std.specs.Prelude.{unwrap_or}
use Rattle.ftd_days.specs.Calendar.{year_start, quarter_start}
use Rattle.ftd_rules.specs.declared.run.PayRun.{PayRun}
use Rattle.ftd_rules.specs.declared.run.Voidable.{Voidable}
use Rattle.ftd_machine.specs.State.{State, Entries, entries_of, holidays}
use Rattle.ftd_machine.specs.History.{form_of}
use Rattle.ftd_machine.specs.Checks.{Answer, Decides}
use Rattle.ftd_machine.specs.Posting.{IsPosted}
use Rattle.ftd_machine.specs.Step.{Step, OpensNext}
use Rattle.ftd_machine.specs.declared.replies.Reply.TheVariants.{Done}
use Rattle.ftd_machine.specs.declared.requests.Request.{Request}
use Rattle.ftd_machine.specs.declared.requests.Request.TheVariants.{Enter, Post, Void, Pay, VoidPay}
use Rattle.ftd_machine.specs.declared.requests.Request.TheVariants.{Correct, Question}
use Rattle.ftd_machine.specs.declared.requests.Entry.TheVariants as entry
use Rattle.ftd_machine.specs.declared.requests.Correction.TheVariants as correction
use Rattle.ftd_machine.specs.declared.entries.ReturnPeriod.TheVariants.{Quarter, Year}
use Rattle.ftd_machine.proofs.Single.{IsOnce, lacks_none, lacks_one, posted_one}
use Rattle.ftd_machine.proofs.SameAnswers.{tells_one}

module _ (s : State) (a b : Answer) (m n : State) where
  abbrev Same : Type 0
  Same = (a ≡ b) × (m ≡ n)

  done_same : (check : Option Answer) (after : State)
      → Decides check s a m ((a ≡ Ok Done) × (m ≡ after))
      → Decides check s b n ((b ≡ Ok Done) × (n ≡ after)) → Same
  done_same (Some given) after g h = (g.0 ∙ sym h.0, g.1 ∙ sym h.1)
  done_same None after g h = (g.0 ∙ sym h.0, g.1 ∙ sym h.1)

  asked_same : (check : Option Answer) (Told : Answer → Type 0)
      → ((x y : Answer) → Told x → Told y → x ≡ y)
      → Decides check s a m ((m ≡ s) × Told a) → Decides check s b n ((n ≡ s) × Told b) → Same
  asked_same (Some given) Told one g h = (g.0 ∙ sym h.0, g.1 ∙ sym h.1)
  asked_same None Told one g h = (one a b g.1 h.1, g.0 ∙ sym h.0)

  posted_same : (name : List ℕ) (after : State) (payday : ℕ) → IsOnce (entries_of s name)
      → IsOnce (entries_of after name) → m ≡ after → n ≡ after
      → IsPosted (holidays s) (entries_of s name) (entries_of m name) payday a
      → IsPosted (holidays s) (entries_of s name) (entries_of n name) payday b → a ≡ b
  posted_same name after payday once once_after e f g h =
      posted_one (holidays s) (entries_of s name) (entries_of after name) payday a b once once_after
      (subst (λ x. IsPosted (holidays s) (entries_of s name) (entries_of x name) payday a) e g)
      (subst (λ x. IsPosted (holidays s) (entries_of s name) (entries_of x name) payday b) f h)

  post_same : (check : Option Answer) (name : List ℕ) (after : State) (payday : ℕ)
      → IsOnce (entries_of s name) → IsOnce (entries_of after name)
      → Decides check s a m ((m ≡ after) × IsPosted (holidays s) (entries_of s name)
      (entries_of m name) payday a)
      → Decides check s b n ((n ≡ after) × IsPosted (holidays s) (entries_of s name)
      (entries_of n name) payday b) → Same
  post_same (Some given) name after payday once once_after g h = (g.0 ∙ sym h.0, g.1 ∙ sym h.1)
  post_same None name after payday once once_after g h =
      (posted_same name after payday once once_after g.0 h.0 g.1 h.1, g.0 ∙ sym h.0)

  void_same : (check : Option Answer) (name : List ℕ) (known : Option (Voidable PayRun))
      (after : State) → IsOnce (entries_of s name) → IsOnce (entries_of after name)
      → Decides check s a m ((run : Voidable PayRun) × (known ≡ Some run) × (m ≡ after)
      × IsPosted (holidays s) (entries_of s name) (entries_of m name) run.value.payday a)
      → Decides check s b n ((run : Voidable PayRun) × (known ≡ Some run) × (n ≡ after)
      × IsPosted (holidays s) (entries_of s name) (entries_of n name) run.value.payday b) → Same
  void_same (Some given) name known after once once_after g h = (g.0 ∙ sym h.0, g.1 ∙ sym h.1)
  void_same None name known after once once_after g h =
      let run : h.0 ≡ g.0 = ap (λ o. unwrap_or o h.0) (sym h.1 ∙ g.1) in
      let there = subst (λ (r : Voidable PayRun). IsPosted (holidays s) (entries_of s name)
      (entries_of n name) r.value.payday b) run h.3 in
      (posted_same name after g.0.value.payday once once_after g.2 h.2 g.3 there, g.2 ∙ sym h.2)

  next_same : (name : List ℕ) (year : ℕ) → OpensNext s a m name year → OpensNext s b n name year
      → Same
  next_same name year (inl g) (inl h) =
      let own = entries_of s name in (
        g.2.0 ∙ ap Err (lacks_one (form_of own.account) own year g.0 h.0 g.1 h.1) ∙ sym h.2.0,
        g.2.1
            ∙ sym h.2.1,
      )
  next_same name year (inl g) (inr h) =
      let own = entries_of s name in
      absurd (lacks_none (form_of own.account) own year g.0 h.0 g.1 h.1)
  next_same name year (inr g) (inl h) =
      let own = entries_of s name in
      absurd (lacks_none (form_of own.account) own year h.0 g.0 h.1 g.1)
  next_same name year (inr g) (inr h) = done_same _ _ g.2 h.2

  open_same : (check : Option Answer) (name : List ℕ) (year : ℕ)
      → Decides check s a m (OpensNext s a m name year)
      → Decides check s b n (OpensNext s b n name year) → Same
  open_same (Some given) name year g h = (g.0 ∙ sym h.0, g.1 ∙ sym h.1)
  open_same None name year g h = next_same name year g h

-- after a run was posted or voided, or a figure was put right, what was reported is as it was
still_once : (own : Entries) (after : Entries) → after.reported ≡ own.reported
    → after.reported_years ≡ own.reported_years → IsOnce own → IsOnce after
still_once own after e f once = record {
  quarters = λ corrected. rw e (once.quarters corrected);
  years = λ corrected. rw f (once.years corrected);
}

pub one_answer : (s : State) (request : Request) (a b : Answer) (m n : State)
    → ((name : List ℕ) → IsOnce (entries_of s name))
    → Step s request a m → Step s request b n → (a ≡ b) × (m ≡ n)
one_answer s (Enter (entry.Account name account)) a b m n once g h = done_same s a b m n _ _ g h
one_answer s (Enter (entry.Calendar year days)) a b m n once g h = done_same s a b m n _ _ g h
one_answer s (Enter (entry.Holiday day)) a b m n once g h = done_same s a b m n _ _ g h
one_answer s (Enter (entry.Total name (Quarter quarter) cents)) a b m n once g h =
    done_same s a b m n _ _ g h
one_answer s (Enter (entry.Total name (Year year) cents)) a b m n once g h =
    done_same s a b m n _ _ g h
one_answer s (Enter (entry.Year name year)) a b m n once g h = open_same s a b m n _ name year g h
one_answer s (Post name number run) a b m n once g h =
    post_same s a b m n _ name _ run.payday (once name) (still_once (entries_of s name) _ refl refl
    (once name)) g h
one_answer s (Void name number) a b m n once g h =
    void_same s a b m n _ name _ _ (once name) (still_once (entries_of s name) _ refl refl
    (once name)) g h
one_answer s (Pay name number payment) a b m n once g h = done_same s a b m n _ _ g h
one_answer s (VoidPay name number) a b m n once g h = done_same s a b m n _ _ g h
one_answer s (Correct number (correction.Total name (Quarter quarter) cents)) a b m n once g h =
    post_same s a b m n _ name _ (quarter_start quarter) (once name)
    (still_once (entries_of s name) _ refl refl (once name)) g h
one_answer s (Correct number (correction.Total name (Year year) cents)) a b m n once g h =
    post_same s a b m n _ name _ (year_start year) (once name)
    (still_once (entries_of s name) _ refl refl (once name)) g h
one_answer s (Correct number (correction.Holiday day is_holiday)) a b m n once g h =
    done_same s a b m n _ _ g h
one_answer s (Correct number (correction.Account name beginning)) a b m n once g h =
    done_same s a b m n _ _ g h
one_answer s (Question question) a b m n once g h = asked_same s a b m n _ _
    (λ x y. tells_one s question x y once) g h
