-- How many runs and payments an account has after a request.
use Rattle.std.proofs.Common.{◌≡◌, ◌∙◌, refl, ap, ℕ, ◌+◌, List, [], ◌∷◌, length, filter, cond, Bool}
use Rattle.std.proofs.Common.{true, false, arith, length-append}
use Rattle.std.proofs.lemmas.Bool.{true≢false}
use Rattle.ftd_rules.specs.declared.run.PayRun.{PayRun}
use Rattle.ftd_rules.specs.declared.run.Voidable.{Voidable}
use Rattle.ftd_rules.specs.declared.payment.Payment.{Payment}
use Rattle.ftd_machine.specs.State.{State, Entry, is_of}
use Rattle.ftd_machine.specs.Checks.{Answer}
use Rattle.ftd_machine.specs.Step.{Step, taken, with_entry, with_voided, voided_if}
use Rattle.ftd_machine.specs.Laws.{is_change, adds_entry, runs_of, payments_of}
use Rattle.ftd_machine.specs.declared.requests.Request.{Request}
use Rattle.ftd_machine.specs.declared.requests.Request.TheVariants.{Enter, Post, Void, Pay, VoidPay}
use Rattle.ftd_machine.specs.declared.requests.Request.TheVariants.{Correct, Question}
use Rattle.ftd_machine.specs.declared.requests.Entry.TheVariants as entry
use Rattle.ftd_machine.specs.declared.requests.Correction.TheVariants as correction
use Rattle.ftd_machine.specs.declared.entries.ReturnPeriod.TheVariants.{Quarter, Year}
use Rattle.ftd_machine.proofs.Adding.{entry_own}
use Rattle.ftd_machine.proofs.Again.{turning, run_same, payment_same}
use Rattle.ftd_machine.proofs.Keeping.{kept_own}
use Rattle.ftd_machine.proofs.Others.{done_stays, post_stays, void_stays, open_stays}
use Rattle.ftd_machine.proofs.Leaving.{asked_leaves}
use Rattle.ftd_machine.proofs.Repeats.{checks_of, does}

-- what is voided is counted still
pub voided_count : {X : Type 0} (xs : List (Entry (Voidable X))) (name : List ℕ) (key : ℕ)
    (account : List ℕ)
    → length (filter (is_of account) (with_voided xs name key)) ≡ length (filter (is_of account) xs)
voided_count [] name key account = refl
voided_count (e ∷ xs) name key account =
    by e xs name key account (is_of account e) (voided_count xs name key account)
  where
    by : {X : Type 0} (e : Entry (Voidable X)) (xs : List (Entry (Voidable X))) (name : List ℕ)
        (key : ℕ) (account : List ℕ) (b : Bool)
        → length (filter (is_of account) (with_voided xs name key)) ≡ length
        (filter (is_of account) xs)
        → length (cond b (voided_if name key e ∷ filter (is_of account) (with_voided xs name key))
        (filter (is_of account) (with_voided xs name key)))
        ≡ length (cond b (e ∷ filter (is_of account) xs) (filter (is_of account) xs))
    by e xs name key account true same = omega (arith, same)
    by e xs name key account false same = same

-- an entry more is counted
entry_count : {X : Type 0} (xs : List (Entry X)) (name : List ℕ) (key : ℕ) (content : X)
    → length (filter (is_of name) (with_entry xs name key content)) ≡ length
    (filter (is_of name) xs) + 1
entry_count xs name key content =
    ap length (entry_own xs name key content) ∙ length-append (filter (is_of name) xs) _

-- no other request changes how many runs and payments an account has
abbrev counts_of : List ℕ → State → ℕ × ℕ
counts_of account x = (runs_of account x, payments_of account x)

counts_stay : (s : State) (request : Request) (answer : Answer) (next : State) (account : List ℕ)
    → adds_entry request ≡ false
    → Step s request answer next → counts_of account next ≡ counts_of account s
unfolding adds_entry
counts_stay s (Enter (entry.Account name enrolled)) answer next account other step =
    done_stays (counts_of account) s answer next _ _ step refl
counts_stay s (Enter (entry.Calendar year days)) answer next account other step =
    done_stays (counts_of account) s answer next _ _ step refl
counts_stay s (Enter (entry.Holiday day)) answer next account other step =
    done_stays (counts_of account) s answer next _ _ step refl
counts_stay s (Enter (entry.Total name (Quarter quarter) cents)) answer next account other step =
    done_stays (counts_of account) s answer next _ _ step refl
counts_stay s (Enter (entry.Total name (Year year) cents)) answer next account other step =
    done_stays (counts_of account) s answer next _ _ step refl
counts_stay s (Enter (entry.Year name year)) answer next account other step =
    open_stays (counts_of account) s answer next _ name year step refl
counts_stay s (Post name number run) answer next account other step =
    absurd (true≢false other)
counts_stay s (Void name number) answer next account other step =
    void_stays (counts_of account) s answer next _ _ _ _ _ _ step
    (ap (λ n. (n, payments_of account s)) (voided_count s.runs name number account))
counts_stay s (Pay name number payment) answer next account other step =
    absurd (true≢false other)
counts_stay s (VoidPay name number) answer next account other step =
    done_stays (counts_of account) s answer next _ _ step
    (ap (λ n. (runs_of account s, n)) (voided_count s.payments name number account))
counts_stay s (Correct number (correction.Total name (Quarter quarter) cents)) answer next account
    other step =
    post_stays (counts_of account) s answer next _ _ _ _ _ _ step refl
counts_stay s (Correct number (correction.Total name (Year year) cents)) answer next account other
    step =
    post_stays (counts_of account) s answer next _ _ _ _ _ _ step refl
counts_stay s (Correct number (correction.Holiday day is_holiday)) answer next account other step =
    done_stays (counts_of account) s answer next _ _ step refl
counts_stay s (Correct number (correction.Account name beginning)) answer next account other step =
    done_stays (counts_of account) s answer next _ _ step refl
counts_stay s (Question question) answer next account other step = ap (counts_of account)
    (asked_leaves _ s answer next _ step)

pub same_counts : (s : State) (request : Request) (answer : Answer) (next : State)
    (account : List ℕ) → adds_entry request ≡ false
    → Step s request answer next → (runs_of account next ≡ runs_of account s)
    × (payments_of account next ≡ payments_of account s)
same_counts s request answer next account other step =
    let same = counts_stay s request answer next account other step in
    (ap (λ c. c.0) same, ap (λ c. c.1) same)

module _ (s : State) (answer : Answer) (next : State) (name : List ℕ) (number : ℕ) where
  -- a run that is posted is one more, and no payment
  module _ (run : PayRun) (step : Step s (Post name number run)
      answer next) where
    pub posted_more : is_change answer ≡ true → runs_of name next ≡ runs_of name s + 1
    posted_more changes =
        let after : State = record s { runs = with_entry s.runs name number (taken run) } in
        let request = Post name number run in
        let done = does s answer next (checks_of s request) (checks_of after request) _
        (search (turning, kept_own s.runs name number (taken run), run_same run false) depth 12)
        step changes in
        ap (runs_of name) done.0.0 ∙ entry_count s.runs name number (taken run)

    pub posted_payments : (account : List ℕ) → payments_of account next ≡ payments_of account s
    posted_payments account = post_stays (payments_of account) s answer next _ _ _ _ _ _ step refl

  -- a payment that is taken is one more, and no run
  module _ (payment : Payment)
      (step : Step s (Pay name number payment) answer next) where
    pub paid_more : is_change answer ≡ true → payments_of name next ≡ payments_of name s + 1
    paid_more changes =
        let after : State =
        record s { payments = with_entry s.payments name number (taken payment) } in
        let request = Pay name number payment in
        let done = does s answer next (checks_of s request) (checks_of after request) _
        (search (
          turning,
          kept_own s.payments name number (taken payment),
          payment_same payment false,
        ) depth 12) step changes in
        ap (payments_of name) done.0.1 ∙ entry_count s.payments name number (taken payment)

    pub paid_runs : (account : List ℕ) → runs_of account next ≡ runs_of account s
    paid_runs account = done_stays (runs_of account) s answer next _ _ step refl
