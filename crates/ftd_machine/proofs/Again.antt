-- A request that was done is answered Already from then on.
use Rattle.std.proofs.Common.{◌≡◌, refl, sym, subst, ℕ, Bool, true, false, List, [], ◌∷◌}
use Rattle.std.proofs.Common.{◌++◌, length, Option, None, Some}
use Rattle.ftd_days.specs.declared.cents.Cents.{Cents}
use Rattle.ftd_rules.specs.declared.Form.{Form}
use Rattle.ftd_rules.specs.declared.Form.TheVariants.{F941, F943}
use Rattle.ftd_machine.specs.declared.entries.Account.{Account}
use Rattle.ftd_machine.specs.declared.entries.Beginning.{Beginning}
use Rattle.ftd_rules.specs.declared.run.PayRun.{PayRun}
use Rattle.ftd_rules.specs.declared.payment.Payment.{Payment}
use Rattle.ftd_rules.specs.declared.run.Voidable.{Voidable}
use Rattle.ftd_machine.specs.Checks.{Answer, first_of, needs, finds, is_new, meets}
use Rattle.ftd_machine.specs.State.{numbered}
use Rattle.ftd_machine.specs.Requests.{is_form, same_flag, same_account, same_amount, same_run}
use Rattle.ftd_machine.specs.Requests.{same_payment, is_voided, is_on}
use Rattle.ftd_machine.specs.Requests.{post_checks, void_checks}
use Rattle.ftd_machine.specs.Requests.{correct_account_checks}
use Rattle.ftd_machine.specs.Requests.{same_beginning, is_next}
use Rattle.ftd_machine.specs.declared.replies.Refusal.{Refusal}
use Rattle.ftd_machine.specs.declared.replies.Refusal.TheVariants.{UnknownAccount}
use Rattle.ftd_machine.specs.declared.replies.Refusal.TheVariants.{UnknownRun}
use Rattle.ftd_machine.specs.declared.replies.Refusal.TheVariants.{CorrectionDiffers, AccountInUse}
use Rattle.ftd_machine.proofs.Heads.{Refuses, refusing}
use Rattle.ftd_machine.proofs.Heads.{Turns, turns_needs, turns_finds, turns_new, turns_done}
use Rattle.ftd_machine.proofs.Heads.{Stays, stays_needs, stays_finds, stays_new, stays_done}
use Rattle.ftd_machine.proofs.Keeping.{IsStill, same_key}
use Rattle.ftd_machine.proofs.Numbers.{numbered_next}

-- ---- equal content

pub flag_same : (b : Bool) → same_flag b b ≡ true
flag_same true = refl
flag_same false = refl

form_same : (form : Form) → is_form form form ≡ true
form_same F941 = refl
form_same F943 = refl

pub account_same : (account : Account) → same_account account account ≡ true
account_same account =
    rw (same_key account.start, flag_same account.carried, form_same account.form)
    refl

pub beginning_same : (b : Beginning) → same_beginning b b ≡ true
beginning_same b = rw (same_key b.start, flag_same b.carried) refl

pub amount_same : (cents : Cents) → same_amount cents cents ≡ true
amount_same cents = same_key cents.0

pub run_same : (run : PayRun) (voided : Bool)
    → same_run run (record { value = run; voided = voided }) ≡ true
run_same run voided =
    rw (same_key run.payday, same_key run.fit.0, same_key run.ss.0, same_key run.medicare.0) refl

pub payment_same : (payment : Payment) (voided : Bool)
    → same_payment payment (record { value = payment; voided = voided }) ≡ true
payment_same payment voided =
    rw (same_key payment.paid, same_key payment.for_day, same_key payment.cents.0)
    refl

-- ---- the checks before and after

-- the account stays, and its form
abbrev pub StillThere : Option Account → Option Account → Type 0
StillThere o p = (a : Account) → o ≡ Some a → (b : Account) × (p ≡ Some b) × (b.form ≡ a.form)

pub stays_there : (o p : Option Account) (refusal : Refusal) (Q Q' : List (Option Answer))
    → StillThere o p → Stays Q Q' → Stays (finds o refusal ∷ Q) (finds p refusal ∷ Q')
stays_there (Some a) p refusal Q Q' still stays =
    let b = still a refl in record { still = λ e. rw (b.1) (stays.still e) }
stays_there None p refusal Q Q' still stays = record { still = λ e. absurd cc }

-- a fact of its form stays too
pub on_still : (form : Form) (o p : Option Account) → StillThere o p → meets (is_on form) o ≡ true
    → meets (is_on form) p ≡ true
on_still form (Some a) p still e = let b = still a refl in rw (b.1, b.2) e
on_still form None p still e = absurd cc

-- where one stands there, one does afterwards
turns_any : (o p : Option Account) (refusal : Refusal) (Q Q' : List (Option Answer))
    → ((a : Account) → o ≡ Some a → (b : Account) × (p ≡ Some b)) → Turns Q Q'
    → Turns (finds o refusal ∷ Q) (finds p refusal ∷ Q')
turns_any (Some a) p refusal Q Q' there turns =
    let b = there a refl in
    record { no_change = turns.no_change; done = λ e. rw (b.1) (turns.done e) }
turns_any None p refusal Q Q' there turns =
    record { no_change = refl; done = λ e. absurd cc }

-- what comes behind a check that passes
after_needs : (holds : Bool) (refusal : Refusal) (Q : List (Option Answer))
    → first_of (needs holds refusal ∷ Q) ≡ None → first_of Q ≡ None
after_needs true refusal Q e = e
after_needs false refusal Q e = absurd cc

-- a check that does not change
pub turns_past : (holds : Bool) (refusal : Refusal) (Q Q' : List (Option Answer)) → Turns Q Q'
    → Turns (needs holds refusal ∷ Q) (needs holds refusal ∷ Q')
turns_past holds refusal Q Q' turns = turns_needs holds holds refusal Q Q' (λ e. e) turns

pub turns_found : {X : Type 0} (o : Option X) (refusal : Refusal) (Q Q' : List (Option Answer))
    → Turns Q Q' → Turns (finds o refusal ∷ Q) (finds o refusal ∷ Q')
turns_found o refusal Q Q' turns = turns_finds o o refusal Q Q' (λ x e. e) turns

pub stays_past : (holds : Bool) (refusal : Refusal) (Q Q' : List (Option Answer)) → Stays Q Q'
    → Stays (needs holds refusal ∷ Q) (needs holds refusal ∷ Q')
stays_past holds refusal Q Q' stays = stays_needs holds holds refusal Q Q' (λ e. e) stays

-- what is taken where nothing stood is done from then on
pub turns_taken : {X : Type 0} (o p : Option X) (same : X → Bool) (refusal : Refusal)
    (Q Q' : List (Option Answer)) (x : X) → (o ≡ None → p ≡ Some x) → same x ≡ true → Refuses Q
    → Turns (is_new o same refusal ∷ Q) (is_new p same refusal ∷ Q')
turns_taken o p same refusal Q Q' x there equal refuses =
    turns_new o p same refusal Q Q' (λ none rest. (x, there none, equal)) refuses

-- a correction that is the next one is taken
pub turns_next : {X : Type 0} (number : ℕ) (xs ys : List X) (x : X) (same : X → Bool)
    (refusal : Refusal) → ys ≡ xs ++ x ∷ [] → same x ≡ true
    → Turns (is_new (numbered number xs) same refusal ∷ is_next number (length xs) ∷ [])
    (is_new (numbered number ys) same refusal ∷ is_next number (length ys) ∷ [])
turns_next number xs ys x same refusal more equal =
    turns_new (numbered number xs) (numbered number ys) same refusal _ _
    (λ none rest. (x, numbered_next number xs ys x more rest, equal)) (search refusing)

-- and what stands stays so
pub stays_kept : {X : Type 0} (o p : Option X) (same : X → Bool) (refusal : Refusal)
    (Q Q' : List (Option Answer)) → ((x : X) → o ≡ Some x → p ≡ Some x) → Refuses Q
    → Stays (is_new o same refusal ∷ Q) (is_new p same refusal ∷ Q')
stays_kept o p same refusal Q Q' still refuses =
    stays_new o p same refusal Q Q' (λ x is. (x, still x is, λ e. e)) refuses

pub ruleset turning = (turns_past, turns_found, turns_taken, turns_done, refusing)

pub ruleset staying = (
  stays_past,
  stays_there,
  stays_kept,
  stays_needs,
  stays_finds,
  stays_done,
  refusing,
)

abbrev pub StillKept : {X : Type 0} → Option (Voidable X) → Option (Voidable X) → Type 0
StillKept {X = X} o p = (v : Voidable X) → o ≡ Some v → (w : Voidable X) × (p ≡ Some w)
    × IsStill v w

-- what its value is said to be is so still
pub same_still : {X : Type 0} (o p : Option (Voidable X)) (same : X → Bool) → StillKept o p
    → (v : Voidable X) → o ≡ Some v
    → (w : Voidable X) × (p ≡ Some w) × (same v.value ≡ true → same w.value ≡ true)
same_still o p same still v is =
    let w = still v is in (w.0, w.1, λ e. subst (λ x. same x ≡ true) (sym w.2.0) e)

pub voided_after : {X : Type 0} (o p : Option (Voidable X)) (refusal : Refusal)
    → ((v : Voidable X) → o ≡ Some v → (w : Voidable X) × (p ≡ Some w) × (w.voided ≡ true))
    → first_of (finds o refusal ∷ []) ≡ None → meets is_voided p ≡ true
voided_after (Some v) p refusal is e = let w = is v refl in rw (w.1) (w.2)
voided_after None p refusal is e = absurd cc

pub voided_still : {X : Type 0} (o p : Option (Voidable X)) → StillKept o p
    → meets is_voided o ≡ true → meets is_voided p ≡ true
voided_still (Some v) p still e = let w = still v refl in rw (w.1) (w.2.1 e)
voided_still None p still e = absurd cc

abbrev pub IsVoidAfter : {X : Type 0} → Option (Voidable X) → Option (Voidable X) → Type 0
IsVoidAfter {X = X} o p = (v : Voidable X) → o ≡ Some v → (w : Voidable X) × (p ≡ Some w)
    × (w.voided ≡ true)

module _ (name : List ℕ) where
  pub post_turns : (number : ℕ) (run : PayRun) (account : Option Account)
      (o p : Option (Voidable PayRun)) (there after : Bool) (count count' : ℕ)
      → (o ≡ None → p ≡ Some (record { value = run; voided = false }))
      → Turns (post_checks name number run account o there count)
      (post_checks name number run account p after count')
  post_turns number run account o p there after count count' is =
      search (turning, run_same run false) depth 12

  pub void_turns : (number : ℕ) (account : Option Account) (o p : Option (Voidable PayRun))
      → IsVoidAfter o p
      → Turns (void_checks name number account o) (void_checks name number account p)
  void_turns number account o p is =
      let after = voided_after o p UnknownRun is in
      search turning depth 12

  pub correct_account_turns : (number : ℕ) (beginning : Beginning) (unused unused' : Bool)
      (xs ys : List Beginning) → ys ≡ xs ++ beginning ∷ [] → (o p : Option Account)
      → ((a : Account) → o ≡ Some a → (b : Account) × (p ≡ Some b))
      → Turns
      (correct_account_checks name number beginning o (numbered number xs) unused (length xs))
      (correct_account_checks name number beginning p (numbered number ys) unused' (length ys))
  correct_account_turns number beginning unused unused' xs ys more o p there =
      turns_past _ _ _ _
      (turns_past _ _ _ _
      (turns_past _ _ _ _
      (turns_any o p UnknownAccount _ _ there
      (turns_new (numbered number xs) (numbered number ys) (same_beginning beginning)
      CorrectionDiffers _ _
      (λ none rest. (
        beginning,
        numbered_next number xs ys beginning more
            (after_needs unused AccountInUse _ rest),
        beginning_same beginning,
      ))
      (search refusing)))))
