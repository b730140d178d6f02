-- Lists of checks of which the first decides, head by head: which of them answer that the request
-- was done
-- before, and when.
use Rattle.std.proofs.Common.{◌≡◌, refl, if◌then◌else◌, Bool, true, false, List, [], ◌∷◌, Option}
use Rattle.std.proofs.Common.{None, Some, Ok, Err, ◌⊎◌, inl, inr, sym, ◌∙◌, subst}
use Rattle.std.specs.Prelude.{is_some}
use Rattle.ftd_machine.specs.Checks.{Answer, first_of, needs, done_if, finds, is_new}
use Rattle.ftd_machine.specs.Laws.{is_change}
use Rattle.ftd_machine.specs.declared.replies.Reply.TheVariants.{Already}
use Rattle.ftd_machine.specs.declared.replies.Refusal.{Refusal}

-- the request was done before
abbrev pub done_before : Option Answer
done_before = Some (Ok Already)

-- ---- a list of which the first that answers refuses

pub record Refuses (Q : List (Option Answer)) : Type 0 where
  pub told : (first_of Q ≡ None) ⊎ ((refusal : Refusal) × (first_of Q ≡ Some (Err refusal)))

pub refuses_none : Refuses []
refuses_none = record { told = inl refl }

pub refuses_needs : (holds : Bool) (refusal : Refusal) (Q : List (Option Answer)) → Refuses Q
    → Refuses (needs holds refusal ∷ Q)
refuses_needs true refusal Q refuses = record { told = refuses.told }
refuses_needs false refusal Q refuses = record { told = inr (refusal, refl) }

pub refuses_finds : {X : Type 0} (o : Option X) (refusal : Refusal) (Q : List (Option Answer))
    → Refuses Q → Refuses (finds o refusal ∷ Q)
refuses_finds (Some x) refusal Q refuses = record { told = refuses.told }
refuses_finds None refusal Q refuses = record { told = inr (refusal, refl) }

pub ruleset refusing = (refuses_none, refuses_needs, refuses_finds)

-- ---- what such a list answers is no change

abbrev pub IsNoChange : Option Answer → Type 0
IsNoChange None = Unit {0}
IsNoChange (Some answer) = is_change answer ≡ false

pub record Quiet (P : List (Option Answer)) : Type 0 where
  pub told : IsNoChange (first_of P)

pub quiet_refusal : (Q : List (Option Answer)) → Refuses Q → Quiet Q
quiet_refusal Q refuses = record {
  told = elim refuses.told [
    | inl none ↦ subst IsNoChange (sym none) tt
    | inr some ↦ subst IsNoChange (sym some.1) refl
  ];
}

same_quiet : (same : Bool) (refusal : Refusal)
    → is_change (if same then Ok Already else Err refusal) ≡ false
same_quiet true refusal = refl
same_quiet false refusal = refl

-- ---- where the first list passes, the second one answers that it was done before

pub record Turns (P P' : List (Option Answer)) : Type 0 where
  pub no_change : IsNoChange (first_of P)
  pub done : first_of P ≡ None → first_of P' ≡ done_before

pub turns_needs : (holds after : Bool) (refusal : Refusal) (Q Q' : List (Option Answer))
    → (holds ≡ true → after ≡ true)
    → Turns Q Q' → Turns (needs holds refusal ∷ Q) (needs after refusal ∷ Q')
turns_needs true after refusal Q Q' stays turns = record {
  no_change = turns.no_change;
  done = λ e. rw (stays refl) (turns.done e);
}
turns_needs false after refusal Q Q' stays turns =
    record { no_change = refl; done = λ e. absurd cc }

pub turns_finds : {X : Type 0} (o p : Option X) (refusal : Refusal) (Q Q' : List (Option Answer))
    → ((x : X) → o ≡ Some x → p ≡ Some x) → Turns Q Q' → Turns (finds o refusal ∷ Q)
    (finds p refusal ∷ Q')
turns_finds (Some x) p refusal Q Q' stays turns = record {
  no_change = turns.no_change;
  done = λ e. rw (stays x refl) (turns.done e);
}
turns_finds None p refusal Q Q' stays turns = record { no_change = refl; done = λ e. absurd cc }

pub turns_new : {X : Type 0} (o p : Option X) (same : X → Bool) (refusal : Refusal)
    (Q Q' : List (Option Answer))
    → (o ≡ None → first_of Q ≡ None → (x : X) × (p ≡ Some x) × (same x ≡ true)) → Refuses Q
    → Turns (is_new o same refusal ∷ Q) (is_new p same refusal ∷ Q')
turns_new (Some x) p same refusal Q Q' after refuses =
    record { no_change = same_quiet (same x) refusal; done = λ e. absurd cc }
turns_new None p same refusal Q Q' after refuses = record {
  no_change = (quiet_refusal Q refuses).told;
  done = λ e. (let is = after refl e in rw (is.1, is.2) refl);
}

pub turns_done : (holds after : Bool) (Q Q' : List (Option Answer))
    → (first_of Q ≡ None → after ≡ true) → Refuses Q
    → Turns (done_if holds ∷ Q) (done_if after ∷ Q')
turns_done true after Q Q' stays refuses = record { no_change = refl; done = λ e. absurd cc }
turns_done false after Q Q' stays refuses = record {
  no_change = (quiet_refusal Q refuses).told;
  done = λ e. rw (stays e) refl;
}

-- ---- a list that never answers so

pub record Firm (Q : List (Option Answer)) : Type 0 where
  pub never : first_of Q ≡ done_before → ⊥

pub firm_refusal : (Q : List (Option Answer)) → Refuses Q → Firm Q
firm_refusal Q refuses = record {
  never = λ e. elim refuses.told [
    | inl none ↦ absurd (let k = sym none ∙ e in cc)
    | inr some ↦ absurd (let k = sym some.1 ∙ e in cc)
  ];
}

-- ---- where the first list answers so, the second one does

pub record Stays (P P' : List (Option Answer)) : Type 0 where
  pub still : first_of P ≡ done_before → first_of P' ≡ done_before

pub stays_needs : (holds after : Bool) (refusal : Refusal) (Q Q' : List (Option Answer))
    → (holds ≡ true → after ≡ true)
    → Stays Q Q' → Stays (needs holds refusal ∷ Q) (needs after refusal ∷ Q')
stays_needs true after refusal Q Q' still stays =
    record { still = λ e. rw (still refl) (stays.still e) }
stays_needs false after refusal Q Q' still stays = record { still = λ e. absurd cc }

pub stays_finds : {X : Type 0} (o p : Option X) (refusal : Refusal) (Q Q' : List (Option Answer))
    → ((x : X) → o ≡ Some x → p ≡ Some x) → Stays Q Q' → Stays (finds o refusal ∷ Q)
    (finds p refusal ∷ Q')
stays_finds (Some x) p refusal Q Q' still stays =
    record { still = λ e. rw (still x refl) (stays.still e) }
stays_finds None p refusal Q Q' still stays = record { still = λ e. absurd cc }

same_told : (same : Bool) (refusal : Refusal) → Some (if same then Ok Already else Err refusal)
    ≡ done_before → same ≡ true
same_told true refusal e = refl
same_told false refusal e = absurd cc

pub stays_new : {X : Type 0} (o p : Option X) (same : X → Bool) (refusal : Refusal)
    (Q Q' : List (Option Answer))
    → ((x : X) → o ≡ Some x → (y : X) × (p ≡ Some y) × (same x ≡ true → same y ≡ true)) → Refuses Q
    → Stays (is_new o same refusal ∷ Q) (is_new p same refusal ∷ Q')
stays_new (Some x) p same refusal Q Q' still refuses =
    let is = still x refl in
    record {
      still = λ e. (let equal : same is.0 ≡ true = is.2 (same_told (same x) refusal e) in
          rw (is.1, equal) refl);
    }
stays_new None p same refusal Q Q' still refuses =
    record { still = λ e. absurd ((firm_refusal Q refuses).never e) }

pub stays_done : (holds after : Bool) (Q Q' : List (Option Answer)) → (holds ≡ true → after ≡ true)
    → Refuses Q
    → Stays (done_if holds ∷ Q) (done_if after ∷ Q')
stays_done true after Q Q' still refuses = record { still = λ e. rw (still refl) refl }
stays_done false after Q Q' still refuses =
    record { still = λ e. absurd ((firm_refusal Q refuses).never e) }

-- ---- what a list tells that passes

pub record Gives (P : List (Option Answer)) (Fact : Type 0) : Type 0 where
  pub fact : first_of P ≡ None → Fact

pub gives_needs : (holds : Bool) (refusal : Refusal) (Q : List (Option Answer))
    → Gives (needs holds refusal ∷ Q) (holds ≡ true)
gives_needs true refusal Q = record { fact = λ e. refl }
gives_needs false refusal Q = record { fact = λ e. absurd cc }

pub gives_finds : {X : Type 0} (o : Option X) (refusal : Refusal) (Q : List (Option Answer))
    → Gives (finds o refusal ∷ Q) (is_some o ≡ true)
gives_finds (Some x) refusal Q = record { fact = λ e. refl }
gives_finds None refusal Q = record { fact = λ e. absurd cc }

pub gives_done : (holds : Bool) (Q : List (Option Answer)) → Gives (done_if holds ∷ Q)
    (holds ≡ false)
gives_done true Q = record { fact = λ e. absurd cc }
gives_done false Q = record { fact = λ e. refl }

pub gives_new : {X : Type 0} (o : Option X) (same : X → Bool) (refusal : Refusal)
    (Q : List (Option Answer)) → Gives (is_new o same refusal ∷ Q) (o ≡ None)
gives_new (Some x) same refusal Q = record { fact = λ e. absurd cc }
gives_new None same refusal Q = record { fact = λ e. refl }

pub skip_needs : (holds : Bool) (refusal : Refusal) (Q : List (Option Answer)) (Fact : Type 0)
    → Gives Q Fact → Gives (needs holds refusal ∷ Q) Fact
skip_needs true refusal Q Fact g = record { fact = λ e. g.fact e }
skip_needs false refusal Q Fact g = record { fact = λ e. absurd cc }

pub skip_finds : {X : Type 0} (o : Option X) (refusal : Refusal) (Q : List (Option Answer))
    (Fact : Type 0) → Gives Q Fact → Gives (finds o refusal ∷ Q) Fact
skip_finds (Some x) refusal Q Fact g = record { fact = λ e. g.fact e }
skip_finds None refusal Q Fact g = record { fact = λ e. absurd cc }

pub skip_new : {X : Type 0} (o : Option X) (same : X → Bool) (refusal : Refusal)
    (Q : List (Option Answer)) (Fact : Type 0) → Gives Q Fact
    → Gives (is_new o same refusal ∷ Q) Fact
skip_new (Some x) same refusal Q Fact g = record { fact = λ e. absurd cc }
skip_new None same refusal Q Fact g = record { fact = λ e. g.fact e }

pub skip_done : (holds : Bool) (Q : List (Option Answer)) (Fact : Type 0) → Gives Q Fact
    → Gives (done_if holds ∷ Q) Fact
skip_done true Q Fact g = record { fact = λ e. absurd cc }
skip_done false Q Fact g = record { fact = λ e. g.fact e }

-- which of them gives a fact
pub ruleset heads = (
  gives_needs,
  gives_finds,
  gives_done,
  gives_new,
  skip_needs,
  skip_finds,
  skip_new,
  skip_done,
)
