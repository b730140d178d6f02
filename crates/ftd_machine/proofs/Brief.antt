-- Answers that are no list, or one whose amounts are together below the end.
use Rattle.std.proofs.Common.{◌≡◌, inl, inr, sym, subst, ℕ, Bool, true, false, List, [], ◌∷◌}
use Rattle.std.proofs.Common.{if◌then◌else◌, Option, None, Some, Ok, Err}
use Rattle.ftd_machine.specs.State.{State, Entries, entries_of}
use Rattle.ftd_machine.specs.Checks.{Answer, Decides, first_of, needs, done_if, finds, is_new}
use Rattle.ftd_machine.specs.Laws.{IsBounded}
use Rattle.ftd_machine.specs.Posting.{IsPosted}
use Rattle.ftd_machine.specs.Step.{OpensNext, may_open}
use Rattle.ftd_machine.specs.declared.replies.Reply.TheVariants.{Done, Already}
use Rattle.ftd_machine.specs.declared.replies.Refusal.{Refusal}
use Rattle.ftd_machine.proofs.Deciding.{either}
use Rattle.ftd_machine.proofs.Heads.{Refuses}

-- the answer is no list, or one that is bounded
abbrev pub AnswersBounded : Answer → Type 0
AnswersBounded (Ok reply) = IsBounded reply
AnswersBounded (Err refusal) = Unit {0}

-- ---- checks

-- the first check that answers, if one does, answers so
abbrev IsBrief : Option Answer → Type 0
IsBrief None = Unit {0}
IsBrief (Some answer) = AnswersBounded answer

pub record AreBrief (P : List (Option Answer)) : Type 0 where
  pub told : IsBrief (first_of P)

pub brief_none : AreBrief []
brief_none = record { told = tt }

pub brief_needs : (holds : Bool) (refusal : Refusal) (Q : List (Option Answer)) → AreBrief Q
    → AreBrief (needs holds refusal ∷ Q)
brief_needs true refusal Q brief = record { told = brief.told }
brief_needs false refusal Q brief = record { told = tt }

pub brief_done : (holds : Bool) (Q : List (Option Answer)) → AreBrief Q
    → AreBrief (done_if holds ∷ Q)
brief_done true Q brief = record { told = tt }
brief_done false Q brief = record { told = brief.told }

pub brief_finds : {X : Type 0} (o : Option X) (refusal : Refusal) (Q : List (Option Answer))
    → AreBrief Q → AreBrief (finds o refusal ∷ Q)
brief_finds None refusal Q brief = record { told = tt }
brief_finds (Some x) refusal Q brief = record { told = brief.told }

brief_same : (same : Bool) (refusal : Refusal)
    → AnswersBounded (if same then Ok Already else Err refusal)
brief_same true refusal = tt
brief_same false refusal = tt

pub brief_new : {X : Type 0} (o : Option X) (same : X → Bool) (refusal : Refusal)
    (Q : List (Option Answer)) → AreBrief Q → AreBrief (is_new o same refusal ∷ Q)
brief_new None same refusal Q brief = record { told = brief.told }
brief_new (Some x) same refusal Q brief = record { told = brief_same (same x) refusal }

pub ruleset briefs = (brief_none, brief_needs, brief_done, brief_finds, brief_new)

pub brief_refusal : (Q : List (Option Answer)) → Refuses Q → AreBrief Q
brief_refusal Q refuses = record {
  told = elim refuses.told [
    | inl none ↦ subst IsBrief (sym none) tt
    | inr some ↦ subst IsBrief (sym some.1) tt
  ];
}

-- the checks decide, or what stands last does
pub decided : (s : State) (answer : Answer) (new : State) (P : List (Option Answer)) (Else : Type 0)
    → AreBrief P → (Else → AnswersBounded answer) → Decides (first_of P) s answer new Else
    → AnswersBounded answer
decided s answer new P Else brief otherwise step =
    elim (either (first_of P) s answer new Else step) [
      | inl same ↦ rw same.0 at brief.told
      | inr passed ↦ otherwise passed.1
    ]

-- ---- what stands last

pub is_done : (answer : Answer) (new after : State) → (answer ≡ Ok Done) × (new ≡ after)
    → AnswersBounded answer
is_done answer new after done = subst AnswersBounded (sym done.0) tt

pub opens_next : (s : State) (answer : Answer) (new : State) (name : List ℕ) (year : ℕ)
    → OpensNext s answer new name year → AnswersBounded answer
opens_next s answer new name year (inl missing) = subst AnswersBounded (sym missing.2.0) tt
opens_next s answer new name year (inr found) =
    decided s answer new (may_open (entries_of s name) year) _ (brief_needs _ _ [] brief_none)
    (λ done. is_done answer new _ done) found.2

pub is_posted : (holidays : List ℕ) (own after : Entries) (payday : ℕ) (answer : Answer)
    → IsPosted holidays own after payday answer → AnswersBounded answer
is_posted holidays own after payday answer h = subst AnswersBounded (sym h.told) tt
