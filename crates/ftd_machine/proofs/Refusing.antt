-- Checks that refuse or pass, and never answer with a reply.
use Rattle.std.proofs.Common.{◌≡◌, Bool, true, false, List, [], ◌∷◌, Option, None, Some, Ok}
use Rattle.ftd_machine.specs.Checks.{Answer, first_of, needs, finds}
use Rattle.ftd_machine.specs.declared.replies.Refusal.{Refusal}
use Rattle.ftd_machine.specs.declared.replies.Reply.{Reply}

pub record Refuses (P : List (Option Answer)) : Type 0 where
  pub never : (r : Reply) → first_of P ≡ Some (Ok r) → ⊥

pub refuses_none : Refuses []
refuses_none = record { never = λ r e. absurd cc }

pub refuses_needs : (holds : Bool) (refusal : Refusal) (Q : List (Option Answer)) → Refuses Q
    → Refuses (needs holds refusal ∷ Q)
refuses_needs true refusal Q q = record { never = λ r e. q.never r e }
refuses_needs false refusal Q q = record { never = λ r e. absurd cc }

pub refuses_finds : {X : Type 0} (o : Option X) (refusal : Refusal) (Q : List (Option Answer))
    → Refuses Q → Refuses (finds o refusal ∷ Q)
refuses_finds (Some x) refusal Q q = record { never = λ r e. q.never r e }
refuses_finds None refusal Q q = record { never = λ r e. absurd cc }
