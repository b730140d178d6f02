-- A refusal, and what was asked of the desk for its hints.
use Rattle.std.proofs.Common.{◌≡◌, IsTrue, Result, Err, Ok, inl, inr, refl}
use Rattle.std.specs.Prelude.{IfErr, IfOk}
use Rattle.ftd_machine.specs.declared.replies.Refusal.TheVariants as refusal
use Rattle.sqlite.specs.State.{HasCleanDisk}
use Rattle.sqlite.specs.Tree.{Trees}
use Rattle.sqlite.proofs.StateLemmas.{survives_then}
use Rattle.ftd_machine.specs.State.{State}
use Rattle.ftd_machine.specs.declared.replies.Refusal.{Refusal}
use Rattle.ftd_machine.specs.declared.replies.Reply.{Reply}
use Rattle.ftd_machine.specs.declared.requests.Request.{Request}
use Rattle.ftd_desk.specs.Desks.{Held, Keeps, KeepsIfOpen}
use Rattle.ftd_desk.specs.Telling.{StandsAsBefore}
use Rattle.ftd_desk.specs.Words.{Handles, MayLeave}
use Rattle.ftd_machine.specs.Runs.{IsFault}
use Rattle.ftd_replies.specs.declared.hints.HintFacts.{HintFacts}
use Rattle.ftd_replies.specs.declared.hints.HintFacts.TheVariants.{Nothing}
use Rattle.ftd_program.specs.Mending.{KnowsAfter, KnowsFor, KnowsOf, or_nothing}

-- what was answered is known, or it is a fault
pub known_of : (s : State) (request : Request) (refusal : Refusal)
    (known : Result HintFacts Refusal)
    → IfOk known (KnowsFor s request refusal) → IfErr known (λ fault. IsFault (Err fault))
    → KnowsOf s request (Err refusal) known
known_of s request refusal (Ok known) knows faults = knows
known_of s request refusal (Err fault) knows faults = faults

-- nothing is known for want of memory and a fault of the store
pub nothing_of : (s : State) (request : Request) (refusal : Refusal)
    (known : Result HintFacts Refusal)
    → IsFault (Err refusal) → IfOk known (KnowsFor s request refusal)
    → or_nothing known ≡ Nothing
nothing_of s request refusal.Memory (Ok known) fault knows = knows
nothing_of s request refusal.Store (Ok known) fault knows = knows
nothing_of s request refused (Ok known) (inl is) knows = absurd cc
nothing_of s request refused (Ok known) (inr is) knows = absurd cc
nothing_of s request refusal (Err f) fault knows = refl

-- a question after a question leaves what stood before both
pub stands_on : (a b c : Held) → StandsAsBefore a b → StandsAsBefore b c → StandsAsBefore a c
stands_on a b c first second = record {
  honest = λ clean. first.honest (second.honest clean);
  opens = λ clean is_open. first.opens (second.honest clean) (second.opens clean is_open);
  stands = λ clean is_open s keeps. second.stands clean is_open s
      (first.stands (second.honest clean) (second.opens clean is_open) s keeps);
  crash = survives_then a.db b.db c.db (λ _. ⊥) (λ _. ⊥) (λ _. ⊥) (λ clean left none. none)
      (λ clean left none. none) first.crash second.crash;
}

-- what was kept before it is kept after it
pub keeps_on : (a b : Held) (s : State) → StandsAsBefore a b → HasCleanDisk b.db → KeepsIfOpen a s
    → KeepsIfOpen b s
keeps_on a b s stands clean keeps =
    λ is_open. stands.stands clean is_open s (keeps (stands.opens clean is_open))

module _ (a b c : Held) (request : Request) (refusal : Refusal)
    (handles : Handles a b request (Err refusal)) (stands : StandsAsBefore b c) where
  -- what a crash may leave of the request
  abbrev MayBeLeft : Trees → Type 0
  MayBeLeft left = IsTrue a.db.is_open × ((s : State) → Keeps a s → MayLeave s request left)

  -- the question leaves what the request left
  pub still_handles : Handles a c request (Err refusal)
  still_handles = record {
    honest = λ clean. handles.honest (stands.honest clean);
    opens = λ clean is_open. handles.opens (stands.honest clean) (stands.opens clean is_open);
    answered = λ clean s keeps.
        let first = handles.answered (stands.honest clean) s keeps in (
          first.0,
          first.1,
          λ is_open. stands.stands clean is_open first.0
              (first.2 (stands.opens clean is_open)),
        );
    shut = λ clean. handles.shut (stands.honest clean);
    crash = survives_then a.db b.db c.db MayBeLeft (λ _. ⊥) MayBeLeft (λ clean left may. may)
        (λ clean left none. absurd none) handles.crash stands.crash;
    lasts = λ clean is. absurd cc;
    keeps = λ is no. survives_then a.db b.db c.db (λ _. ⊥) (λ _. ⊥) (λ _. ⊥)
        (λ clean left none. none) (λ clean left none. none) (handles.keeps is no) stands.crash;
  }

  -- what it told is so of the state after the request
  pub knows_after : (known : Result HintFacts Refusal) → (HasCleanDisk c.db
      → (s : State) → KeepsIfOpen b s → IfOk known (KnowsFor s request refusal))
      → IfErr known (λ fault. IsFault (Err fault))
      → KnowsAfter a c request (Err refusal) known
  knows_after known knows faults = λ clean s keeps.
      let first = handles.answered (stands.honest clean) s keeps in (
        first.0,
        first.1,
        known_of first.0 request refusal known
            (knows clean first.0 first.2) faults,
      )

-- after a reply nothing more is asked
pub answered_after : (a b : Held) (request : Request) (reply : Reply)
    → Handles a b request (Ok reply) → KnowsAfter a b request (Ok reply) (Ok Nothing)
answered_after a b request reply handles = λ clean s keeps.
    let first = handles.answered clean s keeps in (first.0, first.1, tt)
