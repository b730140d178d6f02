-- Requests one after the other within a transaction.
use Rattle.std.proofs.Common.{◌≡◌, ◌∙◌, refl, sym, subst, arith, IsTrue, false, Ok, List, [], ◌∷◌}
use Rattle.std.proofs.Common.{◌++◌, length-append}
use Rattle.std.proofs.lemmas.List.Folds.{list_any-append}
use Rattle.sqlite.specs.Store as store
use Rattle.sqlite.specs.State.{HasCleanDisk}
use Rattle.ftd_store.specs.declared.tx.Tx.{Tx}
use Rattle.ftd_store.specs.Frame.{Calls}
use Rattle.ftd_store.proofs.Going.{goes_on, then_goes}
use Rattle.ftd_machine.specs.State.{State}
use Rattle.ftd_machine.specs.Checks.{Answer}
use Rattle.ftd_machine.specs.Step.{Step}
use Rattle.ftd_machine.specs.declared.requests.Request.{Request}
use Rattle.ftd_store.specs.Seen.{shown}
use Rattle.ftd_entries.specs.Words.{IsKept}
use Rattle.ftd_desk.specs.Books.{IsKnown, ServesKnown}
use Rattle.ftd_desk.specs.Words.{AreAnswers, AreSteps, ServesAll, is_fault}
use Rattle.ftd_desk.specs.declared.known.Known.{Known}
use Rattle.ftd_desk.specs.declared.listed.Answered.{Answered}
use Rattle.ftd_desk.specs.declared.listed.ServedAll.{ServedAll}

-- a step more
steps_more : (s : State) (requests : List Request) (answers : List Answer) (mid : State)
    (request : Request) (answer : Answer) (end : State) → AreSteps s requests answers mid
    → Step mid request answer end
    → AreSteps s (requests ++ request ∷ []) (answers ++ answer ∷ []) end
steps_more s [] [] mid request answer end are step =
    (end, subst (λ from. Step from request answer end) are step, refl)
steps_more s [] (a ∷ answers) mid request answer end are step = absurd are
steps_more s (r ∷ requests) [] mid request answer end are step = absurd are
steps_more s (r ∷ requests) (a ∷ answers) mid request answer end are step =
    (are.0, are.1, steps_more are.0 requests answers mid request answer end are.2 step)

-- answers that are no faults
pub answers_first : (request : Request) (answer : Answer) → is_fault answer ≡ false
    → AreAnswers (request ∷ []) (answer ∷ [])
answers_first request answer sure = record { count = refl; no_fault = rw sure refl }

pub answers_more : (requests : List Request) (answers : List Answer) (request : Request)
    (answer : Answer) → AreAnswers requests answers → is_fault answer ≡ false
    → AreAnswers (requests ++ request ∷ []) (answers ++ answer ∷ [])
answers_more requests answers request answer are sure = record {
  count = let first = length-append answers (answer ∷ []) in
      let second = length-append requests (request ∷ []) in let same = are.count in omega arith;
  no_fault = list_any-append is_fault answers (answer ∷ []) ∙ (rw (are.no_fault, sure) refl);
}

module _ {S : Type 0} (g : store.Ghosts S) (known : Known) where
  -- the first request
  pub serves_first : (old new : Tx S) (request : Request) (served : Answered) (all : ServedAll)
      → all.answers.items ≡ served.answer ∷ [] → all.known ≡ served.known
      → Calls g old new (Ok served) (ServesKnown known request) → Calls g old new (Ok all)
      (ServesAll known (request ∷ []))
  serves_first old new request served all answers later c = record {
    frame = goes_on g old new served all c.frame;
    does = λ clean t stands s stands_for sound counted.
        (let done = c.does clean t stands s stands_for sound counted in (
          done.0,
          subst (λ xs. AreSteps s (request ∷ []) xs done.0) (sym answers) (
            done.0,
            done.1,
            refl,
          ),
          done.2,
          subst (λ x. IsKnown x done.0) (sym later) done.3,
        ));
  }

  -- one request more
  pub serves_more : (old mid new : Tx S) (requests : List Request) (before : ServedAll)
      (request : Request) (served : Answered) (all : ServedAll)
      → all.answers.items ≡ before.answers.items ++ served.answer ∷ [] → all.known ≡ served.known
      → Calls g old mid (Ok before) (ServesAll known requests) → Calls g mid new (Ok served)
      (ServesKnown before.known request)
      → Calls g old new (Ok all) (ServesAll known (requests ++ request ∷ []))
  serves_more old mid new requests before request served all answers later p q = record {
    frame = then_goes all p.frame q.frame;
    does = λ clean t stands s stands_for sound counted.
        let first = p.does (omega (arith, q.frame.crash.clean)) t stands s stands_for sound
        counted in
        let kept = first.2 in
        let second = q.does clean kept.tables kept.stands first.0 kept.stands_for kept.sound
        first.3 in (
          second.0,
          subst (λ xs. AreSteps s (requests ++ request ∷ []) xs second.0) (sym answers)
              (steps_more s requests before.answers.items first.0 request served.answer second.0
              first.1 second.1),
          second.2,
          subst (λ x. IsKnown x second.0) (sym later) second.3,
        );
  }

  -- what the requests did within the transaction, as it is seen from without
  pub served_all : (requests : List Request) (taken : Known) (old new : Tx S) (served : ServedAll)
      → taken ≡ known → Calls g old new (Ok served) (ServesAll taken requests)
      → HasCleanDisk (shown g new) → (s : State) → IsKept (shown g old).now s → IsKnown known s
      → (end : State) × AreSteps s requests served.answers.items end × IsKept (shown g new).now end
      × IsTrue (shown g new).is_open × IsKnown served.known end
  served_all requests taken old new served is c clean s k counted =
      let done = c.does clean k.tables k.stands s k.stands_for k.sound
      (subst (λ x. IsKnown x s) (sym is) counted) in
      (done.0, done.1, done.2, (c.frame.stays clean).is_open, done.3)
