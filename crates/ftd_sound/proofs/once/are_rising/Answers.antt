use Rattle.std.proofs.Common.{rules, tests, ◌≡◌, ℕ, Bool, true, false, nat_lt, List, refl, sym, ◌∙◌}
use Rattle.std.specs.Prelude.{IsTrue}
use Rattle.std.specs.List.{IsAllAdjacentAnswer}
use Rattle.std.specs.List.Sorted.{IsStrictlyIncreasing}
use Rattle.std.proofs.lemmas.Bool.{false≢true, lt-ltb}
use Rattle.std.proofs.lemmas.List.Sorted.{answers_always}
use borrow.Author.Tests.{ltb-true}
use Rattle.ftd_sound.proofs.once.are_rising.Goals as goal

rising : (xs : List ℕ) (r : Bool) → IsAllAdjacentAnswer (λ x y b. b ≡ nat_lt x y) xs r
    → (IsTrue r → IsStrictlyIncreasing xs) × (IsStrictlyIncreasing xs → IsTrue r)
rising xs true h = (λ _. λ k l. ltb-true _ _ (sym (h k 0 l)), λ _. refl)
rising xs false h =
    (λ e. absurd (false≢true e), λ up. absurd (false≢true (h.2 0 ∙ lt-ltb _ _ (up h.0 h.1))))

pub returns : goal.returns
returns c = rising c.args.numbers.now c.is_sorted_by.result
    (c.is_sorted_by.ensures.cases nat_lt (answers_always _ (λ a r. r ≡ nat_lt a.0.now a.1.0.now) _
    (λ f a r g k. search (rules, tests))))
