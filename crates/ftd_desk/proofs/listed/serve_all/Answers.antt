use Rattle.std.proofs.Common.{rules, ◌≡◌, ◌∙◌, ◌+◌, ◌∷◌, ◌++◌, [], List, Ok, refl, sym, ap, subst}
use Rattle.std.proofs.Common.{arith, take, length, ℕ, ◌≤◌}
use Rattle.std.proofs.Math.Seq.{take-length}
use Rattle.std.proofs.lemmas.List.{take_more}
use Rattle.ftd_machine.specs.declared.requests.Request.{Request}
use Rattle.ftd_store.specs.Frame.{Calls}
use Rattle.ftd_store.proofs.Going.{fails_after}
use Rattle.ftd_machine.specs.Checks.{Answer}
use Rattle.ftd_desk.specs.Words.{AreAnswers, ServesAll}
use Rattle.ftd_desk.specs.declared.listed.ServedAll.{ServedAll}
use Rattle.ftd_desk.proofs.Together.{answers_first, answers_more, serves_first, serves_more}
use Rattle.ftd_desk.proofs.listed.serve_all.Goals as goal

pub loop-request-init : goal.loop-request-init
loop-request-init g c =
    let served = c.in_ok-served.served in
    let items : c.push_reserved.new.self.items ≡ served.answer ∷ [] = c.push_reserved.ensures.items
    ∙ ap (λ xs. xs ++ served.answer ∷ []) c.in-Ok.ensures.items in
    record {
      count = c.push_reserved.ensures.len ∙ ap (λ n. n + 1) c.in-Ok.ensures.len;
      room = rw c.push_reserved.ensures.capacity c.in-Ok.ensures.capacity;
      serves = serves_first g.S.Store c.args.known c.args.tx.now c.serve_sure.new.tx
          c.args.first.now served
          (record { answers = c.push_reserved.new.self; known = served.known }) items refl
          c.in_ok-served.ensures.call;
      answers = subst (λ (all : List Answer). AreAnswers (c.args.first.now ∷ []) all) (sym items)
          (answers_first c.args.first.now served.answer c.in_ok-served.ensures.sure);
    }

pub loop-request-preserved : goal.loop-request-preserved
loop-request-preserved g c =
    let xs : List Request = c.args.later.now in
    let i = c.loop-request.request-index in
    let x : Request = c.request-item.result in
    let served = c.in_ok-served-2.served in
    let more : take (i + 1) xs ≡ take i xs ++ x ∷ [] = take_more xs i x c.loop-request-test.true
    ∙ ap (λ y. take i xs ++ y ∷ []) (sym c.request-item.is) in
    record {
      count = c.push_reserved-in-loop-request.ensures.len
          ∙ ap (λ n. n + 1) c.loop-request.invariant.count;
      room = rw c.push_reserved-in-loop-request.ensures.capacity c.loop-request.invariant.room;
      serves = rw more
          (serves_more g.S.Store c.args.known c.args.tx.now c.loop-request.tx
          c.serve_sure-in-loop-request.new.tx (c.args.first.now ∷ take i xs)
          (record { answers = c.loop-request.answers; known = c.loop-request.known }) x served
          (record { answers = c.push_reserved-in-loop-request.new.self; known = served.known })
          c.push_reserved-in-loop-request.ensures.items refl c.loop-request.invariant.serves
          c.in_ok-served-2.ensures.call);
      answers = rw (more, c.push_reserved-in-loop-request.ensures.items)
          (answers_more (c.args.first.now ∷ take i xs) c.loop-request.answers.items x served.answer
          c.loop-request.invariant.answers c.in_ok-served-2.ensures.sure);
    }

pub returns-in_err-served-2-clause-call : goal.returns-in_err-served-2-clause-call
returns-in_err-served-2-clause-call g c =
    fails_after (search rules) c.loop-request.invariant.serves.frame
    c.in_err-served-2.ensures.call.frame

-- the loop has come to the end of the list
at_end : (xs : List Request) (i : ℕ) → length xs ≤ i → i ≤ length xs → take i xs ≡ xs
at_end xs i low high = let whole : i ≡ length xs = omega arith in rw whole (take-length xs)

pub returns-clause-call : goal.returns-clause-call
returns-clause-call g c =
    let xs : List Request = c.args.later.now in
    let i = c.loop-request.request-index in
    subst (λ ys. Calls {A = ServedAll} g.S.Store c.args.tx.now c.loop-request.tx
    (Ok (record { answers = c.loop-request.answers; known = c.loop-request.known }))
    (ServesAll c.args.known (c.args.first.now ∷ ys)))
    (at_end xs i c.loop-request-test.false c.loop-request.auto.request-index-end)
    c.loop-request.invariant.serves

pub returns-clause-answers : goal.returns-clause-answers
returns-clause-answers g c =
    let xs : List Request = c.args.later.now in
    let i = c.loop-request.request-index in
    subst (λ ys. AreAnswers (c.args.first.now ∷ ys) c.loop-request.answers.items)
    (at_end xs i c.loop-request-test.false c.loop-request.auto.request-index-end)
    c.loop-request.invariant.answers
