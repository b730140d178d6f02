use Rattle.std.proofs.Common.{◌≡◌, ◌≤◌, ℕ, All, List, arith, length, refl, subst, take}
use Rattle.std.proofs.Math.Seq.{take-length}
use Rattle.std.proofs.lemmas.List.Elements.{All-more}
use Rattle.ftd_machine.specs.Checks.{Answer}
use Rattle.ftd_desk.specs.Unrefused.{IsReply}
use Rattle.ftd_desk.proofs.unrefused.are_replies.Goals as goal

pub loop-answer-preserved : goal.loop-answer-preserved
loop-answer-preserved c =
    let xs : List Answer = c.args.answers.now in
    let x : Answer = c.answer-item.result in
    All-more IsReply xs c.loop-answer.answer-index x c.loop-answer-test.true
    c.loop-answer.invariant
    (subst IsReply c.answer-item.is (c.is_reply.ensures.0 c.if-not-is_reply.false))

-- the loop has come to the end of the list
at_end : (xs : List Answer) (i : ℕ) → length xs ≤ i → i ≤ length xs → take i xs ≡ xs
at_end xs i low high = let whole : i ≡ length xs = omega arith in rw whole (take-length xs)

pub returns : goal.returns
returns c = (
  λ told. subst (All IsReply)
      (at_end c.args.answers.now c.loop-answer.answer-index c.loop-answer-test.false
      c.loop-answer.auto.answer-index-end) c.loop-answer.invariant,
  λ all. refl,
)
