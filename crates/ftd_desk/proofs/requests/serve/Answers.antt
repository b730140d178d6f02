use Rattle.std.proofs.Common.{◌∙◌, refl, sym, ap}
use Rattle.ftd_store.proofs.Going.{goes_on}
use Rattle.ftd_machine.specs.Laws.{adds_entry, is_on_run}
use Rattle.ftd_machine.specs.declared.requests.Request.TheVariants.{Enter, Post, Void, Pay, VoidPay}
use Rattle.ftd_machine.specs.declared.requests.Request.TheVariants.{Correct, Question}
use Rattle.ftd_posting.specs.Repaired.{Repairs}
use Rattle.ftd_desk.proofs.Counting.{entry_counted}
use Rattle.ftd_desk.proofs.Repairing.{entry_repairs, answer_repairs, call_repairs, post_repairs}
use Rattle.ftd_desk.proofs.Repairing.{told_quietly}
use Rattle.ftd_desk.proofs.requests.serve.Goals as goal
use Rattle.ftd_desk.proofs.requests.serve.Goals.{in-Enter+in_ok-answer-in-Enter}
use Rattle.ftd_desk.proofs.requests.serve.Goals.{in-Void+in_ok-answer-in-Void}
use Rattle.ftd_desk.proofs.requests.serve.Goals.{in-VoidPay+in_ok-answer-in-VoidPay}
use Rattle.ftd_desk.proofs.requests.serve.Goals.{in-Correct+in_ok-answer-in-Correct}
use Rattle.ftd_desk.proofs.requests.serve.Goals.{in-Question+in_ok-answer-in-Question}

pub returns-in-Post-clause-repairs : goal.returns-in-Post-clause-repairs
returns-in-Post-clause-repairs g c =
    let post = c.in-Post in
    post_repairs g.S.Store c.args.tx.now c.serve_post.new.tx c.serve_post.result
    c.args.request.now c.as_str.result.now post.number post.run'
    (post.is ∙ ap (λ name. Post name post.number post.run') (sym c.as_str.ensures))
    c.serve_post.ensures.repairs

pub returns-in-Pay-clause-repairs : goal.returns-in-Pay-clause-repairs
unfolding is_on_run
returns-in-Pay-clause-repairs g c =
    call_repairs g.S.Store c.args.tx.now c.serve_pay.new.tx c.serve_pay.result c.args.request.now
    (ap is_on_run c.in-Pay.is) c.serve_pay.ensures.call

pub returns-clause-call : goal.returns-clause-call
unfolding adds_entry
returns-clause-call g c = elim c.match-request.branch [
  | in-Enter+in_ok-answer-in-Enter w ↦ rw (w.tx-is, w.answer-is, w.in-Enter.is)
      (entry_counted g.S.Store _ _ _ _ (Enter w.in-Enter.entry) refl w.in_ok-answer-in-Enter.ensures)
  | in-Void+in_ok-answer-in-Void w ↦ rw (w.tx-is, w.answer-is, w.in-Void.is)
      (entry_counted g.S.Store _ _ _ _ (Void w.in-Void.account w.in-Void.number) refl
      (rw w.as_str-in-Void.ensures at w.in_ok-answer-in-Void.ensures.call))
  | in-VoidPay+in_ok-answer-in-VoidPay w ↦ rw (w.tx-is, w.answer-is, w.in-VoidPay.is)
      (entry_counted g.S.Store _ _ _ _ (VoidPay w.in-VoidPay.account w.in-VoidPay.number) refl
      (rw w.as_str-in-VoidPay.ensures at w.in_ok-answer-in-VoidPay.ensures.call))
  | in-Correct+in_ok-answer-in-Correct w ↦ rw (w.tx-is, w.answer-is, w.in-Correct.is)
      (entry_counted g.S.Store _ _ _ _ (Correct w.in-Correct.number w.in-Correct.correction) refl
      w.in_ok-answer-in-Correct.ensures.call)
  | in-Question+in_ok-answer-in-Question w ↦ rw (w.tx-is, w.answer-is, w.in-Question.is)
      (entry_counted g.S.Store _ _ _ _ (Question w.in-Question.question) refl
      w.in_ok-answer-in-Question.ensures.call)
]

pub returns-clause-repairs : goal.returns-clause-repairs
unfolding is_on_run Repairs
returns-clause-repairs g c = elim c.match-request.branch [
  | in-Enter+in_ok-answer-in-Enter w ↦ rw (w.tx-is, w.answer-is, w.in-Enter.is)
      (entry_repairs g.S.Store _ _ _ _ (Enter w.in-Enter.entry) refl w.in_ok-answer-in-Enter.ensures)
  | in-Void+in_ok-answer-in-Void w ↦ rw (w.tx-is, w.answer-is, w.in-Void.is)
      (answer_repairs g.S.Store _ _ _ _ (Repairs (Void w.in-Void.account w.in-Void.number)) refl
      (rw w.as_str-in-Void.ensures at w.in_ok-answer-in-Void.ensures.repairs))
  | in-VoidPay+in_ok-answer-in-VoidPay w ↦ rw (w.tx-is, w.answer-is, w.in-VoidPay.is)
      (entry_repairs g.S.Store _ _ _ _ (VoidPay w.in-VoidPay.account w.in-VoidPay.number) refl
      w.in_ok-answer-in-VoidPay.ensures.call)
  | in-Correct+in_ok-answer-in-Correct w ↦ rw (w.tx-is, w.answer-is, w.in-Correct.is)
      (answer_repairs g.S.Store _ _ _ _
      (Repairs (Correct w.in-Correct.number w.in-Correct.correction)) refl
      w.in_ok-answer-in-Correct.ensures.repairs)
  | in-Question+in_ok-answer-in-Question w ↦ rw (w.tx-is, w.answer-is, w.in-Question.is)
      (entry_repairs g.S.Store _ _ _ _ (Question w.in-Question.question) refl
      w.in_ok-answer-in-Question.ensures.call)
]

pub returns-clause-shows : goal.returns-clause-shows
returns-clause-shows g c = elim c.match-request.branch [
  | in-Enter+in_ok-answer-in-Enter w ↦ rw (w.tx-is, w.answer-is, w.in-Enter.is)
      (told_quietly g.S.Store _ _ _ _ w.in_ok-answer-in-Enter.ensures)
  | in-Void+in_ok-answer-in-Void w ↦ rw (w.tx-is, w.answer-is, w.in-Void.is)
      (told_quietly g.S.Store _ _ _ _ w.in_ok-answer-in-Void.ensures.call)
  | in-VoidPay+in_ok-answer-in-VoidPay w ↦ rw (w.tx-is, w.answer-is, w.in-VoidPay.is)
      (told_quietly g.S.Store _ _ _ _ w.in_ok-answer-in-VoidPay.ensures.call)
  | in-Correct+in_ok-answer-in-Correct w ↦ rw (w.tx-is, w.answer-is, w.in-Correct.is)
      (told_quietly g.S.Store _ _ _ _ w.in_ok-answer-in-Correct.ensures.call)
  | in-Question+in_ok-answer-in-Question w ↦ rw (w.tx-is, w.answer-is, w.in-Question.is)
      (record {
        frame = goes_on g.S.Store _ _ _ _ w.in_ok-answer-in-Question.ensures.shows.frame;
        does = λ clean t stands. w.in_ok-answer-in-Question.ensures.shows.does clean t stands;
      })
]
