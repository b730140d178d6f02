use Rattle.std.proofs.Common.{Ok, Err, ◌∙◌, sym}
use Rattle.ftd_store.proofs.Telling.{reads_on, then_reads}
use Rattle.ftd_questions.specs.Telling.{KnowsAsked}
use Rattle.ftd_questions.proofs.DueTold.{due_refused, due_passes}
use Rattle.ftd_questions.proofs.asking.asked.Goals as goal

pub returns-in-Err-clause-call : goal.returns-in-Err-clause-call
returns-in-Err-clause-call g c =
    let name = c.args.name.now in
    let known = c.in_ok-before.before in
    reads_on (Err c.in-Err.refusal) (KnowsAsked name c.args.quarter c.args.as_of)
    c.in_ok-before.ensures.call
    (λ t knows s stands. due_refused name c.args.quarter c.args.as_of known (Err c.in-Err.refusal)
    c.in-Err.ensures.refused t s stands knows)

pub returns-clause-call : goal.returns-clause-call
returns-clause-call g c =
    let name = c.args.name.now in
    let known = c.in_ok-before.before in
    let passed = c.in-Ok.ensures.passed in
    then_reads (Ok c.in_ok-known.known) (KnowsAsked name c.args.quarter c.args.as_of)
    c.in_ok-before.ensures.call c.in_ok-known.ensures.call (λ t knows reads. (
      reads,
      due_passes name c.args.quarter c.args.as_of known c.in_ok-known.known.form passed.0
          (passed.1 ∙ sym c.in_ok-known.ensures.form) t knows,
    ))
