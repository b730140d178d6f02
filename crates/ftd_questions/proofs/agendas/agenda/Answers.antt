use Rattle.std.proofs.Common.{◌∙◌, None, Some, ap, refl, rules, sym}
use Rattle.ftd_store.proofs.Turning.{gave_up_after}
use Rattle.ftd_machine.specs.declared.requests.Question.TheVariants as asked
use Rattle.ftd_machine.specs.declared.requests.Request.TheVariants.{Question}
use Rattle.ftd_machine.specs.declared.facts.Facts.TheVariants as facts
use Rattle.ftd_machine.specs.declared.replies.Reply.TheVariants.{Told}
use Rattle.ftd_machine.specs.Told.{agenda_answer}
use Rattle.ftd_entries.proofs.Serving.{served_looked, tells_by}
use Rattle.ftd_questions.proofs.AgendaTold.{agenda_answered, agenda_refused, agenda_refuses}
use Rattle.ftd_questions.proofs.AgendaTold.{due_shown, told_agenda}
use Rattle.ftd_questions.proofs.agendas.agenda.Goals as goal

pub returns-in-Err : goal.returns-in-Err
returns-in-Err g c =
    let from = c.args.from in
    let to = c.args.to in
    let as_of = c.args.as_of in
    record {
      call = served_looked (Question (asked.Agenda from to as_of)) c.in-Err.answer
          c.in_ok-rows.ensures.call
          (λ t s stands sound knows. agenda_refused from to as_of c.in-Err.answer (search rules)
          s);
      shows = tells_by c.in-Err.answer _ c.in_ok-rows.ensures.call
          (λ t knows list is. absurd ((agenda_refuses from to as_of).never
          (Told (facts.Agenda list)) (search rules ∙ ap Some is)));
    }

pub returns-in-Ok : goal.returns-in-Ok
returns-in-Ok g c =
    let from = c.args.from in
    let to = c.args.to in
    let as_of = c.args.as_of in
    let rows = c.in_ok-rows.rows in
    record {
      call = served_looked (Question (asked.Agenda from to as_of))
          (agenda_answer from to as_of c.from_vec.result) c.in_ok-rows.ensures.call
          (λ t s stands sound knows. rw (sym c.from_vec.ensures) at
          (agenda_answered None from to as_of rows.items t s stands sound knows refl (search rules)
          c.in-Ok.rows.items c.in-Ok.ensures.same c.in-Ok.ensures.in_order));
      shows = tells_by (agenda_answer from to as_of c.from_vec.result) _
          c.in_ok-rows.ensures.call (λ t knows list is.
          rw (sym c.from_vec.ensures ∙ told_agenda from to as_of c.from_vec.result list is) at
          (due_shown None from to as_of rows.items c.in-Ok.rows.items t knows
          c.in-Ok.ensures.same c.in-Ok.ensures.by_due_date));
    }

pub returns-in-Err-by_due_date : goal.returns-in-Err-by_due_date
returns-in-Err-by_due_date g c = record {
  call = gave_up_after c.in_ok-rows.ensures.call.frame c.give_up.ensures.frame
      c.give_up.ensures.fails;
  shows = gave_up_after c.in_ok-rows.ensures.call.frame c.give_up.ensures.frame
      c.give_up.ensures.fails;
}
