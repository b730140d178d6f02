use Rattle.std.proofs.Common.{◌≡◌, ◌∙◌, Some, ap, refl, rules, subst, sym}
use Rattle.ftd_days.proofs.Months.{month_start-zero}
use Rattle.ftd_store.proofs.Turning.{gave_up_after}
use Rattle.ftd_machine.specs.declared.requests.Question.TheVariants.{Owed}
use Rattle.ftd_machine.specs.declared.requests.Request.TheVariants.{Question}
use Rattle.ftd_machine.specs.declared.facts.Facts.TheVariants as facts
use Rattle.ftd_machine.specs.declared.replies.Reply.TheVariants.{Told}
use Rattle.ftd_machine.specs.Told.{owed_answer}
use Rattle.ftd_entries.proofs.Serving.{served_looked, tells_by}
use Rattle.ftd_questions.proofs.AgendaTold.{due_shown, owed_answered, owed_refused}
use Rattle.ftd_questions.proofs.AgendaTold.{owed_refuses, told_owed}
use Rattle.ftd_questions.specs.Shown.{ShowsDue}
use Rattle.ftd_questions.proofs.agendas.owed_list.Goals as goal

pub returns-in-Err : goal.returns-in-Err
returns-in-Err g c =
    let until = c.args.until in
    let as_of = c.args.as_of in
    record {
      call = served_looked (Question (Owed until as_of)) c.in-Err.answer c.in_ok-rows.ensures.call
          (λ t s stands sound knows. owed_refused until as_of c.in-Err.answer (search rules) s);
      shows = tells_by c.in-Err.answer _ c.in_ok-rows.ensures.call
          (λ t knows list is. absurd ((owed_refuses until as_of).never (Told (facts.Owed list))
          (search rules ∙ ap Some is)));
    }

pub returns-in-Ok : goal.returns-in-Ok
returns-in-Ok g c =
    let until = c.args.until in
    let as_of = c.args.as_of in
    let rows = c.in_ok-rows.rows in
    let first : c.first_of_month-from.result ≡ 0 =
    c.first_of_month-from.ensures.value ∙ month_start-zero in
    record {
      call = served_looked (Question (Owed until as_of)) (owed_answer until as_of c.from_vec.result)
          c.in_ok-rows.ensures.call (λ t s stands sound knows. rw (sym c.from_vec.ensures) at
          (owed_answered (Some as_of) c.first_of_month-from.result until as_of rows.items t s stands
          sound knows refl first (search rules) c.in-Ok.rows.items c.in-Ok.ensures.same
          c.in-Ok.ensures.in_order));
      shows = tells_by (owed_answer until as_of c.from_vec.result) _
          c.in_ok-rows.ensures.call (λ t knows list is.
          rw (sym c.from_vec.ensures ∙ told_owed until as_of c.from_vec.result list is) at
          (subst (λ n. ShowsDue (Some as_of) n until c.in-Ok.rows.items t) first
          (due_shown (Some as_of) c.first_of_month-from.result until as_of rows.items
          c.in-Ok.rows.items t knows c.in-Ok.ensures.same c.in-Ok.ensures.by_due_date)));
    }

pub returns-in-Err-by_due_date : goal.returns-in-Err-by_due_date
returns-in-Err-by_due_date g c = record {
  call = gave_up_after c.in_ok-rows.ensures.call.frame c.give_up.ensures.frame
      c.give_up.ensures.fails;
  shows = gave_up_after c.in_ok-rows.ensures.call.frame c.give_up.ensures.frame
      c.give_up.ensures.fails;
}
