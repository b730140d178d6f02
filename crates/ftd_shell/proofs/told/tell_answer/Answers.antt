use Rattle.std.proofs.Common.{◌≡◌, ◌∙◌, None, Option, Some, ap, refl, sym}
use Rattle.std.specs.Prelude.{is_some, option_map}
use Rattle.ftd_machine.specs.Questions.{question_of}
use Rattle.ftd_machine.specs.declared.requests.Request.{Request}
use Rattle.ftd_replies.specs.Notes.{asked_when_done}
use Rattle.ftd_shell.proofs.told.tell_answer.Goals as goal

still_some : {A B : Type 0} (f : A → B) (given : Option A)
    → is_some (option_map f given) ≡ is_some given
still_some f None = refl
still_some f (Some x) = refl

pub returns : goal.returns
returns g c = λ entered is format_is. record {
  first = c.print_given-first.result;
  prints = rw (is.request_is, is.answer_is, format_is) at c.print_given-first.ensures;
  notes = rw (is.request_is, is.answer_is, is.note_is) at (c.note_given.ensures
      (ap question_of is.request_is ∙ is.no_question)
      (λ some. ap (λ (r : Request). is_some (asked_when_done r)) is.request_is
      ∙ is.asked_after (sym (ap is_some is.note_is)
      ∙ still_some (λ note. note.now) c.args.told.now.note ∙ some)));
}
