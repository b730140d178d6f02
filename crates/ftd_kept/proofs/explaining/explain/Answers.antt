use Rattle.std.proofs.Common.{◌∙◌, Some, refl, rules, ap, subst}
use Rattle.ftd_store.specs.Finds.{FindsForm}
use Rattle.ftd_store.proofs.Telling.{then_reads}
use Rattle.ftd_machine.specs.History.{form_of}
use Rattle.ftd_machine.specs.Told.{explained_answer}
use Rattle.ftd_machine.specs.declared.facts.Facts.TheVariants.{Explained}
use Rattle.ftd_machine.specs.declared.replies.Reply.TheVariants.{Told}
use Rattle.ftd_machine.specs.declared.requests.Question.TheVariants.{Explain}
use Rattle.ftd_machine.specs.declared.requests.Request.TheVariants.{Question}
use Rattle.ftd_machine.proofs.Deciding.{decided, passed}
use Rattle.ftd_entries.specs.Known.{KnowsLines}
use Rattle.ftd_entries.proofs.Reading.{three_told}
use Rattle.ftd_entries.proofs.Serving.{served_looked, tells_by}
use Rattle.ftd_entries.proofs.Settling.{owes}
use Rattle.ftd_kept.specs.Explained.{KnowsExplained, ShowsExplained, ShowsFound}
use Rattle.ftd_kept.proofs.Scheduling.{account_and_lines, checks_are, status_refuses}
use Rattle.ftd_kept.proofs.TablesExplained.{told_found}
use Rattle.ftd_kept.proofs.explaining.explain.Goals as goal

pub returns-in-Err : goal.returns-in-Err
returns-in-Err g c = record {
  call = served_looked (Question (Explain c.args.name.now c.args.day)) c.in-Err.answer
      (account_and_lines c.args.name.now c.in_ok-account.ensures.call c.in_ok-lines.ensures.call)
      (λ t s stands sound knows. decided _ s c.in-Err.answer _
      (checks_are c.args.name.now c.args.day _ _ t s stands (knows s stands).0 (knows s stands).1
      ∙ search rules));
  shows = tells_by c.in-Err.answer (ShowsExplained c.args.name.now c.args.day)
      (account_and_lines c.args.name.now c.in_ok-account.ensures.call c.in_ok-lines.ensures.call)
      (λ t knows told is. absurd ((status_refuses c.args.name.now c.args.day
      c.in_ok-account.account c.has_year-there.result).never (Told (Explained told))
      (search rules ∙ ap Some is)));
}

pub returns : goal.returns
returns g c =
    let name = c.args.name.now in
    let day = c.args.day in
    let lines = c.in_ok-lines.lines.items in
    let account = c.in_ok-account.account in
    let form = c.in-Ok-status_check.account.form in
    let explained = c.in_ok-found.found in
    let answer = explained_answer c.in-Ok.owner day explained in
    record {
      call = served_looked (Question (Explain name day)) answer (then_reads explained
          (λ x t. KnowsLines name account lines t × KnowsExplained name form lines day x t)
          (account_and_lines name c.in_ok-account.ensures.call c.in_ok-lines.ensures.call)
          c.in_ok-found.ensures.call (λ t first second. (
            first,
            subst (λ xs. KnowsExplained name form xs day explained t) c.deref-2.ensures.value
                second.0,
          )))
          (λ t s stands sound knows. (let told = knows.0 s stands in
          passed _ s answer s _
          (checks_are name day account lines t s stands told.0 told.1 ∙ search rules) (
            refl,
            record {
              owed = (stands.settled name).owed;
              are_owed = owes (stands.settled name);
              explained = explained;
              is_explained = knows.1 s stands sound
                  (ap form_of (told.0 ∙ c.in-Ok-status_check.ensures.1)) told.1;
              told = ap (λ n. explained_answer n day explained) c.in-Ok.ensures;
            },
          )));
      shows = tells_by answer (ShowsExplained name day) (three_told c.in_ok-account.ensures.form
          c.in_ok-lines.ensures.call c.in_ok-found.ensures.call explained
          (λ x t. FindsForm name (Some form) t × ShowsFound name form day x t)
          (λ t has lists found. (
            has c.in-Ok-status_check.account c.in-Ok-status_check.ensures.1,
            found.1,
          ))) (λ t knows told is. (
            form,
            knows.0,
            subst (λ x. ShowsFound name form day x t)
                (told_found c.in-Ok.owner day explained told is) knows.1,
          ));
    }
