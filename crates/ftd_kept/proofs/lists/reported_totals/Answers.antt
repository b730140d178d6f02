use Rattle.std.proofs.Common.{◌∙◌, ap₂, ap, refl, rules, subst, sym}
use Rattle.ftd_rules.specs.Lists.{Has}
use Rattle.ftd_store.proofs.Telling.{then_reads}
use Rattle.ftd_machine.specs.Checks.{first_of}
use Rattle.ftd_machine.specs.Kept.{IsTotal}
use Rattle.ftd_machine.specs.Told.{kept_answer}
use Rattle.ftd_machine.specs.Requests.{kept_of_checks}
use Rattle.ftd_machine.specs.History.{form_of}
use Rattle.ftd_machine.specs.State.{entries_of}
use Rattle.ftd_machine.specs.declared.kept.KeptRows.TheVariants as rows
use Rattle.ftd_machine.specs.declared.requests.KeptList.TheVariants as kept
use Rattle.ftd_machine.specs.declared.requests.Question.TheVariants as questions
use Rattle.ftd_machine.specs.declared.requests.Request.TheVariants.{Question}
use Rattle.ftd_machine.proofs.Deciding.{decided, passed}
use Rattle.ftd_entries.specs.Known.{KnowsAccount}
use Rattle.ftd_entries.proofs.Serving.{served_looked}
use Rattle.ftd_kept.specs.Kept.{KnowsTotals}
use Rattle.ftd_kept.proofs.lists.reported_totals.Goals as goal

pub returns-in-Err : goal.returns-in-Err
returns-in-Err g c = record {
  call = served_looked (Question (questions.Kept (kept.Reported c.args.name.now))) c.in-Err.answer
      c.in_ok-found.ensures.call (λ t s stands sound knows.
      decided _ s c.in-Err.answer _ (ap (λ a. first_of (kept_of_checks c.args.name.now a))
      (knows s stands) ∙ search rules));
}

pub returns : goal.returns
returns g c =
    let name = c.args.name.now in
    let listed = c.in_ok-rows.rows in
    let answer = kept_answer (rows.Reported c.in-Ok.owner c.from_vec.result) in
    record {
      call = served_looked (Question (questions.Kept (kept.Reported name))) answer
          (then_reads c.in_ok-found.found (λ a t. KnowsAccount name a t
          × KnowsTotals name c.in-Ok-kept_of_check.account.form listed.items t)
          c.in_ok-found.ensures.call c.in_ok-rows.ensures.call (λ t knows totals. (knows, totals)))
          (λ t s stands sound knows. passed _ s answer s _
          (ap (λ a. first_of (kept_of_checks name a)) (knows.0 s stands) ∙ search rules) (
            refl,
            record {
              listed = listed.items;
              by_period = knows.1.by_period;
              all = λ x. subst (λ f. (Has listed.items x → IsTotal f (entries_of s name) x)
                  × (IsTotal f (entries_of s name) x → Has listed.items x))
                  (sym (ap form_of (knows.0 s stands ∙ c.in-Ok-kept_of_check.ensures.1)))
                  (knows.1.all s stands sound x);
              told = ap₂ (λ n xs. kept_answer (rows.Reported n xs)) c.in-Ok.ensures c.from_vec.ensures;
            },
          ));
    }
