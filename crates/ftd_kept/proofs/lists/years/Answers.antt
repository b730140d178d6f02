use Rattle.std.proofs.Common.{◌∙◌, ap₂, ap, refl, rules}
use Rattle.ftd_store.proofs.Telling.{then_reads}
use Rattle.ftd_machine.specs.Checks.{first_of}
use Rattle.ftd_machine.specs.Told.{kept_answer}
use Rattle.ftd_machine.specs.Requests.{kept_of_checks}
use Rattle.ftd_machine.specs.declared.kept.KeptRows.TheVariants as rows
use Rattle.ftd_machine.specs.declared.requests.KeptList.TheVariants as kept
use Rattle.ftd_machine.specs.declared.requests.Question.TheVariants as questions
use Rattle.ftd_machine.specs.declared.requests.Request.TheVariants.{Question}
use Rattle.ftd_machine.proofs.Deciding.{decided, passed}
use Rattle.ftd_entries.specs.Known.{KnowsAccount}
use Rattle.ftd_entries.proofs.Serving.{served_looked}
use Rattle.ftd_kept.specs.Kept.{KnowsYears}
use Rattle.ftd_kept.proofs.lists.years.Goals as goal

pub returns-in-Err : goal.returns-in-Err
returns-in-Err g c = record {
  call = served_looked (Question (questions.Kept (kept.Years c.args.name.now))) c.in-Err.answer
      c.in_ok-found.ensures.call (λ t s stands sound knows.
      decided _ s c.in-Err.answer _ (ap (λ a. first_of (kept_of_checks c.args.name.now a))
      (knows s stands) ∙ search rules));
}

pub returns : goal.returns
returns g c =
    let name = c.args.name.now in
    let account = c.in-Ok-kept_of_check.account in
    let listed = c.in_ok-rows.rows in
    let answer = kept_answer (rows.Years c.in-Ok.owner c.from_vec.result) in
    record {
      call = served_looked (Question (questions.Kept (kept.Years name))) answer
          (then_reads c.in_ok-found.found
          (λ a t. KnowsAccount name a t × KnowsYears name account listed.items t)
          c.in_ok-found.ensures.call c.in_ok-rows.ensures.call (λ t knows years. (knows, years)))
          (λ t s stands sound knows.
          (let years = knows.1 s stands sound
          (knows.0 s stands ∙ c.in-Ok-kept_of_check.ensures.1) in
          passed _ s answer s _
          (ap (λ a. first_of (kept_of_checks name a)) (knows.0 s stands) ∙ search rules) (
            refl,
            record {
              listed = listed.items;
              are_lines = years.are_lines;
              first_lookbacks = years.first_lookbacks;
              told = ap₂ (λ n xs. kept_answer (rows.Years n xs)) c.in-Ok.ensures c.from_vec.ensures;
            },
          )));
    }
