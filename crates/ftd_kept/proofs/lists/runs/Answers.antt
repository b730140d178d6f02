use Rattle.std.proofs.Common.{◌≡◌, ◌∙◌, None, ap₂, ap, refl, rules, subst, sym, map}
use Rattle.ftd_rules.specs.Lists.{Has}
use Rattle.ftd_store.specs.Kept.{ListsKeptRuns}
use Rattle.ftd_store.proofs.Telling.{then_reads}
use Rattle.ftd_machine.specs.Checks.{first_of}
use Rattle.ftd_machine.specs.Kept.{IsRunIn}
use Rattle.ftd_machine.specs.Told.{kept_answer}
use Rattle.ftd_machine.specs.Requests.{kept_in_quarter_checks}
use Rattle.ftd_machine.specs.State.{entries_of}
use Rattle.ftd_machine.specs.declared.kept.KeptRows.TheVariants as rows
use Rattle.ftd_machine.specs.declared.requests.KeptList.TheVariants as kept
use Rattle.ftd_machine.specs.declared.requests.Question.TheVariants as questions
use Rattle.ftd_machine.specs.declared.requests.Request.TheVariants.{Question}
use Rattle.ftd_machine.proofs.Deciding.{decided, passed}
use Rattle.ftd_entries.specs.Known.{KnowsAccount}
use Rattle.ftd_entries.proofs.Serving.{served_looked}
use Rattle.ftd_kept.specs.Kept.{kept_run}
use Rattle.ftd_kept.proofs.KeptRuns.{runs_are}
use Rattle.ftd_entries.proofs.QuarterDays.{early_quarter}
use Rattle.ftd_kept.proofs.lists.runs.Goals as goal

pub returns-in-Err : goal.returns-in-Err
returns-in-Err g c = record {
  call = served_looked (Question (questions.Kept (kept.Runs c.args.name.now c.args.quarter)))
      c.in-Err.answer (then_reads c.in_ok-account.account
      (KnowsAccount c.args.name.now) c.in_ok-account.ensures.call c.in_ok-found.ensures.call
      (λ t knows lists. knows)) (λ t s stands sound knows. decided _ s c.in-Err.answer _
      (ap (λ a. first_of (kept_in_quarter_checks c.args.name.now c.args.quarter a))
      (knows s stands) ∙ search rules));
}

pub returns-in-Ok-told_runs : goal.returns-in-Ok-told_runs
returns-in-Ok-told_runs g c =
    let name = c.args.name.now in
    let quarter = c.args.quarter in
    let account = c.in_ok-account.account in
    let found = c.in_ok-found.found in
    let is : first_of (kept_in_quarter_checks name quarter account) ≡ None = search rules in
    let told = c.in-Ok-told_runs.ensures in
    let answer = kept_answer (rows.Runs c.in-Ok.owner c.args.quarter c.from_vec.result) in
    record {
      call = served_looked (Question (questions.Kept (kept.Runs name quarter))) answer
          (then_reads account
          (λ a t. KnowsAccount name a t × ListsKeptRuns name c.first.result c.last.result found t)
          c.in_ok-account.ensures.call c.in_ok-found.ensures.call
          (λ t knows lists. (knows, lists)))
          (λ t s stands sound knows. passed _ s answer s _
          (ap (λ a. first_of (kept_in_quarter_checks name quarter a)) (knows.0 s stands) ∙ is) (
            refl,
            record {
              listed = c.in-Ok-told_runs.rows.items;
              in_order = told.in_order;
              all = λ x. subst (λ xs. (Has xs x → IsRunIn (entries_of s name) quarter x)
                  × (IsRunIn (entries_of s name) quarter x → Has xs x))
                  (sym (told.told ∙ ap (map kept_run) c.deref.ensures.value))
                  (runs_are name quarter c.last.result c.last.ensures
                  (early_quarter name quarter account is) t s stands sound found.items
                  (subst (λ d. ListsKeptRuns name d c.last.result found t) c.first.ensures knows.1)
                  x);
              told = ap₂ (λ n xs. kept_answer (rows.Runs n c.args.quarter xs))
                  c.in-Ok.ensures c.from_vec.ensures;
            },
          ));
    }
