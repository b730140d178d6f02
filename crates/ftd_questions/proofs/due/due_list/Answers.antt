use Rattle.std.proofs.Common.{◌≡◌, ◌+◌, ◌∙◌, Some, None, rules, sym, ap, subst}
use Rattle.ftd_days.specs.Holidays.{holidays_of}
use Rattle.ftd_store.specs.Holidays.{HasYears}
use Rattle.ftd_store.proofs.Telling.{then_reads}
use Rattle.ftd_machine.specs.declared.requests.Question.TheVariants.{DueList}
use Rattle.ftd_machine.specs.declared.requests.Request.TheVariants.{Question}
use Rattle.ftd_machine.specs.declared.facts.DueList.{DueList as DueListRow}
use Rattle.ftd_machine.specs.declared.facts.Facts.TheVariants.{Due}
use Rattle.ftd_machine.specs.Step.{Step}
use Rattle.ftd_machine.specs.Told.{due_answer}
use Rattle.ftd_machine.specs.declared.replies.Reply.TheVariants.{Told}
use Rattle.ftd_entries.proofs.Serving.{served_looked, tells_by}
use Rattle.ftd_questions.specs.DueRows.{KnowsForDue, KnowsYears}
use Rattle.ftd_questions.specs.Shown.{KnowsQuarter, ShowsList}
use Rattle.ftd_questions.proofs.DueTold.{checks, due_decided, due_told}
use Rattle.ftd_questions.proofs.Shown.{due_list_refuses, told_list}
use Rattle.ftd_questions.proofs.due.due_list.Goals as goal

pub returns-in-Err : goal.returns-in-Err
returns-in-Err g c =
    let name = c.args.name.now in
    let quarter = c.args.quarter in
    let as_of = c.args.as_of in
    let known = c.in_ok-before.before in
    let answer = c.in-Err.answer in
    record {
      call = served_looked (Question (DueList name quarter as_of)) answer
          c.in_ok-before.ensures.call (due_decided name quarter as_of known answer (search rules));
      shows = tells_by answer (ShowsList name quarter) c.in_ok-before.ensures.call (λ t knows list is. absurd ((due_list_refuses name quarter as_of known).never
          (Told (Due list)) (search rules ∙ ap Some is)));
    }

pub returns : goal.returns
returns g c =
    let name = c.args.name.now in
    let quarter = c.args.quarter in
    let as_of = c.args.as_of in
    let known = c.in_ok-before.before in
    let account = c.in-Ok-checked.account in
    let given = c.in_ok-holidays.holidays in
    let found = c.in_ok-found.found in
    let rows = found.rows in
    let owner = c.in-Ok.owner in
    let passed : checks name quarter as_of known ≡ None = search rules in
    let years = then_reads given
    (λ hs t. KnowsForDue name quarter known t × KnowsYears quarter hs t) c.in_ok-before.ensures.call
    c.in_ok-holidays.ensures.call (λ t knows has. (
      knows,
      subst (λ year. HasYears year (year + 1) (holidays_of given) t) c.year-year.ensures has,
    )) in
    let read = then_reads found
    (λ q t. KnowsForDue name quarter known t × KnowsQuarter name account.form quarter as_of q t)
    years c.in_ok-found.ensures.call (λ t knows lists. (knows.0, lists knows.1)) in
    record {
      call = served_looked (Question (DueList name quarter as_of))
          (due_answer owner quarter as_of c.from_vec.result) read (λ t s stands sound knows.
          subst (λ n. Step s (Question (DueList name quarter as_of))
          (due_answer n quarter as_of c.from_vec.result) s) (sym c.in-Ok.ensures)
          (rw (sym c.from_vec.ensures) at
          (due_told name quarter as_of known account rows.items c.in-Ok-checked.ensures.1 passed t s
          stands sound (knows.0, knows.1.0.0))));
      shows = tells_by (due_answer owner quarter as_of c.from_vec.result) (ShowsList name quarter)
          read (λ t knows other is.
          rw (sym c.from_vec.ensures ∙ ap (λ (list : DueListRow). list.rows) (told_list _ other is))
          at knows.1.0.1);
    }
