use Rattle.std.proofs.Common.{◌≡◌, true, rules, subst}
use Rattle.std.specs.List.{list_any}
use Rattle.ftd_days.specs.Calendar.{year_of}
use Rattle.ftd_machine.specs.declared.requests.Question.TheVariants.{Status}
use Rattle.ftd_machine.specs.declared.requests.Request.TheVariants.{Question}
use Rattle.ftd_entries.specs.Opening.{is_line_of}
use Rattle.ftd_entries.proofs.Serving.{served_looked}
use Rattle.ftd_kept.specs.Schedules.{AreScheduled, IsStatusBy}
use Rattle.ftd_kept.proofs.Scheduling.{account_and_lines, status_decided, status_told}
use Rattle.ftd_kept.proofs.schedules.status.Goals as goal

pub returns-in-Err : goal.returns-in-Err
returns-in-Err g c = record {
  call = served_looked (Question (Status c.args.name.now c.args.day)) c.in-Err.answer
      (account_and_lines c.args.name.now c.in_ok-account.ensures.call c.in_ok-lines.ensures.call)
      (λ t s stands sound knows. status_decided c.args.name.now c.args.day
      c.in_ok-account.account c.in_ok-lines.lines.items t s stands (knows s stands).0
      (knows s stands).1 c.in-Err.answer (search rules));
}

pub returns : goal.returns
returns g c = record {
  call = served_looked (Question (Status c.args.name.now c.args.day)) c.status_by.result
      (account_and_lines c.args.name.now c.in_ok-account.ensures.call c.in_ok-lines.ensures.call)
      (λ t s stands sound knows. status_told c.args.name.now c.args.day
      c.in_ok-account.account c.in_ok-lines.lines.items t s stands (knows s stands).0
      (knows s stands).1 c.status_by.result (search rules)
      (subst (λ xs. list_any (is_line_of (year_of c.args.day)) xs ≡ true → AreScheduled xs
      → IsStatusBy xs c.args.day c.status_by.result) c.deref-2.ensures.value c.status_by.ensures));
}
