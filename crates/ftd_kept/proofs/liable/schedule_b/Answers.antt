use Rattle.std.proofs.Common.{rules, subst, sym}
use Rattle.ftd_days.specs.Calendar.{quarter_start}
use Rattle.ftd_store.specs.Finds.{ListsLiability}
use Rattle.ftd_machine.specs.Step.{Step}
use Rattle.ftd_machine.specs.Told.{days_answer}
use Rattle.ftd_machine.specs.declared.requests.Question.TheVariants.{ScheduleB}
use Rattle.ftd_machine.specs.declared.requests.Request.TheVariants.{Question}
use Rattle.ftd_entries.specs.Known.{KnowsYear}
use Rattle.ftd_entries.proofs.Reading.{both_read, three_told}
use Rattle.ftd_entries.proofs.Serving.{served_looked}
use Rattle.ftd_kept.proofs.Billing.{Knows, days_decided, days_told}
use Rattle.ftd_kept.proofs.liable.schedule_b.Goals as goal

pub returns-in-Err : goal.returns-in-Err
returns-in-Err g c =
    let there = c.in_ok-there.there in
    record {
      call = served_looked (Question (ScheduleB c.args.name.now c.args.quarter)) c.in-Err.answer
          (both_read c.in_ok-account.ensures.call c.in_ok-there.ensures.call)
          (λ t s stands sound knows. days_decided c.args.name.now
          c.args.quarter (c.in_ok-account.account, there) c.in-Err.answer (search rules) t s
          stands sound (
            knows.0,
            subst (λ year. KnowsYear c.args.name.now year there t)
                c.year.ensures knows.1,
          ));
    }

pub returns : goal.returns
returns g c =
    let name = c.args.name.now in
    let sums = c.in_ok-sums.sums in
    let there = c.in_ok-there.there in
    record {
      call = served_looked (Question (ScheduleB name c.args.quarter))
          (days_answer c.in-Ok.owner c.args.quarter c.from_vec.result)
          (three_told c.in_ok-account.ensures.call c.in_ok-there.ensures.call
          c.in_ok-sums.ensures.call sums (λ listed t. Knows name c.args.quarter
          (c.in_ok-account.account, there) t × ListsLiability name (quarter_start c.args.quarter)
          c.last.result listed t) (λ t knows opened lists. (
            (knows, subst (λ year. KnowsYear name year there t) c.year.ensures opened),
            subst (λ from. ListsLiability name from c.last.result sums t) c.first.ensures lists,
          )))
          (λ t s stands sound knows. subst (λ n. Step s (Question (ScheduleB name c.args.quarter))
          (days_answer n c.args.quarter c.from_vec.result) s) (sym c.in-Ok.ensures)
          (rw (sym c.from_vec.ensures) at (days_told name c.args.quarter
          (c.in_ok-account.account, there) c.last.result sums c.last.ensures (search rules) t s
          stands sound knows)));
    }
