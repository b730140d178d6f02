use Rattle.std.proofs.Common.{rules}
use Rattle.ftd_machine.specs.declared.requests.Request.TheVariants.{Correct}
use Rattle.ftd_machine.specs.declared.requests.Correction.TheVariants as correction
use Rattle.ftd_entries.proofs.Serving.{served_looked, served_turned}
use Rattle.ftd_posting.proofs.ChangedDay.{changed_decided, changed_done}
use Rattle.ftd_posting.proofs.changing.change_holiday.Goals as goal

pub returns-in-Err : goal.returns-in-Err
returns-in-Err g c = record {
  call = served_looked (Correct c.args.number (correction.Holiday c.args.day c.args.is_holiday)) _
      c.in_ok-before.ensures.call (changed_decided c.args.day c.args.number c.args.is_holiday
      c.in_ok-before.before c.in-Err.answer (search rules));
}

pub returns : goal.returns
returns g c = record {
  call = served_turned (Correct c.args.number (correction.Holiday c.args.day c.args.is_holiday)) _
      c.in_ok-before.ensures.call c.in_ok-enter_and_move.ensures.call
      (λ t u s stands sound knows enters. changed_done c.args.day c.args.number c.args.is_holiday
      c.in_ok-before.before (search rules) t u s stands sound knows enters);
}
