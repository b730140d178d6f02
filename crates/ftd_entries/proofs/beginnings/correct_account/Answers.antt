use Rattle.std.proofs.Common.{rules}
use Rattle.ftd_machine.specs.declared.requests.Request.TheVariants.{Correct}
use Rattle.ftd_machine.specs.declared.requests.Correction.TheVariants as correction
use Rattle.ftd_entries.proofs.Serving.{served_looked, served_changed}
use Rattle.ftd_entries.proofs.PutRight.{put_right_decided, put_right_done}
use Rattle.ftd_entries.proofs.beginnings.correct_account.Goals as goal

pub returns-in-Err : goal.returns-in-Err
returns-in-Err g c =
    let begins = c.args.beginning in
    record {
      call = served_looked (Correct c.args.number (correction.Account c.args.name.now begins))
          c.in-Err.answer c.in_ok-before.ensures.call (put_right_decided c.args.name.now
          c.args.number begins c.in_ok-before.before c.in-Err.answer (search rules));
    }

pub returns : goal.returns
returns g c =
    let begins = c.args.beginning in
    record {
      call = served_changed (Correct c.args.number (correction.Account c.args.name.now begins)) _
          c.in_ok-before.ensures.call
          (rw c.correction_of.ensures at c.in_ok-add_account_correction.ensures.call)
          (put_right_done c.args.name.now c.args.number begins c.in_ok-before.before
          (search rules));
    }
