use Rattle.std.proofs.Common.{rules}
use Rattle.ftd_machine.specs.declared.requests.Request.TheVariants.{Enter}
use Rattle.ftd_machine.specs.declared.requests.Entry.TheVariants as entry
use Rattle.ftd_entries.proofs.Serving.{served_looked, served_changed}
use Rattle.ftd_entries.proofs.Enrolling.{enrol_decided, enrol_done}
use Rattle.ftd_entries.proofs.accounts.enrol.Goals as goal

pub returns-in-Err : goal.returns-in-Err
returns-in-Err g c =
    let account = c.args.account in
    record {
      call = served_looked (Enter (entry.Account c.args.name.now account))
          c.in-Err.answer c.in_ok-known.ensures.call (enrol_decided c.args.name.now account
          c.in_ok-known.known c.in-Err.answer (search rules));
    }

pub returns : goal.returns
returns g c =
    let account = c.args.account in
    record {
      call = served_changed (Enter (entry.Account c.args.name.now account)) _
          c.in_ok-known.ensures.call c.in_ok-add.ensures.call
          (enrol_done c.args.name.now account c.in_ok-known.known (search rules));
    }
