use Rattle.std.proofs.Common.{rules}
use Rattle.ftd_machine.specs.declared.requests.Request.TheVariants.{Enter}
use Rattle.ftd_machine.specs.declared.requests.Entry.TheVariants as entry
use Rattle.ftd_entries.proofs.Reading.{both_read}
use Rattle.ftd_entries.proofs.Serving.{served_looked, served_changed}
use Rattle.ftd_entries.proofs.Reporting.{report_decided, report_done}
use Rattle.ftd_entries.proofs.reported.report.Goals as goal

pub returns-in-Err : goal.returns-in-Err
returns-in-Err g c = record {
  call = served_looked (Enter (entry.Total c.args.name.now c.args.period.now c.args.cents)) _
      (both_read c.in_ok-account.ensures.call c.in_ok-reported.ensures.call)
      (report_decided c.args.name.now c.args.period.now c.args.cents
      (c.in_ok-account.account, c.in_ok-reported.reported) c.in-Err.answer (search rules));
}

pub returns : goal.returns
returns g c = record {
  call = served_changed (Enter (entry.Total c.args.name.now c.args.period.now c.args.cents)) _
      (both_read c.in_ok-account.ensures.call c.in_ok-reported.ensures.call)
      c.in_ok-add_total.ensures.call (report_done c.args.name.now c.args.period.now c.args.cents
      (c.in_ok-account.account, c.in_ok-reported.reported) (search rules));
}
