use Rattle.std.proofs.Common.{rules}
use Rattle.std.specs.Prelude.{IsErrOf}
use Rattle.ftd_c.specs.declared.codes.CallFault.TheVariants.{OutOfRange}
use Rattle.ftd_c.proofs.Calendars.{this_are_days, next_are_days}
use Rattle.ftd_c.proofs.asked.calendars.Goals as goal

pub returns-in_err-days_of-clause-range : goal.returns-in_err-days_of-clause-range
returns-in_err-days_of-clause-range c = λ e calendars.
    let was : IsErrOf c.days_of.result OutOfRange = search rules in
    c.days_of.ensures.range was (this_are_days c.args.year c.args.this_year.now
    c.args.next_year.now calendars)

pub returns-in_err-days_of-2-clause-range : goal.returns-in_err-days_of-2-clause-range
returns-in_err-days_of-2-clause-range c = λ e calendars.
    let was : IsErrOf c.days_of-2.result OutOfRange = search rules in
    c.days_of-2.ensures.range was (next_are_days c.args.year c.args.this_year.now
    c.args.next_year.now calendars)
