use Rattle.std.proofs.Common.{rules}
use Rattle.ftd_machine.specs.declared.requests.Request.TheVariants.{Enter}
use Rattle.ftd_machine.specs.declared.requests.Entry.TheVariants as entry
use Rattle.ftd_entries.proofs.Reading.{both_read}
use Rattle.ftd_entries.proofs.Serving.{served_looked, served_turned}
use Rattle.ftd_posting.proofs.AddedDay.{added_decided, added_done}
use Rattle.ftd_posting.proofs.adding.add_holiday.Goals as goal

pub returns-in-Err : goal.returns-in-Err
returns-in-Err g c = record {
  call = served_looked (Enter (entry.Holiday c.args.day)) _
      (both_read c.in_ok-calendar.ensures.call c.in_ok-added.ensures.call)
      (λ t s stands sound knows. added_decided c.args.day _ c.year-year.ensures
      c.in_ok-calendar.calendar c.in_ok-added.added c.in-Err.answer (search rules) t s stands sound
      knows.0 knows.1);
}

pub returns : goal.returns
returns g c = record {
  call = served_turned (Enter (entry.Holiday c.args.day)) _
      (both_read c.in_ok-calendar.ensures.call c.in_ok-added.ensures.call)
      c.in_ok-enter_and_move.ensures.call (λ t u s stands sound knows adds. added_done c.args.day _
      c.year-year.ensures c.in_ok-calendar.calendar c.in_ok-added.added (search rules) t u s stands
      sound knows adds);
}
