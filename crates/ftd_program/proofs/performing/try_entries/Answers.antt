use Rattle.std.proofs.Common.{Ok, Err, refl}
use Rattle.ftd_program.proofs.performing.try_entries.Goals as goal

pub returns-in-Ok : goal.returns-in-Ok
returns-in-Ok g c = record {
  trial = Ok c.in-Ok.summary;
  between = c.import_trial.new.desk;
  tells = c.in-Ok.ensures.tells;
  stands = c.in-Ok.ensures.stands;
  prints = c.print_summary.ensures;
}

pub returns-in-Err : goal.returns-in-Err
returns-in-Err g c = record {
  trial = Err c.in-Err.stopped;
  between = c.import_trial.new.desk;
  tells = c.in-Err.ensures.tells;
  stands = c.in-Err.ensures.stands;
  prints = (refl, c.print_stop.ensures);
}
