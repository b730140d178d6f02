use Rattle.std.proofs.Common.{Ok, Err, refl}
use Rattle.ftd_program.proofs.performing.post_entries.Goals as goal

pub returns-in-Ok : goal.returns-in-Ok
returns-in-Ok g c = record {
  import = Ok c.in-Ok.summary;
  between = c.import.new.desk;
  imports = c.in-Ok.ensures.imports;
  prints = c.print_summary.ensures;
}

pub returns-in-Err : goal.returns-in-Err
returns-in-Err g c = record {
  import = Err c.in-Err.stopped;
  between = c.import.new.desk;
  imports = c.in-Err.ensures.imports;
  prints = (refl, c.print_stop.ensures);
}
