use Rattle.ftd_local.proofs.jobs.do_in_files.Goals as goal

pub returns : goal.returns
returns g c = record {
  old = c.in_ok-desk.desk;
  goes = c.in_ok-desk.ensures.goes;
  stands = c.in_ok-desk.ensures.stands;
  closes = c.over_desk.ensures;
}
