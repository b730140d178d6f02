use Rattle.ftd_local.proofs.jobs.over_desk.Goals as goal

pub returns : goal.returns
returns g c = record {
  new = c.do_with-end.new.desk;
  becomes = c.do_with-end.ensures;
  keeps = c.close_desk.ensures.keeps;
}
