use Rattle.ftd_local.proofs.scripts.over_desk.Goals as goal

pub returns : goal.returns
returns g c = record {
  new = c.into_desk.result;
  becomes = rw c.into_desk.ensures c.answer_script-end.ensures.answers;
  keeps = c.close_desk.ensures.keeps;
}
