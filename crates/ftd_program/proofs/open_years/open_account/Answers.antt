use Rattle.ftd_program.proofs.open_years.open_account.Goals as goal

pub returns : goal.returns
returns g c = (
  c.put_hints.ensures c.args.desk.now c.handle-answer.ensures.handles,
  c.in_ok-write_line.ensures.ok,
)
