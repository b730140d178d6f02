use Rattle.ftd.proofs.server.serve_in_files.Goals as goal

pub returns : goal.returns
returns g c = record {
  old = c.in_ok-desk.desk;
  goes = c.in_ok-desk.ensures.goes;
  stands = c.in_ok-desk.ensures.stands;
  closes = rw (c.server_shell-machine.ensures.desk, c.server_shell-machine.ensures.file)
      at c.serve_shell.ensures;
}
