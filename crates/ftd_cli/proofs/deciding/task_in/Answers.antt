use Rattle.ftd_cli.proofs.TaskFacts.{none_wanted, wanted_by}
use Rattle.ftd_cli.proofs.deciding.task_in.Goals as goal

pub returns-in_default : goal.returns-in_default
returns-in_default c = none_wanted c.args.today c.args.matches.now
    (rw c.in_default.is at c.subcommand.ensures.name)

pub returns-in_default-command_named : goal.returns-in_default-command_named
returns-in_default-command_named c =
    let rows = rw c.in-Some.is at c.subcommand.ensures.rows in
    let name = rw c.in-Some.is at c.subcommand.ensures.name in
    wanted_by c.args.today c.args.matches.now _ _ _ rows name c.in_default-command_named.ensures

pub returns : goal.returns
returns c =
    let rows = rw c.in-Some.is at c.subcommand.ensures.rows in
    let name = rw c.in-Some.is at c.subcommand.ensures.name in
    rw (wanted_by c.args.today c.args.matches.now _ _ _ rows name c.in-Some-command_named.ensures)
    c.task_for.ensures
