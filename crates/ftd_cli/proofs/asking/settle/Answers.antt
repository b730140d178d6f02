use Rattle.std.proofs.Common.{sym}
use Rattle.ftd_cli.specs.Asking.{settle_of}
use Rattle.ftd_cli.proofs.asking.settle.Goals as goal

pub returns : goal.returns
unfolding settle_of
returns c =
    rw (c.in_ok-name.ensures, sym c.in_ok-due.ensures, sym c.in_ok-paid.ensures)
    (rw c.from_string-account.ensures at c.in_database.ensures)
