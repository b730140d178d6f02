use Rattle.std.proofs.Common.{◌∙◌, None, Some}
use Rattle.ftd_http.proofs.NameFacts.{name_behind, no_name}
use Rattle.ftd_http.proofs.ask.journal_name.Goals as goal

pub returns-in_default : goal.returns-in_default
returns-in_default c = no_name c.args.target.now c.in_default.ensures.cases.0

pub returns-in_err-path : goal.returns-in_err-path
returns-in_err-path c =
    let h = c.from_residual.ensures in
    rw h
    (name_behind c.args.target.now None c.in-Ok.ensures.cases.1
    (rw c.in-Ok.ensures.cases.0 at c.in_err-path.ensures))

pub returns : goal.returns
returns c =
    c.named_by.ensures
    ∙ name_behind c.args.target.now (Some (c.in_ok-path.path.now, c.in_ok-path.account.now))
    c.in-Ok.ensures.cases.1 (rw c.in-Ok.ensures.cases.0 at c.in_ok-path.ensures)
