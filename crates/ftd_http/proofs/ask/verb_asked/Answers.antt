use Rattle.std.proofs.Common.{sym, ap, ◌∙◌}
use Rattle.ftd_verbs.specs.Rows.{VerbRow}
use Rattle.ftd_http.proofs.AskFacts.{no_text, by_no_route, wrong_method, right_method}
use Rattle.ftd_http.proofs.ask.verb_asked.Goals as goal

pub returns-in_default : goal.returns-in_default
returns-in_default c = no_text c.args.method.now c.args.target.now c.args.body.now
    c.in_default.ensures.cases.0

pub returns-in_default-look_up : goal.returns-in_default-look_up
returns-in_default-look_up c =
    by_no_route _ c.args.method.now c.args.target.now c.args.body.now c.in-Ok.ensures.cases.1
    (rw (c.requires, c.in-Ok.ensures.cases.0) at c.in_default-look_up.ensures)
    (rw c.in-Ok.ensures.cases.0 at c.unrouted.ensures)

pub returns-then-not-is_method : goal.returns-then-not-is_method
returns-then-not-is_method c =
    let wanted = ap (λ (row : VerbRow). row.method) c.row-wanted.ensures in
    rw wanted
    (wrong_method c.args.method.now c.args.target.now c.args.body.now c.in-Some.route
    c.in-Ok.ensures.cases.1
    (rw (c.requires, c.in-Ok.ensures.cases.0) at c.in-Some.ensures)
    (sym (rw wanted at c.if-not-is_method.ensures)))

pub returns : goal.returns
returns c =
    let wanted = ap (λ (row : VerbRow). row.method) c.row-wanted.ensures in
    c.formed.ensures
    ∙ right_method c.args.method.now c.args.target.now c.args.body.now c.in-Some.route
    c.in_ok-request.request c.in-Ok.ensures.cases.1
    (rw (c.requires, c.in-Ok.ensures.cases.0) at c.in-Some.ensures)
    (sym (rw wanted at c.if-not-is_method.ensures))
    (rw c.in-Ok.ensures.cases.0 at c.in_ok-request.ensures)
