use Rattle.std.proofs.Common.{◌∙◌, arith}
use Rattle.ftd_http.proofs.PathFacts.{one_part, no_part, first_part, later_part}
use Rattle.ftd_http.proofs.path.+part.Goals as goal

pub returns-then-number-eq0 : goal.returns-then-number-eq0
returns-then-number-eq0 t c = one_part c.args.target.now c.args.number c.in-None.ensures
    c.if-number-eq0.true

pub returns-else-number-eq0 : goal.returns-else-number-eq0
returns-else-number-eq0 t c = no_part c.args.target.now c.args.number c.in-None.ensures
    (omega arith)

pub returns-then-number-eq0-2 : goal.returns-then-number-eq0-2
returns-then-number-eq0-2 t c = first_part c.args.target.now c.in-Some.before.now c.args.number
    c.in-Some.ensures.0 c.if-number-eq0-2.true

pub returns-else-number-eq0-2 : goal.returns-else-number-eq0-2
returns-else-number-eq0-2 t c = c.part.ensures ∙ later_part c.args.target.now c.in-Some.after.now
    c.args.number c.in-Some.ensures.1 (omega arith)
