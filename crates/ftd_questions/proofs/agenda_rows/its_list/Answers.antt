use Rattle.std.proofs.Common.{sym, subst}
use Rattle.ftd_store.proofs.Telling.{reads_on}
use Rattle.ftd_questions.specs.Agendas.{KnowsLast, KnowsLastYears, KnowsList}
use Rattle.ftd_questions.proofs.agenda_rows.its_list.Goals as goal

pub returns-in-Ok-clause-call : goal.returns-in-Ok-clause-call
returns-in-Ok-clause-call g c =
    let quarter = c.quarter-quarter.result in
    let as_of = c.args.as_of in
    let last = c.args.last in
    let list = c.in_ok-list.list in
    reads_on _ (λ its t. KnowsLastYears last t → KnowsLast as_of its t × KnowsLastYears its t)
    c.in_ok-list.ensures.call (λ t knows last_is.
    (let k = knows last_is in
    (subst (λ n. KnowsList n quarter as_of list t) (sym c.in-Ok.ensures.ok) k.0, k.1)))
