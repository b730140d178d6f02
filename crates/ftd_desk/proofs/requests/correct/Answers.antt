use Rattle.std.proofs.Common.{◌∙◌, sym, ap}
use Rattle.ftd_machine.specs.declared.requests.Request.TheVariants.{Correct}
use Rattle.ftd_machine.specs.declared.requests.Correction.TheVariants as correction
use Rattle.ftd_posting.specs.Repaired.{Repairs}
use Rattle.ftd_desk.proofs.Repairing.{asked_repairs}
use Rattle.ftd_desk.proofs.requests.correct.Goals as goal

pub returns-in-Total-clause-repairs : goal.returns-in-Total-clause-repairs
unfolding Repairs
returns-in-Total-clause-repairs g c =
    let total = c.in-Total in
    asked_repairs g.S.Store
    (ap (λ asked. Correct c.args.number asked)
    (total.is ∙ ap (λ name. correction.Total name total.period total.cents) (sym c.as_str.ensures)))
    c.correct_total.ensures.repairs
