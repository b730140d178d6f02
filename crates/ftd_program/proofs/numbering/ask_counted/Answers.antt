use Rattle.std.proofs.Common.{◌≡◌, ◌∙◌, sym, ap}
use Rattle.ftd_machine.specs.Step.{with_number}
use Rattle.ftd_verbs.specs.Asked.{greatest_number}
use Rattle.ftd_program.specs.Performing.{counted, answered}
use Rattle.ftd_program.proofs.Numbered.{renumbered}
use Rattle.ftd_program.proofs.numbering.ask_counted.Goals as goal

pub returns-in-Some : goal.returns-in-Some
returns-in-Some g c =
    let request = c.args.request in
    let number = c.in-Some.number in
    let first = c.with_number-first.ensures in
    let same : c.with_number.result ≡ with_number request number = c.with_number.ensures
    ∙ ap (λ r. with_number r number) first ∙ renumbered request greatest_number number in
    counted c.handle-answer.result c.handle-answer.new.self number
    (rw first at c.handle-answer.ensures.handles)
    (sym c.next_of.ensures ∙ c.in-Some.is)
    (rw same at c.ask_under.ensures)

pub returns-in-None : goal.returns-in-None
returns-in-None g c =
    let first = c.with_number-first.ensures in
    answered c.handle-answer.result (sym c.next_of.ensures ∙ c.in-None.is)
    (rw first at (c.print_answer.ensures c.args.desk.now c.handle-answer.ensures.handles))
