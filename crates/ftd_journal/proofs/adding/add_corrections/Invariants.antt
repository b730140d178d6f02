use Rattle.std.proofs.Common.{◌≡◌, ◌++◌}
use Rattle.ftd_machine.specs.Journal.{corrections_from}
use Rattle.ftd_journal.specs.Parts.{with_numbers}
use Rattle.ftd_journal.proofs.adding.add_corrections.Given as goal

abbrev pub invariant-loop-correction : goal.invariant-loop-correction
invariant-loop-correction l =
    l.requests.items
    ++ corrections_from l.number (λ one. one) l.correction-iterator.rest.items
    ≡ l.fn.requests.items ++ with_numbers l.fn.given.items
