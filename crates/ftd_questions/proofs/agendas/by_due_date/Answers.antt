use Rattle.std.proofs.Common.{rules, ◌≡◌}
use Rattle.std.proofs.lemmas.Fn.{always_returns_same}
use Rattle.std.proofs.lemmas.List.Sorted.{IsNonDecreasingBy-from_sort_by_key}
use Rattle.ftd_machine.specs.Agenda.{due_date_of}
use Rattle.ftd_questions.proofs.ByDueDate.{due_dates_up, rows_in_order}
use Rattle.ftd_questions.proofs.agendas.by_due_date.Goals as goal

pub returns-clause-by_due_date : goal.returns-clause-by_due_date
returns-clause-by_due_date c =
    due_dates_up c.sort_by_key.new.self.items
    (IsNonDecreasingBy-from_sort_by_key due_date_of _ c.in_ok-sort_by_key.ensures.sorted
    (λ a r q k. search rules))

pub returns-clause-in_order : goal.returns-clause-in_order
returns-clause-in_order c each =
    rows_in_order c.args.rows.items c.sort_by_key.new.self.items
    (IsNonDecreasingBy-from_sort_by_key due_date_of _ c.in_ok-sort_by_key.ensures.sorted
    (λ a r q k. search rules))
    (c.in_ok-sort_by_key.ensures.stable due_date_of
    (always_returns_same _ (λ a r. r ≡ due_date_of a.0.now) _ (λ a r q k. search rules))) each
