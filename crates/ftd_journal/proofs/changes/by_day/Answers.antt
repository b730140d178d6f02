use Rattle.std.proofs.Common.{◌+◌, arith, rules}
use Rattle.std.proofs.lemmas.List.Sorted.{IsNonDecreasingBy-from_sort_by_key}
use Rattle.ftd_rules.proofs.Rising.{next_do_not_fall}
use Rattle.ftd_journal.specs.Days.{as_itself}
use Rattle.ftd_journal.proofs.changes.by_day.Goals as goal

pub returns-clause-in_order : goal.returns-clause-in_order
returns-clause-in_order c =
    let up = IsNonDecreasingBy-from_sort_by_key as_itself _ c.in_ok-sort_by_key.ensures.sorted
    (λ a r q k. search rules) in
    next_do_not_fall as_itself c.sort_by_key.new.self.items
    (λ k d low. up k (k + 1) d (omega arith) low)
