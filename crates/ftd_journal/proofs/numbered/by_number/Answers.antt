use Rattle.std.proofs.Common.{◌+◌, arith, rules}
use Rattle.std.proofs.lemmas.List.Sorted.{IsNonDecreasingBy-from_sort_by_key}
use Rattle.ftd_rules.proofs.Rising.{next_do_not_fall}
use Rattle.ftd_journal.proofs.numbered.by_number.Goals as goal

pub returns-clause-in_order : goal.returns-clause-in_order
returns-clause-in_order g c =
    let number = g.T.Numbered.number_of in
    let up = IsNonDecreasingBy-from_sort_by_key number _ c.in_ok-sort_by_key.ensures.sorted
    (λ a r q k. search rules) in
    next_do_not_fall number c.sort_by_key.new.self.items
    (λ k d low. up k (k + 1) d (omega arith) low)
