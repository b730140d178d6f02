use Rattle.std.proofs.Common.{◌∙◌, sym, subst, rules, List}
use Rattle.std.specs.List.Sorted.{IsPermutation, IsNonDecreasingBy}
use Rattle.std.proofs.lemmas.List.Sorted.{IsNonDecreasingBy-from_sort_by_key}
use Rattle.std.proofs.lemmas.Slice.Eq.{slice_eq-Decides}
use Rattle.ftd_rules.specs.declared.Obligation.{Obligation}
use Rattle.ftd_check.proofs.Owed.{first_day, owed_are, are_owed}
use Rattle.ftd_check.proofs.settled.are_owed.Goals as goal

pub returns : goal.returns
returns c =
    let stored = c.args.stored.now in
    let owed = c.args.owed.now in
    let sorted = c.sort_by_key.new.self.items in
    let same = slice_eq-Decides (λ a b. search rules) c.as_slice.result.now owed c.eq.result
    c.eq.ensures in
    let value = c.as_slice.ensures.value in
    let moved : IsPermutation stored sorted = subst
    (λ (os : List Obligation). IsPermutation os sorted) c.in_ok-sorted.ensures.items
    c.in_ok-sort_by_key.ensures.permutation in
    let order : IsNonDecreasingBy first_day sorted =
    IsNonDecreasingBy-from_sort_by_key first_day _ c.in_ok-sort_by_key.ensures.sorted
    (λ a r q k. search rules) in (
      λ is. owed_are stored sorted owed moved (sym value ∙ same.0 is),
      λ are. same.1 (value ∙ are_owed stored sorted owed moved c.requires order are),
    )
