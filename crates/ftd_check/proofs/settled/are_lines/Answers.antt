use Rattle.std.proofs.Common.{◌≡◌, ◌∙◌, sym, subst, rules, List, map}
use Rattle.std.specs.List.Sorted.{IsPermutation, IsNonDecreasingBy}
use Rattle.std.proofs.lemmas.List.Sorted.{IsNonDecreasingBy-from_sort_by_key}
use Rattle.std.proofs.lemmas.Slice.Eq.{slice_eq-Decides}
use Rattle.ftd_store.specs.declared.year_cells.StoredYear.{StoredYear}
use Rattle.ftd_check.specs.Account.{stored_of}
use Rattle.ftd_check.proofs.AccountSound.{year_stored, lines_are, are_lines}
use Rattle.ftd_check.proofs.settled.are_lines.Goals as goal

pub returns : goal.returns
returns c =
    let stored = c.args.stored.now in
    let lines = c.args.lines.now in
    let sorted = c.sort_by_key.new.self.items in
    let those : List StoredYear = c.in_ok-those.those.items in
    let same = slice_eq-Decides (λ a b. search rules) c.as_slice.result.now c.as_slice-2.result.now
    c.eq.result c.eq.ensures in
    let value : c.as_slice.result.now ≡ sorted = c.as_slice.ensures.value in
    let other : c.as_slice-2.result.now ≡ map stored_of lines = c.as_slice-2.ensures.value
    ∙ c.in_ok-those.ensures in
    let moved : IsPermutation stored sorted = subst
    (λ (ys : List StoredYear). IsPermutation ys sorted) c.in_ok-sorted.ensures.items
    c.in_ok-sort_by_key.ensures.permutation in
    let order : IsNonDecreasingBy year_stored sorted =
    IsNonDecreasingBy-from_sort_by_key year_stored _ c.in_ok-sort_by_key.ensures.sorted
    (λ a r q k. search rules) in (
      λ is. lines_are stored sorted lines moved (sym value ∙ same.0 is ∙ other),
      λ are. same.1 (value ∙ are_lines stored sorted lines moved c.requires order are ∙ sym other),
    )
