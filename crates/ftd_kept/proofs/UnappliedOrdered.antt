-- Money that counts for nothing: rows that stand in order from each to the next.
use Rattle.std.proofs.Common.{◌≡◌, ℕ, ◌==◌, ◌&&◌, inl, inr, refl, true, List, Option, None, Some}
use Rattle.std.specs.Prelude.{bytes_eq, nat_lt}
use Rattle.std.specs.Ordering.{is_lt, nat_cmp}
use Rattle.std.specs.declared.cmp.Ordering.{Ordering}
use Rattle.std.specs.declared.cmp.Ordering.TheVariants.{Less, Equal, Greater}
use Rattle.std.specs.Cmp.Lexicographic.{slice_cmp}
use Rattle.std.proofs.lemmas.Bool.{ltb-true, eqb-true, or_cases, and_parts}
use Rattle.ftd_days.proofs.Spelling.{same_text}
use Rattle.ftd_rules.specs.Lists.{are_in_order}
use Rattle.ftd_machine.specs.Agenda.{EachToLater}
use Rattle.ftd_machine.specs.Unapplied.{IsNumberBefore, IsUnappliedBefore}
use Rattle.ftd_machine.specs.declared.lists.UnappliedRow.{UnappliedRow}
use Rattle.ftd_machine.proofs.UnappliedOrder.{comes_then}
use Rattle.ftd_entries.proofs.InOrder.{in_order}
use Rattle.ftd_kept.specs.Unapplied.{is_day_before, is_number_before, is_unapplied_before}

less : (o : Ordering) → is_lt o ≡ true → o ≡ Less
less Less e = refl
less Equal e = absurd cc
less Greater e = absurd cc

number_before : (a b : Option ℕ) → is_number_before a b ≡ true → IsNumberBefore a b
number_before a None e = absurd cc
number_before None (Some b) e = tt
number_before (Some a) (Some b) e = ltb-true a b e

row_before : (x y : UnappliedRow) → is_unapplied_before x y ≡ true → IsUnappliedBefore x y
row_before x y e =
    elim (or_cases (is_lt (slice_cmp nat_cmp x.account y.account))
    (bytes_eq x.account y.account && is_day_before x y) e) [
      | inl before ↦ inl (less (slice_cmp nat_cmp x.account y.account) before)
      | inr own ↦
          (let parts = and_parts (bytes_eq x.account y.account) (is_day_before x y) own in
          inr (
            same_text x.account y.account parts.0,
            elim (or_cases (nat_lt x.first y.first)
                ((x.first == y.first) && is_number_before x.payment y.payment) parts.1) [
                  | inl earlier ↦ inl (ltb-true x.first y.first earlier)
                  | inr day ↦
                      (let both = and_parts (x.first == y.first) (is_number_before x.payment y.payment)
                      day in
                      inr (
                        eqb-true x.first y.first both.0,
                        number_before x.payment y.payment both.1,
                      ))
                ],
          ))
    ]

pub unapplied_in_order : (xs : List UnappliedRow) → are_in_order is_unapplied_before xs ≡ true
    → EachToLater IsUnappliedBefore xs
unapplied_in_order xs e = in_order is_unapplied_before IsUnappliedBefore row_before comes_then xs e
