-- Obligations of which a run of first days was replaced.
use Rattle.std.proofs.Common.{◌⊎◌, ℕ, ◌+◌, ◌<◌, ◌≤◌, ◌↔◌, inl, inr, List, [], ◌∷◌, ◌++◌, refl}
use Rattle.std.proofs.Common.{arith}
use Rattle.std.specs.Prelude.{filter}
use Rattle.std.proofs.lemmas.Bool.{lt-ltb, ltb-true, cases_lt}
use Rattle.ftd_entries.proofs.OwedRows.{kept_by_first_day}
use Rattle.ftd_rules.specs.declared.Obligation.{Obligation}
use Rattle.ftd_rules.specs.Lists.{Has}
use Rattle.ftd_rules.specs.Obligations.{ByFirstDay}
use Rattle.ftd_rules.proofs.Owed.{has_append, has_left, has_right}
use Rattle.ftd_rules.proofs.Members.{has_kept}
use Rattle.ftd_machine.proofs.Members.{has_filtered}
use Rattle.ftd_repairs.specs.Replaced.{begins_before, begins_after, patched}

join_rise : (xs ys : List Obligation) → ByFirstDay xs → ByFirstDay ys
    → ((x y : Obligation) → Has xs x → Has ys y → x.first < y.first) → ByFirstDay (xs ++ ys)
join_rise [] ys g h apart = h
join_rise (x ∷ xs) ys g h apart = (
  (λ later has. elim (has_append xs ys later has) [
    | inl one ↦ g.0 later one
    | inr other ↦ apart x later (inl refl) other
  ]),
  join_rise xs ys g.1 h (λ a b in_xs in_ys. apart a b (inr in_xs) in_ys),
)

-- the obligations after a change: those that begin on the days are the patch's, the others stay
pub record IsPatched (Before After : Obligation → Type 0) (from to : ℕ)
    (patch : List Obligation) : Type 0 where
  pub rise : ByFirstDay patch
  pub all : (o : Obligation) → Has patch o ↔ (After o × (from ≤ o.first) × (o.first < to + 1))
  pub elsewhere : (o : Obligation) → (o.first < from) ⊎ (to < o.first) → Before o ↔ After o

pub patched_are : (Before After : Obligation → Type 0) (from to : ℕ) (rows patch : List Obligation)
    → from ≤ to + 1 → ByFirstDay rows → ((o : Obligation) → Has rows o ↔ Before o)
    → IsPatched Before After from to patch
    → ByFirstDay (patched from to rows patch)
    × ((o : Obligation) → Has (patched from to rows patch) o ↔ After o)
patched_are Before After from to rows patch some rise all h =
    let front : List Obligation = filter (begins_before from) rows in
    let back : List Obligation = filter (begins_after to) rows in
    let early : (o : Obligation) → Has front o → Has rows o × (o.first < from) =
    λ o has. (let k = has_filtered (begins_before from) rows o has in
    (k.0, ltb-true o.first from k.1)) in
    let late : (o : Obligation) → Has back o → Has rows o × (to < o.first) =
    λ o has. (let k = has_filtered (begins_after to) rows o has in
    (k.0, ltb-true to o.first k.1)) in
    let later : ByFirstDay (patch ++ back) =
    join_rise patch back h.rise (kept_by_first_day (begins_after to) rows rise)
    (λ x y in_patch in_back. let a = ((h.all x).0 in_patch).2 in let b = (late y in_back).1 in
    omega arith) in (
      join_rise front (patch ++ back) (kept_by_first_day (begins_before from) rows rise) later
          (λ x y in_front in_later. let a = (early x in_front).1 in
          elim (has_append patch back y in_later) [
            | inl in_patch ↦ (let b = ((h.all y).0 in_patch).1 in omega arith)
            | inr in_back ↦ (let b = (late y in_back).1 in omega arith)
          ]),
      (λ o. (
        (λ has. elim (has_append front (patch ++ back) o has) [
          | inl in_front ↦ (let k = early o in_front in (h.elsewhere o (inl k.1)).0 ((all o).0 k.0))
          | inr in_later ↦ elim (has_append patch back o in_later) [
            | inl in_patch ↦ ((h.all o).0 in_patch).0
            | inr in_back ↦ (let k = late o in_back in (h.elsewhere o (inr k.1)).0 ((all o).0 k.0))
          ]
        ]),
        (λ owed. elim (cases_lt o.first from) [
          | inl before ↦ has_left front (patch ++ back) o
              (has_kept (begins_before from) rows o
              ((all o).1 ((h.elsewhere o (inl before)).1 owed)) (lt-ltb o.first from before))
          | inr not_before ↦ has_right front (patch ++ back) o (elim (cases_lt to o.first) [
            | inl after ↦ has_right patch back o
                (has_kept (begins_after to) rows o ((all o).1 ((h.elsewhere o (inr after)).1 owed))
                (lt-ltb to o.first after))
            | inr within ↦ has_left patch back o ((h.all o).1 (owed, not_before, omega arith))
          ])
        ]),
      )),
    )
