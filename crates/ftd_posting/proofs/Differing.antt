-- How whole lists of obligations differ, of which a run of first days was replaced.
use Rattle.std.proofs.Common.{◌⊎◌, ℕ, ◌<◌, ◌≤◌, ◌↔◌, inl, inr, List, ◌++◌, arith}
use Rattle.std.specs.Prelude.{filter}
use Rattle.std.proofs.lemmas.Bool.{lt-ltb, ltb-true, cases_lt}
use Rattle.ftd_rules.specs.declared.Obligation.{Obligation}
use Rattle.ftd_rules.specs.Lists.{Has}
use Rattle.ftd_rules.proofs.Owed.{has_append, has_left, has_right}
use Rattle.ftd_rules.proofs.Members.{has_kept}
use Rattle.ftd_machine.specs.Posting.{Differ}
use Rattle.ftd_machine.specs.declared.replies.Difference.{Difference}
use Rattle.ftd_machine.proofs.Members.{has_filtered}
use Rattle.ftd_repairs.specs.Replaced.{begins_before, begins_after, patched}

-- the first day is one of the days, or it is not
abbrev pub BeginsWithin : ℕ → ℕ → Obligation → Type 0
BeginsWithin from to o = (from ≤ o.first) × (o.first ≤ to)

abbrev pub BeginsElsewhere : ℕ → ℕ → Obligation → Type 0
BeginsElsewhere from to o = (o.first < from) ⊎ (to < o.first)

module _ (from to : ℕ) (rows patch : List Obligation) where
  abbrev After : List Obligation
  After = patched from to rows patch

  where_begins : (o : Obligation) → BeginsWithin from to o ⊎ BeginsElsewhere from to o
  where_begins o =
      elim (cases_lt o.first from) [
        | inl before ↦ inr (inl before)
        | inr l ↦ elim (cases_lt to o.first) [ inl after ↦ inr (inr after) | inr m ↦ inl (l, m) ]
      ]

  pub patch_has : (o : Obligation) → Has patch o → Has After o
  patch_has o has = has_right (filter (begins_before from) rows)
      (patch ++ filter (begins_after to) rows) o
      (has_left patch (filter (begins_after to) rows) o has)

  pub stays_has : (o : Obligation) → Has rows o → BeginsElsewhere from to o → Has After o
  stays_has o has (inl before) =
      has_left (filter (begins_before from) rows) (patch ++ filter (begins_after to) rows) o
      (has_kept (begins_before from) rows o has (lt-ltb o.first from before))
  stays_has o has (inr after) =
      has_right (filter (begins_before from) rows) (patch ++ filter (begins_after to) rows) o
      (has_right patch (filter (begins_after to) rows) o
      (has_kept (begins_after to) rows o has (lt-ltb to o.first after)))

  pub has_after : (o : Obligation) → Has After o → Has patch o
      ⊎ (Has rows o × BeginsElsewhere from to o)
  has_after o has =
      elim (has_append (filter (begins_before from) rows) (patch ++ filter (begins_after to) rows) o
      has) [
        | inl front ↦ (let k = has_filtered (begins_before from) rows o front in
            inr (k.0, inl (ltb-true o.first from k.1)))
        | inr later ↦ elim (has_append patch (filter (begins_after to) rows) o later) [
          | inl new ↦ inl new
          | inr back ↦ (let k = has_filtered (begins_after to) rows o back in
              inr (k.0, inr (ltb-true to o.first k.1)))
        ]
      ]

  apart : (o : Obligation) → BeginsWithin from to o → BeginsElsewhere from to o → ⊥
  apart o within (inl before) = let l = within.0 in omega arith
  apart o within (inr after) = let l = within.1 in omega arith

  -- the rows of the days differ as the whole lists do
  pub differ_whole : (within : List Obligation) (payday : ℕ) (d : Difference)
      → ((o : Obligation) → Has within o ↔ (Has rows o × BeginsWithin from to o))
      → ((o : Obligation) → Has patch o → BeginsWithin from to o)
      → Differ within patch payday d → Differ rows After payday d
  differ_whole within payday d is_within inside differ = record {
    are_removed = record {
      in_order = differ.are_removed.in_order;
      all = λ o. (
        (λ has.
            (let k = (differ.are_removed.all o).0 has in
            let own = (is_within o).0 k.0 in (
              own.0,
              λ after. elim (has_after o after) [
                | inl new ↦ k.1 new
                | inr old ↦ apart o own.1 old.1
              ],
            ))),
        (λ k. elim (where_begins o) [
          | inl its ↦ (differ.are_removed.all o).1 (
            (is_within o).1 (k.0, its),
            λ new. k.1 (patch_has o new),
          )
          | inr its ↦ absurd (k.1 (stays_has o k.0 its))
        ]),
      );
    };
    are_added = record {
      in_order = differ.are_added.in_order;
      all = λ o. (
        (λ has. (let k = (differ.are_added.all o).0 has in
            (patch_has o k.0, λ old. k.1 ((is_within o).1 (old, inside o k.0))))),
        (λ k. elim (has_after o k.0) [
          | inl new ↦ (differ.are_added.all o).1 (new, λ own. k.1 ((is_within o).0 own).0)
          | inr old ↦ absurd (k.1 old.0)
        ]),
      );
    };
    days = differ.days;
  }
