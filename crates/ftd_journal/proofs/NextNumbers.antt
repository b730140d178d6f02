-- The number after the greatest one is the least above all.
use Rattle.std.proofs.Common.{◌≡◌, ◌∙◌, ◌⊎◌, inl, inr, refl, sym, ap, subst, ℕ, suc, ◌+◌, ◌-◌, ◌<◌}
use Rattle.std.proofs.Common.{List, [], ◌∷◌, map, filter, length, None, Some, arith}
use Rattle.std.specs.Prelude.{option_map, slice_get}
use Rattle.ftd_rules.specs.Lists.{Has, KeysRise}
use Rattle.ftd_machine.specs.Journal.{in_order, is_key_before, own_by_key}
use Rattle.ftd_machine.specs.Sound.{AreDistinct, place_of}
use Rattle.ftd_machine.specs.State.{Entry, is_of}
use Rattle.ftd_machine.proofs.InOrder.{has_ordered, ordered_has}
use Rattle.ftd_journal.specs.Numbers.{IsNextNumber, number_after}
use Rattle.ftd_machine.proofs.Orders.{ordered_rises}
use Rattle.ftd_machine.proofs.SameMembers.{key_of_entry, own_apart}

-- the last of a list, in that of its keys
mapped_last : {X Y : Type 0} (key : Y → ℕ) (f : X → Y) (xs : List X)
    → option_map (λ x. key (f x)) (slice_get xs (length xs - 1))
    ≡ option_map key (slice_get (map f xs) (length (map f xs) - 1))
mapped_last key f [] = refl
mapped_last key f (x ∷ []) = refl
mapped_last key f (x ∷ y ∷ xs) =
    let here : length (x ∷ y ∷ xs) - 1 ≡ suc (length (y ∷ xs) - 1) = omega arith in
    let there : length (map f (x ∷ y ∷ xs)) - 1 ≡ suc (length (map f (y ∷ xs)) - 1) = omega arith in
    rw (here, there) (mapped_last key f (y ∷ xs))

-- where the keys rise, the last one is the greatest
last_is : {X : Type 0} (es : List (Entry X)) → KeysRise key_of_entry es → (number : ℕ)
    → number ≡ number_after (option_map key_of_entry (slice_get es (length es - 1)))
    → IsNextNumber es number
last_is [] rise number is = record { above = λ e has. absurd has; least = inl is }
last_is (e ∷ []) rise number is = record {
  above = λ d has. elim has [
    | inl same ↦ (let its : d.key ≡ e.key = ap key_of_entry same in omega (arith, is, its))
    | inr none ↦ absurd none
  ];
  least = inr (e, inl refl, sym is);
}
last_is (e ∷ f ∷ es) rise number is =
    let here : length (e ∷ f ∷ es) - 1 ≡ suc (length (f ∷ es) - 1) = omega arith in
    let rest = last_is (f ∷ es) rise.1 number (rw here at is) in
    record {
      above = λ d has. elim has [
        | inl same ↦ (let its : d.key ≡ e.key = ap key_of_entry same in
            let low : e.key < f.key = rise.0 f (inl refl) in
            let high : f.key < number = rest.above f (inl refl) in omega arith)
        | inr there ↦ rest.above d there
      ];
      least = elim rest.least [
        | inl one ↦ inl one
        | inr some ↦ inr (some.0, inr some.1, some.2)
      ];
    }

-- so of the entries of an account that were read by key
pub next_is : {X Y : Type 0} (name : List ℕ) (entries : List (Entry X))
    → AreDistinct place_of entries → (value : Y → Entry X) (rows : List Y) (number : ℕ)
    → map value rows ≡ own_by_key name entries
    → number ≡ number_after (option_map (λ y. (value y).key) (slice_get rows (length rows - 1)))
    → IsNextNumber (filter (is_of name) entries) number
next_is {X} name entries apart value rows number are is =
    let own = filter (is_of name) entries in
    let last = last_is (own_by_key name entries)
    (ordered_rises key_of_entry own (own_apart name entries apart)) number
    (is ∙ ap number_after (mapped_last key_of_entry value rows)
    ∙ ap (λ (es : List (Entry X)). number_after (option_map key_of_entry
    (slice_get es (length es - 1)))) are) in
    record {
      above = λ e has. last.above e (ordered_has is_key_before own e has);
      least = elim last.least [
        | inl one ↦ inl one
        | inr some ↦ inr (some.0, has_ordered is_key_before own some.0 some.1, some.2)
      ];
    }
