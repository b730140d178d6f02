-- The rows by due date: those of one due date stay by account and first day.
use Rattle.std.proofs.Common.{◌≡◌, ◌⊎◌, inl, inr, sym, subst, ℕ, ◌+◌, ◌<◌, Bool, true, false}
use Rattle.std.proofs.Common.{List, [], ◌∷◌, refl, arith}
use Rattle.std.specs.Prelude.{filter}
use Rattle.std.specs.Ordering.{is_lt, nat_cmp, ordering_reverse}
use Rattle.std.specs.declared.cmp.Ordering.{Ordering}
use Rattle.std.specs.declared.cmp.Ordering.TheVariants.{Less, Equal, Greater}
use Rattle.std.proofs.lemmas.Cmp.{nat_cmp_total}
use Rattle.std.specs.List.Sorted.{IsNonDecreasingBy, IsStableByKey, ties}
use Rattle.std.proofs.lemmas.Bool.{cases_Bool, cases_lt}
use Rattle.ftd_entries.proofs.DayChanges.{later_those}
use Rattle.ftd_rules.specs.Lists.{KeysDoNotFall}
use Rattle.ftd_rules.proofs.Rising.{next_do_not_fall}
use Rattle.ftd_rules.proofs.Members.{filter_in, filter_out, has_kept}
use Rattle.ftd_machine.specs.Agenda.{EachToLater, IsOwnBefore, ComesBefore, due_date_of}
use Rattle.ftd_machine.specs.declared.lists.AgendaRow.{AgendaRow}

module _ {X : Type 0} (key : X → ℕ) (S : X → X → Type 0) (tie : X → X → Bool)
    (ties_so : (x y : X) → key x ≡ key y → tie x y ≡ true) where
  -- where the keys do not fall, and those of one key are in an order, each comes before those after
  -- it by its key, or else by that order
  then_by : (ys : List X) → KeysDoNotFall key ys → ((x : X) → EachToLater S (filter (tie x) ys))
      → EachToLater (λ x y. (key x < key y) ⊎ ((key x ≡ key y) × S x y)) ys
  then_by [] up each = tt
  then_by (y ∷ ys) up each = (
    (λ later has. elim (cases_lt (key y) (key later)) [
      | inl less ↦ inl less
      | inr not ↦
          (let no_more = up.0 later has in
          let same : key y ≡ key later = omega arith in
          let own : EachToLater S (y ∷ filter (tie y) ys) =
          subst (EachToLater S) (filter_in (tie y) y ys (ties_so y y refl)) (each y) in
          inr (same, own.0 later (has_kept (tie y) ys later has (ties_so y later same))))
    ]),
    then_by ys up.1 rest,
  )
    where
      rest : (x : X) → EachToLater S (filter (tie x) ys)
      rest x = elim (cases_Bool (tie x y)) [
        | inl kept ↦
            (let whole : EachToLater S (y ∷ filter (tie x) ys) =
            subst (EachToLater S) (filter_in (tie x) y ys kept) (each x) in whole.1)
        | inr left ↦ subst (EachToLater S) (filter_out (tie x) y ys left) (each x)
      ]

-- ---- rows

abbrev is_less : AgendaRow → AgendaRow → Bool
is_less x y = is_lt (nat_cmp (due_date_of x) (due_date_of y))

tie_of : (m n : ℕ) → m ≡ n → is_lt (nat_cmp m n) ≡ false
tie_of m n e = rw e (not_less (nat_cmp n n) (nat_cmp_total.antisymm n n))
  where
    not_less : (o : Ordering) → o ≡ ordering_reverse o → is_lt o ≡ false
    not_less Less same = absurd cc
    not_less Equal same = refl
    not_less Greater same = refl

ties_so : (x y : AgendaRow) → due_date_of x ≡ due_date_of y → ties is_less x y ≡ true
ties_so x y e =
    rw (tie_of (due_date_of x) (due_date_of y) e, tie_of (due_date_of y) (due_date_of x) (sym e))
    refl

pub due_dates_up : (ys : List AgendaRow) → IsNonDecreasingBy due_date_of ys
    → KeysDoNotFall due_date_of ys
due_dates_up ys up =
    next_do_not_fall due_date_of ys (λ k d low. up k (k + 1) d (omega arith) low)

pub rows_in_order : (xs ys : List AgendaRow) → IsNonDecreasingBy due_date_of ys
    → IsStableByKey due_date_of nat_cmp xs ys → EachToLater IsOwnBefore xs
    → EachToLater ComesBefore ys
rows_in_order xs ys up stable each =
    then_by due_date_of IsOwnBefore (ties is_less) ties_so ys
    (due_dates_up ys up) (λ x. subst (EachToLater IsOwnBefore) (sym (stable x))
    (later_those IsOwnBefore (ties is_less x) xs each))
