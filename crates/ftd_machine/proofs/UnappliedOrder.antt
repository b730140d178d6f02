-- The order of money that counts for nothing.
use Rattle.std.proofs.Common.{◌≡◌, ◌∙◌, ◌⊎◌, inl, inr, refl, sym, ap, subst, ℕ, ◌<◌, List, false, arith}
use Rattle.std.specs.Prelude.{Option, None, Some}
use Rattle.std.proofs.lemmas.Option.{same_Some}
use Rattle.ftd_days.specs.declared.cents.Cents.{Cents}
use Rattle.ftd_rules.specs.declared.Obligation.{Obligation}
use Rattle.ftd_rules.specs.declared.payment.Payment.{Payment}
use Rattle.ftd_rules.specs.declared.run.Voidable.{Voidable}
use Rattle.ftd_rules.specs.Obligations.{ByFirstDay}
use Rattle.ftd_machine.specs.State.{State, Entries, entries_of, holidays}
use Rattle.ftd_machine.specs.Agenda.{IsNameBefore}
use Rattle.ftd_machine.specs.History.{AreOwed}
use Rattle.ftd_machine.specs.Unapplied.{all_paid, IsUnappliedOf}
use Rattle.ftd_machine.specs.Unapplied.{IsUnappliedRow, IsNumberBefore, IsUnappliedBefore}
use Rattle.ftd_machine.specs.declared.lists.UnappliedRow.{UnappliedRow}
use Rattle.ftd_machine.proofs.Single.{IsOnce, owed_one}
use Rattle.ftd_machine.proofs.AgendaOrder.{names_once, names_total, names_then, name_once, three}
use Rattle.ftd_machine.proofs.AgendaOrder.{first_one}

-- ---- numbers

number_once : (a b : Option ℕ) → IsNumberBefore a b → IsNumberBefore b a → ⊥
number_once a None g h = g
number_once None (Some b) g h = h
number_once (Some a) (Some b) g h = omega arith

number_then : (a b c : Option ℕ) → IsNumberBefore a b → IsNumberBefore b c → IsNumberBefore a c
number_then a None c g h = absurd g
number_then a (Some b) None g h = absurd h
number_then None (Some b) (Some c) g h = tt
number_then (Some a) (Some b) (Some c) g h = omega arith

numbers_total : (a b : Option ℕ) → IsNumberBefore a b ⊎ ((a ≡ b) ⊎ IsNumberBefore b a)
numbers_total None None = inr (inl refl)
numbers_total None (Some b) = inl tt
numbers_total (Some a) None = inr (inr tt)
numbers_total (Some a) (Some b) = elim (three a b) [
  | inl less ↦ inl less
  | inr rest ↦ elim rest [
    | inl same ↦ inr (inl (ap Some same))
    | inr more ↦ inr (inr more)
  ]
]

-- ---- days of one account

abbrev IsDayBefore : UnappliedRow → UnappliedRow → Type 0
IsDayBefore a b = (a.first < b.first) ⊎ ((a.first ≡ b.first) × IsNumberBefore a.payment b.payment)

day_once : (x y : UnappliedRow) → IsDayBefore x y → IsDayBefore y x → ⊥
day_once x y (inl g) (inl h) = omega arith
day_once x y (inl g) (inr h) = let e = h.0 in omega arith
day_once x y (inr g) (inl h) = let e = g.0 in omega arith
day_once x y (inr g) (inr h) = number_once x.payment y.payment g.1 h.1

day_then : (x y z : UnappliedRow) → IsDayBefore x y → IsDayBefore y z → IsDayBefore x z
day_then x y z (inl g) (inl h) = inl (omega arith)
day_then x y z (inl g) (inr h) = let e = h.0 in inl (omega arith)
day_then x y z (inr g) (inl h) = let e = g.0 in inl (omega arith)
day_then x y z (inr g) (inr h) =
    inr (g.0 ∙ h.0, number_then x.payment y.payment z.payment g.1 h.1)

-- ---- rows

pub not_both : (x y : UnappliedRow) → IsUnappliedBefore x y → IsUnappliedBefore y x → ⊥
not_both x y (inl g) (inl h) = names_once x.account y.account g h
not_both x y (inl g) (inr h) = name_once x.account y.account (sym h.0) g
not_both x y (inr g) (inl h) = name_once y.account x.account (sym g.0) h
not_both x y (inr g) (inr h) = day_once x y g.1 h.1

pub comes_then : (x y z : UnappliedRow) → IsUnappliedBefore x y → IsUnappliedBefore y z
    → IsUnappliedBefore x z
comes_then x y z (inl g) (inl h) = inl (names_then x.account y.account z.account g h)
comes_then x y z (inl g) (inr h) = inl (subst (IsNameBefore x.account) h.0 g)
comes_then x y z (inr g) (inl h) = inl (subst (λ n. IsNameBefore n z.account) (sym g.0) h)
comes_then x y z (inr g) (inr h) = inr (g.0 ∙ h.0, day_then x y z g.1 h.1)

cents_same : (a b : Cents) → a.0 ≡ b.0 → a ≡ b
cents_same a b e = rw e refl

-- of an account, one row has a first day and a number
of_one : (own : Entries) (owed : List Obligation) (by : ByFirstDay owed) (number : Option ℕ)
    (x y : UnappliedRow) → x.first ≡ y.first → IsUnappliedOf own owed number x
    → IsUnappliedOf own owed number y → (x.last ≡ y.last) × (x.amount ≡ y.amount)
    × (x.paid ≡ y.paid)
of_one own owed by None x y first g h =
    let same : g.obligation ≡ h.obligation = first_one owed by g.obligation h.obligation g.is_owed
    h.is_owed (sym g.first ∙ (first ∙ h.first)) in (
      g.last ∙ (ap (λ (o : Obligation). o.last) same ∙ sym h.last),
      g.amount ∙ (ap (λ (o : Obligation). o.cents) same ∙ sym h.amount),
      cents_same x.paid y.paid (g.paid ∙ (ap (all_paid own) same ∙ sym h.paid)),
    )
of_one own owed by (Some number) x y first g h =
    let kept = same_Some (record { value = g.payment; voided = false })
    (record { value = h.payment; voided = false }) (sym g.kept ∙ h.kept) in
    let same : g.payment ≡ h.payment = ap (λ (v : Voidable Payment). v.value) kept in (
      g.last ∙ (ap (λ (p : Payment). p.for_day) same ∙ sym h.last),
      cents_same x.amount y.amount (g.amount ∙ sym h.amount),
      g.paid ∙ (ap (λ (p : Payment). p.cents) same ∙ sym h.paid),
    )

module _ (s : State) (once : (name : List ℕ) → IsOnce (entries_of s name)) where
  pub row_one : (x y : UnappliedRow) → x.account ≡ y.account → x.first ≡ y.first
      → x.payment ≡ y.payment → IsUnappliedRow s x → IsUnappliedRow s y → x ≡ y
  row_one x y named first number g h =
      let own : entries_of s x.account ≡ entries_of s y.account = ap (entries_of s) named in
      let owed : h.owed ≡ g.owed = owed_one (holidays s) (entries_of s x.account) h.owed g.owed
      (once x.account) (subst (λ e. AreOwed (holidays s) e h.owed) (sym own) h.are_owed)
      g.are_owed in
      let there : IsUnappliedOf (entries_of s x.account) g.owed x.payment y =
      subst (λ n. IsUnappliedOf (entries_of s x.account) g.owed n y) (sym number)
      (subst (λ os. IsUnappliedOf (entries_of s x.account) os y.payment y) owed
      (subst (λ e. IsUnappliedOf e h.owed y.payment y) (sym own) h.is_row)) in
      let same = of_one (entries_of s x.account) g.owed g.are_owed.2.by_first_day x.payment x y
      first g.is_row there in
      let last = same.0 in let amount = same.1 in let paid = same.2 in
      rw (named, number, first, last, amount, paid) refl

  -- of two rows one comes before the other, or they are the same
  pub rows_total : (x y : UnappliedRow) → IsUnappliedRow s x → IsUnappliedRow s y
      → IsUnappliedBefore x y ⊎ ((x ≡ y) ⊎ IsUnappliedBefore y x)
  rows_total x y g h = elim (names_total x.account y.account) [
    | inl before ↦ inl (inl before)
    | inr other ↦ elim other [
      | inr after ↦ inr (inr (inl after))
      | inl named ↦ elim (three x.first y.first) [
        | inl less ↦ inl (inr (named, inl less))
        | inr rest ↦ elim rest [
          | inr more ↦ inr (inr (inr (sym named, inl more)))
          | inl first ↦ elim (numbers_total x.payment y.payment) [
            | inl before ↦ inl (inr (named, inr (first, before)))
            | inr last ↦ elim last [
              | inl number ↦ inr (inl (row_one x y named first number g h))
              | inr after ↦ inr (inr (inr (sym named, inr (sym first, after))))
            ]
          ]
        ]
      ]
    ]
  ]
