-- The order of what is due over all accounts.
use Rattle.std.proofs.Common.{◌≡◌, ◌∙◌, ◌⊎◌, inl, inr, refl, sym, ap, subst, ℕ, ◌<◌, List, [], ◌∷◌}
use Rattle.std.proofs.Common.{arith}
use Rattle.std.specs.Ordering.{nat_cmp, ordering_reverse}
use Rattle.std.specs.declared.cmp.Ordering.{Ordering}
use Rattle.std.specs.declared.cmp.Ordering.TheVariants.{Less, Equal, Greater}
use Rattle.std.specs.Cmp.Lexicographic.{slice_cmp}
use Rattle.std.proofs.lemmas.Cmp.{nat_list_cmp_total}
use Rattle.std.specs.FinMap.{slice_cmp-IsAntisymmetric, nat_cmp-IsAntisymmetric}
use Rattle.std.proofs.lemmas.Option.{same_Some}
use Rattle.std.proofs.lemmas.Bool.{cases_lt}
use Rattle.ftd_days.specs.Calendar.{quarter_of}
use Rattle.ftd_days.proofs.Business.{on_or_after_one}
use Rattle.ftd_rules.specs.declared.Form.{Form}
use Rattle.ftd_rules.specs.declared.Obligation.{Obligation}
use Rattle.ftd_rules.specs.declared.verdict.DueRow.{DueRow}
use Rattle.ftd_rules.specs.declared.verdict.Verdict.{Verdict}
use Rattle.ftd_rules.specs.declared.verdict.Verdict.TheVariants.{Met, WithReturn, Open, MadeUp}
use Rattle.ftd_rules.specs.declared.verdict.Verdict.TheVariants.{Short, Late}
use Rattle.ftd_rules.specs.Lists.{Has}
use Rattle.ftd_rules.specs.Obligations.{ByFirstDay}
use Rattle.ftd_machine.specs.State.{State, Entries, entries_of, holidays}
use Rattle.ftd_machine.specs.History.{AreOwed}
use Rattle.ftd_machine.specs.Asking.{IsDueRow}
use Rattle.ftd_machine.specs.Agenda.{due_date_of, first_day_of, IsDayFor, IsAgendaRow}
use Rattle.ftd_machine.specs.Agenda.{IsNameBefore, IsOwnBefore, ComesBefore}
use Rattle.ftd_machine.specs.declared.entries.Account.{Account}
use Rattle.ftd_machine.specs.declared.lists.AgendaRow.{AgendaRow}
use Rattle.ftd_machine.proofs.Single.{IsOnce, owed_one}
use Rattle.ftd_machine.proofs.DueSome.{row_one}

-- ---- names

not_greater : Less ≡ Greater → ⊥
not_greater e = absurd cc

pub names_once : (a b : List ℕ) → IsNameBefore a b → IsNameBefore b a → ⊥
names_once a b g h = not_greater (sym g ∙ (nat_list_cmp_total.antisymm a b ∙ ap ordering_reverse h))

pub name_once : (a b : List ℕ) → a ≡ b → IsNameBefore a b → ⊥
name_once a b same g =
    let own : IsNameBefore b b = subst (λ x. IsNameBefore x b) same g in names_once b b own own

by_name : (a b : List ℕ) (o : Ordering) → slice_cmp nat_cmp a b ≡ o
    → IsNameBefore a b ⊎ ((a ≡ b) ⊎ IsNameBefore b a)
by_name a b Less e = inl e
by_name a b Equal e = inr (inl (slice_cmp-IsAntisymmetric nat_cmp-IsAntisymmetric a b e))
by_name a b Greater e = inr (inr (nat_list_cmp_total.antisymm b a ∙ ap ordering_reverse e))

pub names_total : (a b : List ℕ) → IsNameBefore a b ⊎ ((a ≡ b) ⊎ IsNameBefore b a)
names_total a b = by_name a b (slice_cmp nat_cmp a b) refl

pub names_then : (a b c : List ℕ) → IsNameBefore a b → IsNameBefore b c → IsNameBefore a c
names_then a b c g h = nat_list_cmp_total.trans a b c g h

-- ---- numbers

pub three : (a b : ℕ) → (a < b) ⊎ ((a ≡ b) ⊎ (b < a))
three a b = elim (cases_lt a b) [
  | inl less ↦ inl less
  | inr not ↦ elim (cases_lt b a) [
    | inl more ↦ inr (inr more)
    | inr also ↦ inr (inl (omega arith))
  ]
]

-- ---- rows

own_once : (x y : AgendaRow) → IsOwnBefore x y → IsOwnBefore y x → ⊥
own_once x y (inl g) (inl h) = names_once x.account y.account g h
own_once x y (inl g) (inr h) = name_once x.account y.account (sym h.0) g
own_once x y (inr g) (inl h) = name_once y.account x.account (sym g.0) h
own_once x y (inr g) (inr h) = let a = g.1 in let b = h.1 in omega arith

pub not_both : (x y : AgendaRow) → ComesBefore x y → ComesBefore y x → ⊥
not_both x y (inl g) (inl h) = omega arith
not_both x y (inl g) (inr h) = let e = h.0 in omega arith
not_both x y (inr g) (inl h) = let e = g.0 in omega arith
not_both x y (inr g) (inr h) = own_once x y g.1 h.1

own_then : (x y z : AgendaRow) → IsOwnBefore x y → IsOwnBefore y z → IsOwnBefore x z
own_then x y z (inl g) (inl h) =
    inl (nat_list_cmp_total.trans x.account y.account z.account g h)
own_then x y z (inl g) (inr h) = inl (subst (IsNameBefore x.account) h.0 g)
own_then x y z (inr g) (inl h) = inl (subst (λ n. IsNameBefore n z.account) (sym g.0) h)
own_then x y z (inr g) (inr h) =
    let a = g.1 in let b = h.1 in
    let less : first_day_of x < first_day_of z = omega arith in inr (g.0 ∙ h.0, less)

pub comes_then : (x y z : AgendaRow) → ComesBefore x y → ComesBefore y z → ComesBefore x z
comes_then x y z (inl g) (inl h) = inl (omega arith)
comes_then x y z (inl g) (inr h) = let e = h.0 in inl (omega arith)
comes_then x y z (inr g) (inl h) = let e = g.0 in inl (omega arith)
comes_then x y z (inr g) (inr h) = inr (g.0 ∙ h.0, own_then x y z g.1 h.1)

-- ---- one row of an account and a first day

pub first_one : (os : List Obligation) → ByFirstDay os → (o p : Obligation) → Has os o → Has os p
    → o.first ≡ p.first → o ≡ p
first_one [] by o p has_o has_p same = absurd has_o
first_one (x ∷ os) by o p (inl is) (inl also) same = is ∙ sym also
first_one (x ∷ os) by o p (inl is) (inr later) same =
    absurd (let less = by.0 p later in
    let e : o.first ≡ x.first = ap (λ (q : Obligation). q.first) is in omega arith)
first_one (x ∷ os) by o p (inr later) (inl is) same =
    absurd (let less = by.0 o later in
    let e : p.first ≡ x.first = ap (λ (q : Obligation). q.first) is in omega arith)
first_one (x ∷ os) by o p (inr a) (inr b) same = first_one os by.1 o p a b same

day_one : (form : Form) (hs : List ℕ) (as_of : ℕ) (row : DueRow) (verdict : Verdict) (a b : ℕ)
    → IsDayFor form hs as_of row verdict a → IsDayFor form hs as_of row verdict b → a ≡ b
day_one form hs as_of row Met a b g h = g ∙ sym h
day_one form hs as_of row WithReturn a b (inl g) (inl h) = on_or_after_one hs _ a b g.1 h.1
day_one form hs as_of row WithReturn a b (inl g) (inr h) =
    absurd (let over = g.0 in let runs = h.0 in omega arith)
day_one form hs as_of row WithReturn a b (inr g) (inl h) =
    absurd (let runs = g.0 in let over = h.0 in omega arith)
day_one form hs as_of row WithReturn a b (inr g) (inr h) = g.1 ∙ sym h.1
day_one form hs as_of row Open a b g h = g ∙ sym h
day_one form hs as_of row MadeUp a b g h = g ∙ sym h
day_one form hs as_of row Short a b g h = g ∙ sym h
day_one form hs as_of row Late a b g h = g ∙ sym h

-- the rows of one account
module _ (s : State) (as_of : ℕ) (once : (name : List ℕ) → IsOnce (entries_of s name)) where
  same_row : (x y : AgendaRow) → x.account ≡ y.account → first_day_of x ≡ first_day_of y
      → IsAgendaRow s as_of x → IsAgendaRow s as_of y → (x.form ≡ y.form) × (x.row ≡ y.row)
  same_row x y named first g h =
      let own : entries_of s x.account ≡ entries_of s y.account = ap (entries_of s) named in
      let account : g.account ≡ h.account = same_Some g.account h.account
      (sym g.enrolled ∙ ap (λ (e : Entries). e.account) own ∙ h.enrolled) in
      let there = subst (λ n. IsDueRow (holidays s) n h.owed (quarter_of (first_day_of y)) as_of
      y.row) (sym own) h.is_row in
      let owed : h.owed ≡ g.owed = owed_one (holidays s) (entries_of s x.account) h.owed g.owed
      (once x.account) (subst (λ n. AreOwed (holidays s) n h.owed) (sym own) h.are_owed)
      g.are_owed in
      let also = subst (λ os. IsDueRow (holidays s) (entries_of s x.account) os
      (quarter_of (first_day_of y)) as_of y.row) owed there in
      let is = subst (λ day. IsDueRow (holidays s) (entries_of s x.account) g.owed
      (quarter_of day) as_of y.row) (sym first) also in
      let obligation : x.row.obligation ≡ y.row.obligation =
      first_one g.owed g.are_owed.2.by_first_day x.row.obligation y.row.obligation
      g.is_row.owed is.owed first in (
        g.form_is ∙ ap (λ (a : Account). a.form) account ∙ sym h.form_is,
        row_one (holidays s) (entries_of s x.account) g.owed (quarter_of (first_day_of x)) as_of
            x.row y.row obligation g.is_row is,
      )

  pub agenda_row_one : (x y : AgendaRow) → x.account ≡ y.account
      → first_day_of x ≡ first_day_of y → IsAgendaRow s as_of x → IsAgendaRow s as_of y → x ≡ y
  agenda_row_one x y named first g h =
      let same = same_row x y named first g h in
      let form = same.0 in
      let row = same.1 in
      let there : IsDayFor x.form (holidays s) as_of x.row x.row.verdict y.pay_by =
      rw (form, row) h.pay_by in
      let pay_by : x.pay_by ≡ y.pay_by =
      day_one x.form (holidays s) as_of x.row x.row.verdict x.pay_by y.pay_by g.pay_by there in
      rw (named, form, row, pay_by) refl

  -- of two rows one comes before the other, or they are the same
  pub rows_total : (x y : AgendaRow) → IsAgendaRow s as_of x → IsAgendaRow s as_of y
      → ComesBefore x y ⊎ ((x ≡ y) ⊎ ComesBefore y x)
  rows_total x y g h = elim (three (due_date_of x) (due_date_of y)) [
    | inl less ↦ inl (inl less)
    | inr not ↦ elim not [
      | inr more ↦ inr (inr (inl more))
      | inl due ↦ elim (names_total x.account y.account) [
        | inl before ↦ inl (inr (due, inl before))
        | inr other ↦ elim other [
          | inr after ↦ inr (inr (inr (sym due, inl after)))
          | inl named ↦ elim (three (first_day_of x) (first_day_of y)) [
            | inl less ↦ inl (inr (due, inr (named, less)))
            | inr rest ↦ elim rest [
              | inr more ↦ inr (inr (inr (sym due, inr (sym named, more))))
              | inl first ↦ inr (inl (agenda_row_one x y named first g h))
            ]
          ]
        ]
      ]
    ]
  ]
