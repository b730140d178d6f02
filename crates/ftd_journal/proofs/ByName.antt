-- The accounts that are listed by name are those of the journal, in its order.
use Rattle.std.proofs.Common.{◌≡◌, ◌∙◌, inl, inr, refl, sym, ap, subst, ℕ, true, false}
use Rattle.std.proofs.Common.{List, [], ◌∷◌, map}
use Rattle.std.specs.Prelude.{◌↔◌, is_some}
use Rattle.std.specs.Cmp.Lexicographic.{slice_cmp}
use Rattle.std.specs.Ordering.{nat_cmp, is_lt}
use Rattle.std.proofs.Common.{Ordering, Less, Equal, Greater}
use Rattle.ftd_days.proofs.Spelling.{same_text}
use Rattle.ftd_rules.specs.Lists.{Has}
use Rattle.ftd_rules.proofs.Members.{has_mapped, mapped_has}
use Rattle.ftd_machine.specs.Agenda.{EachToLater, IsNameBefore}
use Rattle.ftd_machine.specs.Journal.{in_order, is_account_before}
use Rattle.ftd_machine.specs.Kept.{IsAccountBefore, IsEnrolled}
use Rattle.ftd_machine.specs.Sound.{AreDistinct, IsSound, name_of}
use Rattle.ftd_machine.specs.State.{State, Enrolled, account_of, enrolled_in, entries_of, is_named}
use Rattle.ftd_machine.specs.State.{moves_in}
use Rattle.ftd_machine.specs.declared.kept.KeptAccount.{KeptAccount}
use Rattle.ftd_machine.proofs.AgendaOrder.{names_once, names_then, names_total}
use Rattle.ftd_machine.proofs.InOrder.{has_ordered, ordered_has}
use Rattle.ftd_machine.proofs.JournalAccount.{enrolled_is}
use Rattle.ftd_machine.proofs.Members.{enrolled_of, found_some, some_of}
use Rattle.ftd_machine.proofs.Ordered.{ordered_one}
use Rattle.ftd_machine.proofs.Soundness.{in_force_some}
use Rattle.ftd_journal.specs.Parts.{kept_name}
use Rattle.ftd_machine.proofs.Orders.{ordered_goes, ordered_same}

-- ---- accounts by name

each_mapped : {X Y : Type 0} (R : Y → Y → Type 0) (f : X → Y) (xs : List X)
    → EachToLater (λ a b. R (f a) (f b)) xs → EachToLater R (map f xs)
each_mapped R f [] goes = tt
each_mapped R f (x ∷ xs) goes = (
  (λ later has.
      (let from = has_mapped f xs later has in subst (R (f x)) (sym from.2) (goes.0 from.0 from.1))),
  each_mapped R f xs goes.1,
)

abbrev IsEnrolledBefore : Enrolled → Enrolled → Type 0
IsEnrolledBefore a b = IsNameBefore a.name b.name

further_on : (a b c : Enrolled) → IsEnrolledBefore a b → IsEnrolledBefore b c
    → IsEnrolledBefore a c
further_on a b c = names_then a.name b.name c.name

is_before : (a b : Enrolled) → is_account_before a b ≡ true → IsEnrolledBefore a b
is_before a b is = go (slice_cmp nat_cmp a.name b.name) refl is where
  go : (o : Ordering) → slice_cmp nat_cmp a.name b.name ≡ o → is_lt o ≡ true
      → IsEnrolledBefore a b
  go Less e is = e
  go Equal e is = absurd cc
  go Greater e is = absurd cc

is_after : (a b : Enrolled) → is_account_before a b ≡ false → (b.name ≡ a.name → ⊥)
    → IsEnrolledBefore b a
is_after a b not apart = elim (names_total b.name a.name) [
  | inl before ↦ before
  | inr other ↦ elim other [
    | inl same ↦ absurd (apart same)
    | inr after ↦ absurd (let is = ap is_lt after in let no = sym not ∙ is in cc)
  ]
]

-- accounts with the same members are the same by name
pub accounts_same : (xs ys : List Enrolled) → AreDistinct name_of xs → AreDistinct name_of ys
    → ((e : Enrolled) → Has xs e → Has ys e) → ((e : Enrolled) → Has ys e → Has xs e)
    → in_order is_account_before xs ≡ in_order is_account_before ys
accounts_same xs ys apart also there back =
    ordered_same is_account_before name_of IsEnrolledBefore further_on is_before is_after
    (λ a b. names_once a.name b.name) xs ys apart also there back

module _ (s : State) (sound : IsSound s) where
  abbrev by_name : List Enrolled
  by_name = in_order is_account_before s.accounts

  by_name_goes : EachToLater IsNameBefore (map name_of by_name)
  by_name_goes =
      each_mapped IsNameBefore name_of by_name
      (ordered_goes is_account_before name_of IsEnrolledBefore further_on is_before is_after
      s.accounts sound.accounts)

  pub names_are : (listed : List KeptAccount) → EachToLater IsAccountBefore listed
      → ((x : KeptAccount) → Has listed x ↔ IsEnrolled s x)
      → map kept_name listed ≡ map name_of (in_order is_account_before s.accounts)
  names_are listed goes all =
      ordered_one IsNameBefore names_once (map kept_name listed) (map name_of by_name)
      (each_mapped IsNameBefore kept_name listed goes) by_name_goes listed_has has_listed
    where
      listed_has : (name : List ℕ) → Has (map kept_name listed) name
          → Has (map name_of by_name) name
      listed_has name has =
          let from = has_mapped kept_name listed name has in
          let first = enrolled_of s from.0.name from.0.account ((all from.0).0 from.1) in
          let e = found_some account_of (is_named from.0.name) s.accounts first.0 first.1 in
          subst (Has (map name_of by_name)) (same_text e.0.name from.0.name e.2 ∙ sym from.2)
          (mapped_has name_of by_name e.0 (ordered_has is_account_before s.accounts e.0 e.1))

      has_listed : (name : List ℕ) → Has (map name_of by_name) name
          → Has (map kept_name listed) name
      has_listed name has =
          let from = has_mapped name_of by_name name has in
          let there = enrolled_is s.accounts from.0 sound.accounts
          (has_ordered is_account_before s.accounts from.0 from.1) in
          let now = some_of (entries_of s from.0.name).account
          (in_force_some (enrolled_in s from.0.name) (moves_in s from.0.name)
          (ap is_some there)) in
          let x : KeptAccount = record { name = from.0.name; account = now.0 } in
          subst (Has (map kept_name listed)) (sym from.2)
          (mapped_has kept_name listed x ((all x).1 now.1))
