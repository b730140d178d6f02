-- Obligations in some order are those that rise by first day, where sorted they are the same.
use Rattle.std.proofs.Common.{◌≡◌, ◌+◌, ℕ, subst, List, arith}
use Rattle.std.specs.List.Sorted.{IsPermutation, IsNonDecreasingBy}
use Rattle.std.proofs.lemmas.List.Sorted.{IsPermutation-trans, IsPermutation-sym}
use Rattle.ftd_rules.specs.declared.Obligation.{Obligation}
use Rattle.ftd_rules.specs.Obligations.{ByFirstDay}
use Rattle.ftd_rules.proofs.Rising.{sorted_is, next_do_not_fall}

abbrev pub first_day : Obligation → ℕ
first_day o = o.first

module _ (stored sorted owed : List Obligation) (moved : IsPermutation stored sorted) where
  pub owed_are : sorted ≡ owed → IsPermutation stored owed
  owed_are same = subst (λ (os : List Obligation). IsPermutation stored os) same moved

  pub are_owed : ByFirstDay owed → IsNonDecreasingBy first_day sorted → IsPermutation stored owed
      → sorted ≡ owed
  are_owed rise order are =
      sorted_is first_day owed sorted rise
      (next_do_not_fall first_day sorted (λ k d more. order k (k + 1) d (omega arith) more))
      (IsPermutation-trans owed stored sorted (IsPermutation-sym stored owed are) moved)
