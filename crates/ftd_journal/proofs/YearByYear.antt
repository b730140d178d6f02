-- What goes on by year, year by year: those of earlier years, and those of one year more.
use Rattle.std.proofs.Common.{◌≡◌, ◌∙◌, inl, inr, refl, sym, ap, ℕ, ◌+◌, ◌<◌, ◌≤◌, ◌==◌, Bool, true}
use Rattle.std.proofs.Common.{false, List, [], ◌∷◌, ◌++◌, arith}
use Rattle.std.specs.Prelude.{filter, nat_lt}
use Rattle.std.proofs.lemmas.Bool.{cases_lt, lt-ltb, ltb-true}
use Rattle.std.proofs.lemmas.Bool.{le-ltb}
use Rattle.ftd_days.proofs.Years.{eq_same, eq_not}
use Rattle.ftd_rules.specs.Lists.{Has, KeysRise, KeysDoNotFall}
use Rattle.ftd_rules.proofs.Members.{has_kept}
use Rattle.ftd_machine.specs.Journal.{in_order}
use Rattle.ftd_machine.specs.Sound.{AreDistinct}
use Rattle.ftd_machine.proofs.Found.{filter_all, filter_apart, filter_none}
use Rattle.ftd_machine.proofs.InOrder.{has_ordered, ordered_has}
use Rattle.ftd_machine.proofs.Members.{has_filtered}
use Rattle.ftd_machine.proofs.Single.{members_one}
use Rattle.ftd_machine.proofs.Orders.{is_before, ordered_rises}

module _ {X : Type 0} (year_in : X → ℕ) where
  -- those of earlier years, and those of the year
  abbrev pub earlier : ℕ → List X → List X
  earlier year xs = filter (λ x. nat_lt (year_in x) year) xs

  abbrev pub of_year : ℕ → List X → List X
  of_year year xs = filter (λ x. year_in x == year) xs

  pub none_earlier : (year : ℕ) (xs : List X) → ((x : X) → Has xs x → year ≤ year_in x)
      → earlier year xs ≡ []
  none_earlier year xs from =
      filter_none (λ x. nat_lt (year_in x) year) xs
      (λ x has is. (let less = ltb-true (year_in x) year is in
      let not_less = from x has in omega arith))

  pub all_earlier : (year : ℕ) (xs : List X) → ((x : X) → Has xs x → year_in x < year)
      → earlier year xs ≡ xs
  all_earlier year xs to =
      filter_all (λ x. nat_lt (year_in x) year) xs (λ x has. lt-ltb (year_in x) year (to x has))

  pub one_year_more : (year : ℕ) (xs : List X) → KeysDoNotFall year_in xs
      → earlier (year + 1) xs ≡ earlier year xs ++ of_year year xs
  one_year_more year [] fall = refl
  one_year_more year (x ∷ xs) fall =
      let rest = one_year_more year xs fall.1 in
      elim (cases_lt (year_in x) year) [
        | inl less ↦
            rw (
              lt-ltb (year_in x) (year + 1) (omega arith),
              lt-ltb (year_in x) year less,
              eq_not (year_in x) year (λ e. omega arith),
            ) (ap (λ ys. x ∷ ys) rest)
        | inr from ↦ elim (cases_lt year (year_in x)) [
          | inl more ↦
              rw (
                le-ltb (year_in x) (year + 1) (omega arith),
                le-ltb (year_in x) year from,
                eq_not (year_in x) year (λ e. omega arith),
              ) rest
          | inr to ↦
              let none : earlier year xs ≡ [] = none_earlier year xs
              (λ y has. (let next = fall.0 y has in omega arith)) in
              rw (
                lt-ltb (year_in x) (year + 1) (omega arith),
                le-ltb (year_in x) year from,
                eq_same (year_in x) year (omega arith),
              ) (ap (λ ys. x ∷ ys) rest ∙ ap (λ ys. x ∷ ys ++ of_year year xs) none
              ∙ sym (ap (λ ys. ys ++ x ∷ of_year year xs) none))
        ]
      ]

-- what passes a test of a list put in order is what passes it, put in order
module _ {X : Type 0} (key : X → ℕ) (test : X → Bool) where
  rises_those : (xs : List X) → KeysRise key xs → KeysRise key (filter test xs)
  rises_those [] rise = tt
  rises_those (x ∷ xs) rise = step (test x) refl (rises_those xs rise.1)
    where
      step : (b : Bool) → test x ≡ b → KeysRise key (filter test xs)
          → KeysRise key (filter test (x ∷ xs))
      step true is more =
          rw is ((λ later has. rise.0 later (has_filtered test xs later has).0), more)
      step false is more = rw is more

  pub ordered_those : (xs : List X) → AreDistinct key xs
      → filter test (in_order (is_before key) xs) ≡ in_order (is_before key) (filter test xs)
  ordered_those xs apart =
      members_one key (filter test (in_order (is_before key) xs))
      (in_order (is_before key) (filter test xs))
      (rises_those (in_order (is_before key) xs) (ordered_rises key xs apart))
      (ordered_rises key (filter test xs) (filter_apart key test xs apart))
      (λ x has. (let from = has_filtered test (in_order (is_before key) xs) x has in
      ordered_has (is_before key) (filter test xs) x
      (has_kept test xs x (has_ordered (is_before key) xs x from.0) from.1)))
      (λ x has. (let from = has_filtered test xs x
      (has_ordered (is_before key) (filter test xs) x has) in
      has_kept test (in_order (is_before key) xs) x
      (ordered_has (is_before key) xs x from.0) from.1))
