-- A list that is put in order goes by that order, where no two have the same key. So it follows
-- from its members.
use Rattle.std.proofs.Common.{◌≡◌, ◌∙◌, ◌⊎◌, inl, inr, refl, sym, subst, ℕ, ◌<◌, Bool, true}
use Rattle.std.proofs.Common.{false, List, [], ◌∷◌, arith}
use Rattle.std.specs.Prelude.{if◌then◌else◌, nat_lt}
use Rattle.std.proofs.lemmas.Bool.{cases_lt, lt-ltb, ltb-true, true≢false}
use Rattle.ftd_rules.specs.Lists.{Has, KeysRise}
use Rattle.ftd_machine.specs.Agenda.{EachToLater}
use Rattle.ftd_machine.specs.Journal.{in_order, put_in}
use Rattle.ftd_machine.specs.Sound.{AreDistinct}
use Rattle.ftd_machine.proofs.InOrder.{has_ordered, ordered_has}
use Rattle.ftd_machine.proofs.Ordered.{ordered_one}

module _ {X K : Type 0} (before : X → X → Bool) (key : X → K) (R : X → X → Type 0)
    (further : (x y z : X) → R x y → R y z → R x z)
    (yes : (x y : X) → before x y ≡ true → R x y)
    (no : (x y : X) → before x y ≡ false → (key y ≡ key x → ⊥) → R y x) where
  -- its members are x and those of the list
  has_put : (x : X) (ys : List X) (z : X) → Has (put_in before x ys) z → (z ≡ x) ⊎ Has ys z
  has_put x [] z (inl is) = inl is
  has_put x [] z (inr none) = absurd none
  has_put x (y ∷ ys) z has = step (before x y) has (has_put x ys z)
    where
      step : (b : Bool) → Has (if b then x ∷ y ∷ ys else y ∷ put_in before x ys) z
          → (Has (put_in before x ys) z → (z ≡ x) ⊎ Has ys z) → (z ≡ x) ⊎ Has (y ∷ ys) z
      step true has more = has
      step false (inl is) more = inr (inl is)
      step false (inr there) more = elim (more there) [
        | inl is ↦ inl is
        | inr later ↦ inr (inr later)
      ]

  -- what is put into a list in order leaves it in order
  put_goes : (x : X) (ys : List X) → EachToLater R ys
      → ((z : X) → Has ys z → key z ≡ key x → ⊥) → EachToLater R (put_in before x ys)
  put_goes x [] goes apart = ((λ later has. absurd has), tt)
  put_goes x (y ∷ ys) goes apart =
      step (before x y) refl (put_goes x ys goes.1 (λ z has. apart z (inr has)))
    where
      step : (b : Bool) → before x y ≡ b → EachToLater R (put_in before x ys)
          → EachToLater R (if b then x ∷ y ∷ ys else y ∷ put_in before x ys)
      step true is more = (
        (λ later has. elim has [
          | inl e ↦ subst (R x) (sym e) (yes x y is)
          | inr there ↦ further x y later (yes x y is) (goes.0 later there)
        ]),
        goes,
      )
      step false is more = (
        (λ later has. elim (has_put x ys later has) [
          | inl e ↦ subst (R y) (sym e) (no x y is (apart y (inl refl)))
          | inr there ↦ goes.0 later there
        ]),
        more,
      )

  -- so a list that is put in order is in order
  pub ordered_goes : (xs : List X) → AreDistinct key xs → EachToLater R (in_order before xs)
  ordered_goes [] apart = tt
  ordered_goes (x ∷ xs) apart =
      put_goes x (in_order before xs) (ordered_goes xs apart.1)
      (λ z has same. apart.0 z (has_ordered before xs z has) same)

  -- lists with the same members are the same in order
  pub ordered_same : ((x y : X) → R x y → R y x → ⊥) → (xs ys : List X) → AreDistinct key xs
      → AreDistinct key ys → ((x : X) → Has xs x → Has ys x) → ((x : X) → Has ys x → Has xs x)
      → in_order before xs ≡ in_order before ys
  ordered_same not_both xs ys apart also there back =
      ordered_one R not_both (in_order before xs) (in_order before ys) (ordered_goes xs apart)
      (ordered_goes ys also)
      (λ x has. ordered_has before ys x (there x (has_ordered before xs x has)))
      (λ x has. ordered_has before xs x (back x (has_ordered before ys x has)))

-- ---- by a number

module _ {X : Type 0} (key : X → ℕ) where
  abbrev pub is_before : X → X → Bool
  is_before a b = nat_lt (key a) (key b)

  abbrev IsBefore : X → X → Type 0
  IsBefore a b = key a < key b

  -- one number before a second, and that before a third
  further_on : (x y z : X) → IsBefore x y → IsBefore y z → IsBefore x z
  further_on x y z first second = omega arith

  -- where the test says so, the one comes before the other
  is_less : (x y : X) → is_before x y ≡ true → IsBefore x y
  is_less x y is = ltb-true (key x) (key y) is

  -- and else the other comes before the one, where their keys differ
  is_more : (x y : X) → is_before x y ≡ false → (key y ≡ key x → ⊥) → IsBefore y x
  is_more x y not apart = elim (cases_lt (key y) (key x)) [
    | inl less ↦ less
    | inr from ↦ elim (cases_lt (key x) (key y)) [
      | inl more ↦ absurd (true≢false (sym (lt-ltb (key x) (key y) more) ∙ not))
      | inr to ↦ absurd (apart (omega arith))
    ]
  ]

  -- a list in order rises by its key
  rises : (xs : List X) → EachToLater IsBefore xs → KeysRise key xs
  rises [] goes = tt
  rises (x ∷ xs) goes = (goes.0, rises xs goes.1)

  -- so a list that is put in order rises by its key
  pub ordered_rises : (xs : List X) → AreDistinct key xs → KeysRise key (in_order is_before xs)
  ordered_rises xs apart =
      rises (in_order is_before xs)
      (ordered_goes is_before key IsBefore further_on is_less is_more xs apart)

  -- and lists with the same members are the same in order
  pub ordered_same_by : (xs ys : List X) → AreDistinct key xs → AreDistinct key ys
      → ((x : X) → Has xs x → Has ys x) → ((x : X) → Has ys x → Has xs x)
      → in_order is_before xs ≡ in_order is_before ys
  ordered_same_by xs ys apart also there back =
      ordered_same is_before key IsBefore further_on is_less is_more
      (λ x y first second. omega arith) xs ys apart also there back
