-- Days as cells.
use Rattle.std.proofs.Common.{◌≡◌, ℕ, ℤ, inl, inr, Bool, true, false, refl, sym, ap, ◌∙◌, subst}
use Rattle.std.proofs.Common.{arith}
use Rattle.std.specs.Prelude.{◌==◌, nat_le, nat_lt, int_le, int_lt}
use Rattle.std.specs.Int.Signed.{◌≤ℤ◌, ◌<ℤ◌, le_z_yes, lt_z_yes}
use Rattle.std.specs.Ordering.{int_eq}
use Rattle.std.proofs.Math.Dec.{T}
use Rattle.std.proofs.lemmas.Int.{ints}
use Rattle.std.proofs.lemmas.Bool.{le-leb, lt-leb, lt-ltb, le-ltb, false_from_ne_true, cases_lt}
use Rattle.std.proofs.lemmas.Bool.Decides.{Decides-int_eq, Decides-eqb, Decides-like}
use Rattle.std.proofs.lemmas.Bool.Decides.{same_from_decides}
use Rattle.ftd_store.specs.Cells.{day_number}
use Rattle.ftd_entries.proofs.Found.{day_is}

passed : (b : Bool) → T b → b ≡ true
passed true t = refl
passed false t = absurd t

pub le_from : (x y : ℤ) → int_le x y ≡ true → x ≤ℤ y
le_from x y e = le_z_yes (subst T (sym e) tt)

pub le_into : (x y : ℤ) → x ≤ℤ y → int_le x y ≡ true
le_into x y h = passed (int_le x y) h.le

lt_from : (x y : ℤ) → int_lt x y ≡ true → x <ℤ y
lt_from x y e = lt_z_yes (subst T (sym e) tt)

-- the days in cells are in the order of the days
pub day_le : (a b : ℕ) → int_le (day_number a) (day_number b) ≡ nat_le a b
day_le a b =
    elim (cases_lt b a) [
      | inl less ↦
          false_from_ne_true (int_le (day_number a) (day_number b))
          (λ e. let h = le_from (day_number a) (day_number b) e in
          omega (arith, ints)) ∙ sym (lt-leb a b less)
      | inr some ↦
          (let h : day_number a ≤ℤ day_number b = omega (arith, ints) in
          passed (int_le (day_number a) (day_number b)) h.le ∙ sym (le-leb a b some))
    ]

pub day_lt : (a b : ℕ) → int_lt (day_number a) (day_number b) ≡ nat_lt a b
day_lt a b =
    elim (cases_lt a b) [
      | inl less ↦
          (let h : day_number a <ℤ day_number b = omega (arith, ints) in
          passed (int_lt (day_number a) (day_number b)) h.lt ∙ sym (lt-ltb a b less))
      | inr some ↦
          false_from_ne_true (int_lt (day_number a) (day_number b))
          (λ e. let h = lt_from (day_number a) (day_number b) e in
          omega (arith, ints)) ∙ sym (le-ltb a b some)
    ]

-- and equal where the days are
pub same_day : (a b : ℕ) → int_eq (day_number a) (day_number b) ≡ (a == b)
same_day a b =
    same_from_decides (int_eq (day_number a) (day_number b)) (a == b)
    (Decides-like (int_eq (day_number a) (day_number b)) (day_is a b) (λ is. ap day_number is)
    (Decides-int_eq (day_number a) (day_number b))) (Decides-eqb a b)
