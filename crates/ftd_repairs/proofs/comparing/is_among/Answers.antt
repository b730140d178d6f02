use Rattle.std.proofs.Common.{rules, ◌≡◌, ◌∙◌, ◌||◌, ◌⊎◌, Bool, true, false, List, [], ◌∷◌, inl}
use Rattle.std.proofs.Common.{inr, refl, sym, subst}
use Rattle.std.specs.List.{list_any}
use Rattle.ftd_rules.specs.declared.Obligation.{Obligation}
use Rattle.ftd_rules.specs.Lists.{Has}
use Rattle.ftd_repairs.proofs.comparing.is_among.Goals as goal

module _ (test : Obligation → Bool) (x : Obligation) where
  -- where a test passes x alone, x is among those of which one passes
  has_any : ((y : Obligation) → test y ≡ true → x ≡ y) → (ys : List Obligation)
      → list_any test ys ≡ true → Has ys x
  has_any same [] is = absurd cc
  has_any same (y ∷ ys) is = step (test y) (same y) (has_any same ys) is
    where
      step : (passes : Bool) → (passes ≡ true → x ≡ y) → (list_any test ys ≡ true → Has ys x)
          → (passes || list_any test ys) ≡ true → (x ≡ y) ⊎ Has ys x
      step true same later is = inl (same refl)
      step false same later is = inr (later is)

  -- and where it passes x, one passes where x is among them
  any_has : test x ≡ true → (ys : List Obligation) → Has ys x → list_any test ys ≡ true
  any_has own [] has = elim has [ ]
  any_has own (y ∷ ys) (inl here) =
      subst (λ (z : Obligation). (test z || list_any test ys) ≡ true) here (rw own refl)
  any_has own (y ∷ ys) (inr later) = step (test y) (any_has own ys later)
    where
      step : (passes : Bool) → list_any test ys ≡ true → (passes || list_any test ys) ≡ true
      step true is = refl
      step false is = is

pub returns : goal.returns
returns c =
    let x = c.args.row.now in
    let rows = c.args.rows.now in (
      (λ told. has_any _ x (λ y same. search (rules, same)) rows
          (sym c.contains.ensures.value ∙ told)),
      (λ has. c.contains.ensures.value ∙ any_has _ x (search rules) rows has),
    )
