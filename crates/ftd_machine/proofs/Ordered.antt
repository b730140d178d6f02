-- Lists in an order, by their members.
use Rattle.std.proofs.Common.{◌≡◌, ◌∙◌, ◌⊎◌, inl, inr, refl, sym, ap, subst, List, [], ◌∷◌}
use Rattle.std.specs.Prelude.{◌↔◌}
use Rattle.ftd_rules.specs.Lists.{Has}
use Rattle.ftd_machine.specs.Agenda.{EachToLater}

-- two lists in an order that never holds both ways are the same where their members are
pub ordered_one : {X : Type 0} (R : X → X → Type 0) → ((x y : X) → R x y → R y x → ⊥)
    → (xs ys : List X) → EachToLater R xs → EachToLater R ys
    → ((x : X) → Has xs x → Has ys x) → ((x : X) → Has ys x → Has xs x) → xs ≡ ys
ordered_one R not_both [] [] g h f b = refl
ordered_one R not_both [] (y ∷ ys) g h f b = absurd (b y (inl refl))
ordered_one R not_both (x ∷ xs) [] g h f b = absurd (f x (inl refl))
ordered_one {X = X} R not_both (x ∷ xs) (y ∷ ys) g h f b =
    let same : x ≡ y =
    elim (f x (inl refl)) [
      | inl e ↦ e
      | inr in_ys ↦ elim (b y (inl refl)) [
        | inl e ↦ sym e
        | inr in_xs ↦ absurd (not_both y x (h.0 x in_ys) (g.0 y in_xs))
      ]
    ] in
    let tails : xs ≡ ys = ordered_one R not_both xs ys g.1 h.1
    (λ o k. elim (f o (inr k)) [
      | inl e ↦ absurd (let less : R x y = subst (R x) e (g.0 o k) in
          let back : R y y = subst (λ z. R z y) same less in not_both y y back back)
      | inr r ↦ r
    ])
    (λ o k. elim (b o (inr k)) [
      | inl e ↦ absurd (let less : R y x = subst (R y) e (h.0 o k) in
          let back : R x x = subst (λ z. R z x) (sym same) less in not_both x x back back)
      | inr r ↦ r
    ]) in
    ap (λ z. z ∷ xs) same ∙ ap (λ zs. y ∷ zs) tails

-- ---- members put in order

module _ {X : Type 0} (R : X → X → Type 0) (P : X → Type 0)
    (then : (x y z : X) → R x y → R y z → R x z)
    (total : (x y : X) → P x → P y → R x y ⊎ ((x ≡ y) ⊎ R y x)) where
  -- with one more, in its place
  placed : (z : X) (xs : List X) → P z → ((x : X) → Has xs x → P x) → EachToLater R xs
      → (ys : List X) × EachToLater R ys × ((x : X) → Has ys x ↔ ((x ≡ z) ⊎ Has xs x))
  placed z [] of_z of_all in_order = (
    z ∷ [],
    ((λ later has. absurd has), tt),
    λ x. ((λ has. has), (λ has. has)),
  )
  placed z (x ∷ xs) of_z of_all in_order = elim (total z x of_z (of_all x (inl refl))) [
    | inl before ↦ (
      z ∷ x ∷ xs,
      (
        (λ later has. elim has [
          | inl is ↦ subst (R z) (sym is) before
          | inr more ↦ then z x later before (in_order.0 later more)
        ]),
        in_order,
      ),
      λ y. ((λ has. has), (λ has. has)),
    )
    | inr not ↦ elim not [
      | inl same ↦ (
        x ∷ xs,
        in_order,
        λ y. (
          (λ has. inr has),
          (λ has. elim has [
            | inl is ↦ inl (is ∙ same)
            | inr there ↦ there
          ]),
        ),
      )
      | inr after ↦
          let rest = placed z xs of_z (λ y has. of_all y (inr has)) in_order.1 in (
            x ∷ rest.0,
            (
              (λ later has. elim ((rest.2 later).0 has) [
                | inl is ↦ subst (R x) (sym is) after
                | inr more ↦ in_order.0 later more
              ]),
              rest.1,
            ),
            λ y. (
              (λ has. elim has [
                | inl is ↦ inr (inl is)
                | inr more ↦ elim ((rest.2 y).0 more) [
                  | inl is ↦ inl is
                  | inr there ↦ inr (inr there)
                ]
              ]),
              (λ has. elim has [
                | inl is ↦ inr ((rest.2 y).1 (inl is))
                | inr there ↦ elim there [
                  | inl is ↦ inl is
                  | inr more ↦ inr ((rest.2 y).1 (inr more))
                ]
              ]),
            ),
          )
    ]
  ]

  -- a list in order with the same members
  pub ordered_some : (xs : List X) → ((x : X) → Has xs x → P x)
      → (ys : List X) × EachToLater R ys × ((x : X) → Has ys x ↔ Has xs x)
  ordered_some [] of_all = ([], tt, λ x. ((λ has. has), (λ has. has)))
  ordered_some (x ∷ xs) of_all =
      let rest = ordered_some xs (λ y has. of_all y (inr has)) in
      let all = placed x rest.0 (of_all x (inl refl))
      (λ y has. of_all y (inr ((rest.2 y).0 has))) rest.1 in (
        all.0,
        all.1,
        λ y. (
          (λ has. elim ((all.2 y).0 has) [
            | inl is ↦ inl is
            | inr there ↦ inr ((rest.2 y).0 there)
          ]),
          (λ has. elim has [
            | inl is ↦ (all.2 y).1 (inl is)
            | inr there ↦ (all.2 y).1 (inr ((rest.2 y).1 there))
          ]),
        ),
      )
