-- Lists of what is found.
use Rattle.std.proofs.Common.{◌≡◌, ◌∙◌, inl, inr, refl, sym, subst, ℕ, List, [], ◌∷◌, Option}
use Rattle.std.proofs.Common.{None, Some}
use Rattle.std.specs.Prelude.{◌↔◌}
use Rattle.std.proofs.lemmas.Bool.{eqb-true}
use Rattle.ftd_rules.specs.Lists.{Has}
use Rattle.ftd_machine.specs.State.{Entry, kept_at, has_key, content_of}
use Rattle.ftd_machine.proofs.DueSome.{Or}
use Rattle.ftd_machine.proofs.Members.{found_some}

-- the members of a list that are asked for
pub chosen : {X : Type 0} (IsAsked : X → Type 0) → ((x : X) → Or (IsAsked x)) → (xs : List X)
    → (ys : List X) × ((x : X) → Has ys x ↔ (Has xs x × IsAsked x))
chosen IsAsked asked_or [] = ([], λ x. ((λ has. absurd has), (λ h. absurd h.0)))
chosen IsAsked asked_or (z ∷ xs) =
    let rest = chosen IsAsked asked_or xs in
    elim (asked_or z) [
      | inl asked ↦ (
        z ∷ rest.0,
        λ x. (
          (λ has. elim has [
            | inl is ↦ (inl is, subst IsAsked (sym is) asked)
            | inr more ↦ (let h = (rest.1 x).0 more in (inr h.0, h.1))
          ]),
          (λ h. elim h.0 [
            | inl is ↦ inl is
            | inr more ↦ inr ((rest.1 x).1 (more, h.1))
          ]),
        ),
      )
      | inr not ↦ (
        rest.0,
        λ x. (
          (λ has. (let h = (rest.1 x).0 has in (inr h.0, h.1))),
          (λ h. elim h.0 [
            | inl is ↦ absurd (not (subst IsAsked is h.1))
            | inr more ↦ (rest.1 x).1 (more, h.1)
          ]),
        ),
      )
    ]

-- a row for each member for which something is found
module _ {E X R : Type 0} (find : E → Option X) (make : E → X → R) where
  abbrev pub IsMade : List E → R → Type 0
  IsMade of r = (e : E) × Has of e × ((x : X) × (find e ≡ Some x) × (r ≡ make e x))

  later : (e : E) (of : List E) (r : R) → IsMade of r → IsMade (e ∷ of) r
  later e of r h = (h.0, inr h.1, h.2)

  more : (e : E) (of : List E) (rows : List R) → ((r : R) → Has rows r ↔ IsMade of r)
      → (o : Option X) → find e ≡ o
      → (rows : List R) × ((r : R) → Has rows r ↔ IsMade (e ∷ of) r)
  more e of rows are None none = (
    rows,
    λ r. (
      (λ has. later e of r ((are r).0 has)),
      (λ h. elim h.1 [
        | inl is ↦ absurd (never h.2.0 (sym none ∙ subst (λ d. find d ≡ Some h.2.0) is h.2.1))
        | inr has ↦ (are r).1 (h.0, has, h.2)
      ]),
    ),
  )
    where
      never : (x : X) → None ≡ Some x → ⊥
      never x e = absurd cc
  more e of rows are (Some x) some = (
    make e x ∷ rows,
    λ r. (
      (λ has. elim has [
        | inl is ↦ (e, inl refl, (x, some, is))
        | inr there ↦ later e of r ((are r).0 there)
      ]),
      (λ h. elim h.1 [
        | inl is ↦
            (let same : x ≡ h.2.0 = inside x h.2.0 (sym some
            ∙ subst (λ d. find d ≡ Some h.2.0) is h.2.1) in
            inl (h.2.2 ∙ (subst (λ d. make h.0 h.2.0 ≡ make d h.2.0) is refl
            ∙ subst (λ y. make e h.2.0 ≡ make e y) (sym same) refl)))
        | inr has ↦ inr ((are r).1 (h.0, has, h.2))
      ]),
    ),
  )
    where
      inside : (a b : X) → Some a ≡ Some b → a ≡ b
      inside a b e = cc

  pub made_some : (of : List E) → (rows : List R) × ((r : R) → Has rows r ↔ IsMade of r)
  made_some [] = ([], λ r. ((λ has. absurd has), (λ h. absurd h.1)))
  made_some (e ∷ of) = let rest = made_some of in more e of rest.0 rest.1 (find e) refl

-- a row for each key under which something is kept
module _ {X R : Type 0} (make : ℕ → X → R) (entries : List (Entry X)) where
  abbrev pub IsKeptAs : R → Type 0
  IsKeptAs r = (k : ℕ) × (x : X) × (kept_at k entries ≡ Some x) × (r ≡ make k x)

  pub kept_some : (rows : List R) × ((r : R) → Has rows r ↔ IsKeptAs r)
  kept_some =
      let made = made_some (λ (e : Entry X). kept_at e.key entries)
      (λ (e : Entry X) x. make e.key x) entries in (
        made.0,
        λ r. (
          (λ has. (let h = (made.1 r).0 has in (h.0.key, h.2.0, h.2.1, h.2.2))),
          (λ h.
              (let found = found_some content_of (has_key h.0) entries h.1 h.2 in
              let key : h.0 ≡ found.0.key = sym (eqb-true found.0.key h.0 found.2) in
              (made.1 r).1 (
                found.0,
                found.1,
                (
                  h.1,
                  subst (λ k. kept_at k entries ≡ Some h.1) key h.2,
                  subst (λ k. r ≡ make k h.1) key h.3,
                ),
              ))),
        ),
      )
