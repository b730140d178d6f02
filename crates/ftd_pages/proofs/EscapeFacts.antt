-- An escaped text has no byte that ends its place.
use Rattle.std.proofs.Common.{◌≡◌, ℕ, List, [], ◌∷◌, ◌++◌, ◌==◌, false, inl, inr, refl, sym, subst}
use Rattle.std.proofs.lemmas.Bool.{cases_eq, eqb-false, ne_eqb}
use Rattle.std.specs.Prelude.{codes}
use Rattle.ftd_pages.specs.Escapes.{escaped, escaped_byte, GoesOn, IsReferred, IsInert}

-- a byte that is none of the five
plain : (b : ℕ) (rest : List ℕ) → (b == 60) ≡ false → (b == 62) ≡ false → (b == 34) ≡ false
    → (b == 39) ≡ false → (b == 38) ≡ false → IsInert rest → IsInert (b ∷ rest)
plain b rest p q r s t h = (
  eqb-false b 60 p,
  eqb-false b 62 q,
  eqb-false b 34 r,
  eqb-false b 39 s,
  λ e. absurd (eqb-false b 38 t e),
  h,
)

-- the first byte of a reference
begins : (rest : List ℕ) → IsReferred rest → IsInert rest → IsInert (38 ∷ rest)
begins rest is h = (
  eqb-false 38 60 refl,
  eqb-false 38 62 refl,
  eqb-false 38 34 refl,
  eqb-false 38 39 refl,
  λ e. is,
  h,
)

goes_on : (text rest : List ℕ) → GoesOn (text ++ rest) text
goes_on text rest = record { others = rest; parts = refl }

-- `;`, and bytes before it
ended : (rest : List ℕ) → IsInert rest → IsInert (59 ∷ rest)
ended rest h = plain 59 rest refl refl refl refl refl h

amp : (rest : List ℕ) → IsInert rest → IsInert (codes "&amp;" ++ rest)
amp rest h =
    begins _ (inl (goes_on (codes "amp;") rest)) (plain 97 _ refl refl refl refl refl
    (plain 109 _ refl refl refl refl refl (plain 112 _ refl refl refl refl refl (ended rest h))))

lt : (rest : List ℕ) → IsInert rest → IsInert (codes "&lt;" ++ rest)
lt rest h =
    begins _ (inr (inl (goes_on (codes "lt;") rest))) (plain 108 _ refl refl refl refl refl
    (plain 116 _ refl refl refl refl refl (ended rest h)))

gt : (rest : List ℕ) → IsInert rest → IsInert (codes "&gt;" ++ rest)
gt rest h =
    begins _ (inr (inr (inl (goes_on (codes "gt;") rest)))) (plain 103 _ refl refl refl refl refl
    (plain 116 _ refl refl refl refl refl (ended rest h)))

quot : (rest : List ℕ) → IsInert rest → IsInert (codes "&quot;" ++ rest)
quot rest h =
    begins _ (inr (inr (inr (inl (goes_on (codes "quot;") rest)))))
    (plain 113 _ refl refl refl refl refl (plain 117 _ refl refl refl refl refl
    (plain 111 _ refl refl refl refl refl (plain 116 _ refl refl refl refl refl (ended rest h)))))

apos : (rest : List ℕ) → IsInert rest → IsInert (codes "&#39;" ++ rest)
apos rest h =
    begins _ (inr (inr (inr (inr (goes_on (codes "#39;") rest)))))
    (plain 35 _ refl refl refl refl refl (plain 51 _ refl refl refl refl refl
    (plain 57 _ refl refl refl refl refl (ended rest h))))

-- one byte more
inert_byte : (b : ℕ) (rest : List ℕ) → IsInert rest → IsInert (escaped_byte b ++ rest)
inert_byte b rest h =
    let P : ℕ → Type 0 = λ x. IsInert (escaped_byte x ++ rest) in
    elim (cases_eq b 38) as (λ _. P b) [
      | inl e ↦ subst P (sym e) (amp rest h)
      | inr a ↦ elim (cases_eq b 60) as (λ _. P b) [
        | inl e ↦ subst P (sym e) (lt rest h)
        | inr c ↦ elim (cases_eq b 62) as (λ _. P b) [
          | inl e ↦ subst P (sym e) (gt rest h)
          | inr d ↦ elim (cases_eq b 34) as (λ _. P b) [
            | inl e ↦ subst P (sym e) (quot rest h)
            | inr f ↦ elim (cases_eq b 39) as (λ _. P b) [
              | inl e ↦ subst P (sym e) (apos rest h)
              | inr g ↦ rw (
                ne_eqb b 38 a,
                ne_eqb b 60 c,
                ne_eqb b 62 d,
                ne_eqb b 34 f,
                ne_eqb b 39 g,
              ) (plain b rest (ne_eqb b 60 c) (ne_eqb b 62 d) (ne_eqb b 34 f)
                  (ne_eqb b 39 g) (ne_eqb b 38 a) h)
            ]
          ]
        ]
      ]
    ]

-- all of it
pub inert : (text : List ℕ) → IsInert (escaped text)
unfolding escaped
inert [] = tt
inert (b ∷ text) = inert_byte b (escaped text) (inert text)
