-- What holds of each item of a list, as of one that is written out.
use Rattle.std.proofs.Common.{◌≡◌, ◌∙◌, inl, inr, sym, ap, subst, List, [], ◌∷◌, map}
use Rattle.ftd_rules.specs.Lists.{Has}
use Rattle.ftd_rules.proofs.Members.{has_mapped}
use Rattle.ftd_machine.specs.Agenda.{EachToLater}
use Rattle.ftd_machine.specs.Sound.{AreDistinct}

-- it holds of the first, and of each of the rest
abbrev pub HoldsOfEach : {X : Type 0} → (X → Type 0) → List X → Type 0
HoldsOfEach P [] = Unit {0}
HoldsOfEach P (x ∷ xs) = P x × HoldsOfEach P xs

pub each : {X : Type 0} (P : X → Type 0) (xs : List X) → HoldsOfEach P xs → (x : X) → Has xs x
    → P x
each P [] all x has = absurd has
each P (y ∷ ys) all x (inl is) = subst P (sym is) all.0
each P (y ∷ ys) all x (inr has) = each P ys all.1 x has

-- of one item
pub only : {X : Type 0} (P : X → Type 0) (x : X) → P x → (y : X) → Has (x ∷ []) y → P y
only P x is = each P (x ∷ []) (is, tt)

-- each stands so to those after it
abbrev pub AreOrdered : {X : Type 0} → (X → X → Type 0) → List X → Type 0
AreOrdered R [] = Unit {0}
AreOrdered R (x ∷ xs) = HoldsOfEach (R x) xs × AreOrdered R xs

pub in_order : {X : Type 0} (R : X → X → Type 0) (xs : List X) → AreOrdered R xs
    → EachToLater R xs
in_order R [] are = tt
in_order R (x ∷ xs) are = (each (R x) xs are.0, in_order R xs are.1)

-- what differed still does, where each item keeps its key
pub distinct_map : {X Y K : Type 0} (f : X → Y) (key : X → K) (other : Y → K)
    → ((x : X) → other (f x) ≡ key x) → (xs : List X) → AreDistinct key xs
    → AreDistinct other (map f xs)
distinct_map f key other same [] apart = tt
distinct_map f key other same (x ∷ xs) apart = (
  (λ y has e.
      (let from = has_mapped f xs y has in
      apart.0 from.0 from.1
      (sym (same from.0) ∙ ap other (sym from.2) ∙ e ∙ same x))),
  distinct_map f key other same xs apart.1,
)
