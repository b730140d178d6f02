-- What is kept of an account's figures, and its figures.
use Rattle.std.proofs.Common.{◌≡◌, ℕ, ◌==◌, Bool, true, false, List, [], ◌∷◌, None, Some, inl, inr}
use Rattle.std.proofs.Common.{refl, sym, ap, subst, ◌∙◌}
use Rattle.std.specs.Prelude.{find, option_map, if◌then◌else◌}
use Rattle.std.proofs.lemmas.Bool.{eqb-true}
use Rattle.ftd_days.specs.declared.cents.Cents.{Cents}
use Rattle.ftd_rules.specs.Lists.{Has}
use Rattle.ftd_rules.proofs.Members.{has_mapped}
use Rattle.ftd_machine.specs.State.{Entry, has_key, content_of, kept_at, latest, all_at, figure_at}
use Rattle.ftd_machine.specs.History.{figure_of, figures}
use Rattle.ftd_machine.proofs.Keeping.{same_key}
use Rattle.ftd_machine.proofs.Members.{found_none}
use Rattle.ftd_machine.proofs.Numbers.{first_of_force, none_in_force}

-- what is reported under a key is a figure of it, as it is in force
first_has : (key : ℕ) (xs corrected : List (Entry Cents)) (first : Cents)
    → kept_at key xs ≡ Some first
    → Has (figures xs corrected) (key, latest first (all_at key corrected))
first_has key [] corrected first is = absurd cc
first_has key (e ∷ xs) corrected first is =
    step (e.key == key) refl is (first_has key xs corrected first)
  where
    step : (b : Bool) → (e.key == key) ≡ b
        → option_map content_of (if b then Some e else find (has_key key) xs) ≡ Some first
        → (kept_at key xs ≡ Some first
        → Has (figures xs corrected) (key, latest first (all_at key corrected)))
        → Has (figures (e ∷ xs) corrected) (key, latest first (all_at key corrected))
    step true keyed is more =
        let its : e.key ≡ key = eqb-true e.key key keyed in
        let amount : e.content ≡ first = cc in
        inl (rw (its, amount) refl)
    step false keyed is more = inr (more is)

pub kept_has : (key : ℕ) (xs corrected : List (Entry Cents)) (cents : Cents)
    → figure_at key xs corrected ≡ Some cents → Has (figures xs corrected) (key, cents)
kept_has key xs corrected cents is =
    let f = first_of_force (kept_at key xs) (all_at key corrected) cents is in
    subst (λ c. Has (figures xs corrected) (key, c)) (sym f.2)
    (first_has key xs corrected f.0 f.1)

-- where nothing is kept, there is none
pub kept_none : (key : ℕ) (xs corrected : List (Entry Cents)) → figure_at key xs corrected ≡ None
    → (cents : Cents) → Has (figures xs corrected) (key, cents) → ⊥
kept_none key xs corrected none cents has =
    let from = has_mapped (figure_of corrected) xs (key, cents) has in
    let keyed : has_key key from.0 ≡ true = ap (λ (p : ℕ × Cents). p.0 == key) (sym from.2)
    ∙ same_key key in
    found_none content_of (has_key key) xs
    (none_in_force (kept_at key xs) (all_at key corrected) none) from.0 from.1 keyed
