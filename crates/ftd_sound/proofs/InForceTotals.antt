-- The totals in force are amounts that may be named.
use Rattle.std.proofs.Common.{◌≡◌, ℕ, true, List, [], ◌∷◌, sym, subst, inl, inr, refl}
use Rattle.std.specs.Prelude.{filter}
use Rattle.ftd_days.specs.declared.cents.Cents.{Cents}
use Rattle.ftd_rules.specs.Lists.{Has}
use Rattle.ftd_rules.proofs.Members.{has_mapped}
use Rattle.ftd_rules.proofs.Rising.{all_has, has_all}
use Rattle.ftd_machine.specs.Limits.{is_amount}
use Rattle.ftd_machine.specs.State.{latest}
use Rattle.ftd_machine.proofs.Members.{has_filtered}
use Rattle.ftd_sound.specs.Private.Plain.{content_in, is_under, amounts_under, AreAllAmounts}
use Rattle.ftd_sound.specs.Private.Lines.{figure_in, figures_in}

latest_meets : {X : Type 0} (P : X → Type 0) (first : X) (xs : List X) → P first
    → ((x : X) → Has xs x → P x) → P (latest first xs)
latest_meets P first [] h rest = h
latest_meets P first (x ∷ xs) h rest =
    latest_meets P x xs (rest x (inl refl)) (λ y has. rest y (inr has))

pub figures_small : (reported corrected : List (ℕ × Cents)) → AreAllAmounts reported
    → AreAllAmounts corrected → AreAllAmounts (figures_in reported corrected)
figures_small reported corrected first rest =
    let P : ℕ × Cents → Type 0 = λ e. is_amount e.1 ≡ true in
    all_has P (figures_in reported corrected) (λ f has.
    (let from = has_mapped (figure_in corrected) reported f has in
    subst P (sym from.2)
    (latest_meets (λ (c : Cents). is_amount c ≡ true) from.0.1 (amounts_under from.0.0 corrected)
    (has_all P reported first from.0 from.1)
    (λ c under. (let of = has_mapped content_in (filter (is_under from.0.0) corrected) c under in
    let its = (has_filtered (is_under from.0.0) corrected of.0 of.1).0 in
    subst (λ (c : Cents). is_amount c ≡ true) (sym of.2) (has_all P corrected rest of.0 its))))))
