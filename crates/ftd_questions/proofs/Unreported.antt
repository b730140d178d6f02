-- The quarters that are still to be reported, by what was found of each.
use Rattle.std.proofs.Common.{◌≡◌, ◌+◌, ℕ, List, [], ◌∷◌, Bool, true, false, Option, refl, sym, ap}
use Rattle.std.proofs.Common.{map}
use Rattle.std.specs.Prelude.{filter, if◌then◌else◌}
use Rattle.ftd_days.specs.declared.cents.Cents.{Cents}
use Rattle.ftd_rules.specs.Lookback.{lookback_first, lookback_quarters}
use Rattle.ftd_machine.specs.State.{Entries, kept_at}
use Rattle.ftd_questions.specs.Missing.{are_missing, is_missing_from, is_unfound_from}
use Rattle.ftd_questions.specs.Missing.{missing_from}

module _ (own : Entries) (first : ℕ) where
  -- a quarter, with what is kept of it
  abbrev kept : ℕ → ℕ × Option Cents
  kept quarter = (quarter, kept_at quarter own.reported)

  kept_missing : (quarters : List ℕ)
      → are_missing first (map kept quarters) ≡ filter (is_missing_from own first) quarters
  kept_missing [] = refl
  kept_missing (quarter ∷ more) = by (is_missing_from own first quarter) (kept_missing more)
    where
      by : (b : Bool)
          → are_missing first (map kept more) ≡ filter (is_missing_from own first) more
          → map (λ (it : ℕ × Option Cents). it.0)
          (if b then kept quarter ∷ filter (is_unfound_from first) (map kept more)
          else filter (is_unfound_from first) (map kept more))
          ≡ (if b then quarter ∷ filter (is_missing_from own first) more
          else filter (is_missing_from own first) more)
      by true same = ap (λ (z : List ℕ). quarter ∷ z) same
      by false same = same

  pub missing_known : (year third fourth next last : ℕ) (a b d e : Option Cents)
      → kept_at third own.reported ≡ a → kept_at fourth own.reported ≡ b
      → kept_at next own.reported ≡ d → kept_at last own.reported ≡ e
      → third ≡ lookback_first year → fourth ≡ lookback_first year + 1
      → next ≡ lookback_first year + 2 → last ≡ lookback_first year + 3
      → are_missing first ((third, a) ∷ (fourth, b) ∷ (next, d) ∷ (last, e) ∷ [])
      ≡ missing_from own first year
  missing_known year third fourth next last a b d e of_third of_fourth of_next of_last
      is_third is_fourth is_next is_last =
      rw (
        sym of_third,
        sym of_fourth,
        sym of_next,
        sym of_last,
        is_third,
        is_fourth,
        is_next,
        is_last,
      )
      (kept_missing (lookback_quarters year))
