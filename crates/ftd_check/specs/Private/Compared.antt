-- What is found where each account is sound, by how many rows there are.
use Rattle.std.specs.Prelude.{◌≡◌}
use Rattle.ftd_check.specs.declared.soundness.Soundness.{Soundness}
use Rattle.ftd_check.specs.declared.soundness.Soundness.TheVariants.{Sound, Unsound}
use Rattle.ftd_check.specs.declared.soundness.Part.TheVariants.{Rows}
use Rattle.ftd_check.specs.declared.sizes.Sizes.{Sizes}

-- the accounts have these rows together, of all that the tables have: no others are there, or some
-- are no account's
abbrev pub Compares : Sizes → Sizes → Soundness → Type 0
Compares sizes all (Sound found) = (found ≡ all) × (sizes ≡ all)
Compares sizes all (Unsound part) = (part ≡ Rows) × (sizes ≡ all → ⊥)
