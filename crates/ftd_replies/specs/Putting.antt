-- A text that is put, where nobody is told that its target failed.
use Rattle.std.specs.Prelude.{◌≡◌, ◌⊎◌, ℕ, Bool, true, List, Option}
use Rattle.std.specs.Io.KnownBytes.{Appends}
use Rattle.ftd_ports.specs.Writing.{WritesPrefix}

-- the text was written whole, or its target failed after a prefix of it
abbrev pub IsPut : Option (List ℕ) → Option (List ℕ) → Bool → List ℕ → Type 0
IsPut before after failed text =
    Appends before after text ⊎ (WritesPrefix before after text × (failed ≡ true))
