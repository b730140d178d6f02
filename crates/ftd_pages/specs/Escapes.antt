-- Texts inside a page.
use Rattle.std.specs.Prelude.{ℕ, List, [], ◌∷◌, ◌++◌, ◌≡◌, ◌≢◌, ◌⊎◌, codes, ◌==◌, if◌then◌else◌}
use Rattle.std.specs.List.{flat_map}
use Rattle.ftd_answers.specs.Fields.{shown_as}
use Rattle.ftd_answers.specs.declared.fields.Value.{Value}

-- a byte of a text: the five that could end its place stand as a reference
abbrev pub escaped_byte : ℕ → List ℕ
escaped_byte b =
    if b == 38 then codes "&amp;" else if b == 60 then codes "&lt;"
    else if b == 62 then codes "&gt;" else if b == 34 then codes "&quot;"
    else if b == 39 then codes "&#39;" else b ∷ []

-- a text as it stands in a page, also between quotes
unfoldable pub escaped : List ℕ → List ℕ
escaped text = flat_map escaped_byte text

-- a value as it stands in a page
abbrev pub shown : Value → List ℕ
shown value = escaped (shown_as value).plain

-- ---- the law: nothing of a text ends its place

-- a text goes on with this one
pub record GoesOn (rest text : List ℕ) : Type 0 where
  pub others : List ℕ
  pub parts : rest ≡ text ++ others

-- what follows is one of the five references, from behind its first byte
abbrev pub IsReferred : List ℕ → Type 0
IsReferred rest =
    GoesOn rest (codes "amp;") ⊎ GoesOn rest (codes "lt;") ⊎ GoesOn rest (codes "gt;")
    ⊎ GoesOn rest (codes "quot;") ⊎ GoesOn rest (codes "#39;")

-- a text has no byte of `<`, `>`, `"` and `'`, and `&` only where a reference begins
abbrev pub IsInert : List ℕ → Type 0
IsInert [] = Unit {0}
IsInert (b ∷ rest) =
    (b ≢ 60) × (b ≢ 62) × (b ≢ 34) × (b ≢ 39) × (b ≡ 38 → IsReferred rest) × IsInert rest
