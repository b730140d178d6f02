-- The lines of a text whose lines end with CR and LF, as those of iCalendar do.
use Rattle.std.specs.Prelude.{◌≡◌, ℕ, ◌==◌, ◌||◌, Bool, false, List, [], ◌∷◌, ◌++◌, All}
use Rattle.std.specs.List.{flat_map, list_any}

-- the byte is a CR or an LF
abbrev pub is_break : ℕ → Bool
is_break byte = (byte == 13) || (byte == 10)

-- the text is these lines, each with a CR and an LF behind it; no line has a CR or an LF inside
pub record AreLines (text : List ℕ) (lines : List (List ℕ)) : Type 0 where
  pub joined : text ≡ flat_map (λ line. line ++ 13 ∷ 10 ∷ []) lines
  pub unbroken : All (λ line. list_any is_break line ≡ false) lines
