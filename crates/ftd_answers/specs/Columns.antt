-- Texts in columns of a fixed width.
use Rattle.std.specs.Prelude.{ℕ, ◌-◌, List, ◌++◌, length, replicate}
use Rattle.ftd_days.specs.Text.{cents_text}

-- the bytes of a space and of the end of a line
abbrev pub space : ℕ
space = 32

abbrev pub line_end : ℕ
line_end = 10

-- a text at the left of a column
abbrev pub left_in : ℕ → List ℕ → List ℕ
left_in width text = text ++ replicate (width - length text) space

-- a text at the right of a column
abbrev pub right_in : ℕ → List ℕ → List ℕ
right_in width text = replicate (width - length text) space ++ text

-- an amount, at the right of 17 bytes
unfoldable pub amount_in : ℕ → List ℕ
amount_in amount = right_in 17 (cents_text amount)
