-- The names of accounts.
use Rattle.std.specs.Prelude.{ℕ, ◌==◌, ◌||◌, ◌&&◌, nat_lt, Bool, false, List, [], ◌∷◌, length}
use Rattle.std.specs.Char.{is_ascii_lowercase, is_ascii_digit}
use Rattle.std.specs.List.{list_all}

-- a lower-case letter, a digit or a hyphen
abbrev pub is_name_byte : ℕ → Bool
is_name_byte byte = is_ascii_lowercase byte || is_ascii_digit byte || (byte == 45)

-- an account name: 1 to 20 bytes, a lower-case letter, then lower-case letters, digits and hyphens
unfoldable pub is_account_name : List ℕ → Bool
is_account_name [] = false
is_account_name (first ∷ others) =
    is_ascii_lowercase first && nat_lt (length others) 20 && list_all is_name_byte others
