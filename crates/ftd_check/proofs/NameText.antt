-- A name of an account is text.
use Rattle.std.proofs.Common.{◌≡◌, ◌<◌, ℕ, suc, zero, List, [], ◌∷◌, length, Bool, true, false}
use Rattle.std.proofs.Common.{arith, refl}
use Rattle.std.specs.Prelude.{◌&&◌, nat_lt}
use Rattle.std.specs.Char.{is_ascii_lowercase}
use Rattle.std.specs.List.{list_all}
use Rattle.std.specs.Str.{IsAscii, IsUtf8}
use Rattle.std.proofs.lemmas.Bool.Decides.{nat_tests}
use Rattle.std.proofs.lemmas.Str.{IsUtf8-from_ascii}
use Rattle.std.proofs.lemmas.Bool.{and_parts}
use Rattle.ftd_rules.specs.Accounts.{is_account_name, is_name_byte}

small_letter : (byte : ℕ) → is_ascii_lowercase byte ≡ true → byte < 128
small_letter byte e = grind (arith, nat_tests)

name_byte_small : (byte : ℕ) → is_name_byte byte ≡ true → byte < 128
name_byte_small byte e = grind (arith, nat_tests)

and_outer : (a b c : Bool) → (a && b && c) ≡ true → (a ≡ true) × (c ≡ true)
and_outer true true c e = (refl, e)
and_outer true false c e = cc e
and_outer false b c e = cc e

all_small : (bytes : List ℕ) → list_all is_name_byte bytes ≡ true → IsAscii bytes
all_small [] e i = omega arith
all_small (byte ∷ bytes) e zero = name_byte_small byte
    (and_parts (is_name_byte byte) (list_all is_name_byte bytes) e).0
all_small (byte ∷ bytes) e (suc i) =
    all_small bytes (and_parts (is_name_byte byte) (list_all is_name_byte bytes) e).1 i

name_ascii : (text : List ℕ) → is_account_name text ≡ true → IsAscii text
unfolding is_account_name
name_ascii [] e i = omega arith
name_ascii (first ∷ others) e zero =
    small_letter first (and_outer (is_ascii_lowercase first) (nat_lt (length others) 20)
    (list_all is_name_byte others) e).0
name_ascii (first ∷ others) e (suc i) =
    all_small others (and_outer (is_ascii_lowercase first) (nat_lt (length others) 20)
    (list_all is_name_byte others) e).1 i

pub name_is_text : (text : List ℕ) → is_account_name text ≡ true → IsUtf8 text
name_is_text text e = IsUtf8-from_ascii text (name_ascii text e)
