-- The values of members, as JSON has them and as they are read.
use Rattle.std.proofs.Common.{◌≡◌, refl, ℕ, ◌^◌, ◌<◌, ◌≤◌, Bool, true, false, Option, Some, None}
use Rattle.std.proofs.Common.{arith}
use Rattle.std.specs.Prelude.{IfSome, option_and_then, option_map}
use Rattle.json.specs.Print.{escape}
use Rattle.json.specs.Tree.{HasNumbers, depth}
use Rattle.json.proofs.Printed.Decimals.{IsNumber-decimal}
use Rattle.serde_json.proofs.Numbers.{number_of-decimal}
use Rattle.serde_json.specs.Data.{Data, boolean, null, number, string, unsigned}
use Rattle.serde_json.specs.Find.{as_number, as_str, as_u64}
use Rattle.serde_json.specs.Read.{of_json}
use Rattle.serde_json.specs.Written.{compact_text, outline}
use Rattle.ftd_days.specs.Calendar.{last_day}
use Rattle.ftd_days.specs.Text.{day_text, cents_text}
use Rattle.ftd_answers.specs.Fields.{as_day, as_number as number_shown, or_none, true_false}
use Rattle.ftd_read_back.specs.Dates.{date_of, day_read}
use Rattle.ftd_read_back.specs.Objects.{or_null}
use Rattle.ftd_read_back.proofs.Spelled.{day_reread}
use Rattle.ftd_read_back.proofs.Values.{plain_cents, plain_day_text, unescaped}

-- ---- texts

pub day_kept : (day : ℕ) → escape (day_text day) ≡ day_text day
day_kept day = unescaped (day_text day) (plain_day_text day)

pub cents_kept : (amount : ℕ) → escape (cents_text amount) ≡ cents_text amount
cents_kept amount = unescaped (cents_text amount) (plain_cents amount)

pub flag_text : (flag : Bool) → compact_text (boolean flag) ≡ true_false flag
flag_text true = refl
flag_text false = refl

-- a value is low where nothing is inside it, and it has no number that is none
abbrev pub IsLow : Data → Type 0
IsLow d = (depth (outline d) ≤ 0) × HasNumbers (outline d)

-- ---- a day, or null

abbrev pub day_value : Option ℕ → Data
day_value None = null
day_value (Some day) = string (day_text day)

pub day_told : (o : Option ℕ) → compact_text (day_value o) ≡ (or_none as_day o).json
day_told None = refl
day_told (Some day) = rw (day_kept day) refl

pub day_flat : (o : Option ℕ) → IsLow (day_value o)
day_flat None = (omega arith, tt)
day_flat (Some day) = (omega arith, tt)

pub day_as_read : (o : Option ℕ) → of_json (outline (day_value o)) ≡ Some (day_value o)
day_as_read None = refl
day_as_read (Some day) = refl

pub day_in : (o : Option ℕ) → IfSome o (λ day. day ≤ last_day)
    → or_null (λ v. option_and_then day_read (as_str v)) (day_value o)
    ≡ Some (option_map date_of o)
day_in None early = refl
day_in (Some day) early = rw (day_reread day early) refl

-- ---- a number, or null

abbrev pub number_value : Option ℕ → Data
number_value None = null
number_value (Some n) = number (unsigned n)

pub number_told : (o : Option ℕ) → compact_text (number_value o) ≡ (or_none number_shown o).json
number_told None = refl
number_told (Some n) = refl

pub number_flat : (o : Option ℕ) → IfSome o (λ n. n < 2 ^ 64) → IsLow (number_value o)
number_flat None small = (omega arith, tt)
number_flat (Some n) small = (omega arith, IsNumber-decimal n small)

pub number_as_read : (o : Option ℕ) → IfSome o (λ n. n < 2 ^ 64)
    → of_json (outline (number_value o)) ≡ Some (number_value o)
number_as_read None small = refl
number_as_read (Some n) small = rw (number_of-decimal n small) refl

pub number_in_value : (o : Option ℕ)
    → or_null (λ v. option_and_then as_u64 (as_number v)) (number_value o) ≡ Some o
number_in_value None = refl
number_in_value (Some n) = refl
