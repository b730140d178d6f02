-- The cells of a text of CSV, and what their texts spell.
use Rattle.std.specs.Prelude.{ℕ, ◌+◌, ◌*◌, ◌&&◌, nat_lt, Bool, true, false, List, [], ◌∷◌, codes}
use Rattle.std.specs.Prelude.{length, map, take}
use Rattle.std.specs.Prelude.{drop, Option, Some, None, option_map, if◌then◌else◌}
use Rattle.std.specs.Char.{is_ascii_digit}
use Rattle.std.specs.List.{prefix_len}
use Rattle.std.specs.Str.{all_ascii_digits, bytes_eq}
use Rattle.csv.specs.Reading.{default_config, records, strip_bom}
use Rattle.ftd_days.specs.Digits.{number_of}
use Rattle.ftd_days.specs.Spelling.{fraction_of}
use Rattle.ftd_rules.specs.declared.Form.{Form}
use Rattle.ftd_rules.specs.declared.Form.TheVariants.{F941, F943}
use Rattle.ftd_rules.specs.declared.Kind.{Kind}
use Rattle.ftd_rules.specs.declared.Kind.TheVariants as kind
use Rattle.ftd_rules.specs.declared.Rule.{Rule}
use Rattle.ftd_rules.specs.declared.Rule.TheVariants as rule
use Rattle.ftd_rules.specs.declared.verdict.Verdict.{Verdict}
use Rattle.ftd_rules.specs.declared.verdict.Verdict.TheVariants as verdict

-- ---- a table

-- the cell of a row that stands under this name, or nothing where no column has it
abbrev pub cell : List (List ℕ) → List (List ℕ) → List ℕ → List ℕ
cell [] row name = []
cell (column ∷ columns) [] name = []
cell (column ∷ columns) (text ∷ texts) name =
    if bytes_eq column name then text else cell columns texts name

-- what each row says that stands under the first, in which the columns have their names: the
-- function takes what a row has under a name
abbrev pub read_under : {A : Type 0} → ((List ℕ → List ℕ) → A) → List (List (List ℕ)) → List A
read_under read [] = []
read_under read (columns ∷ rows) = map (λ row. read (cell columns row)) rows

-- the same of a text, by csv's default reading; a byte order mark at its start is taken away
abbrev pub table_read : {A : Type 0} → ((List ℕ → List ℕ) → A) → List ℕ → List A
table_read read text = read_under read (records default_config (strip_bom text))

-- ---- what a text spells

-- a whole number
abbrev pub number_read : List ℕ → Option ℕ
number_read text =
    if nat_lt 0 (length text) && all_ascii_digits text then Some (number_of text) else None

-- an amount, in cents: the digits that it begins with are the dollars
abbrev pub cents_read : List ℕ → Option ℕ
cents_read text =
    let count = prefix_len is_ascii_digit text in
    if nat_lt 0 count
    then option_map (λ cents. 100 * number_of (take count text) + cents)
    (fraction_of (drop count text))
    else None

-- the value that has this name among these
abbrev pub named_among : {A : Type 0} → List (List ℕ × A) → List ℕ → Option A
named_among [] text = None
named_among (known ∷ others) text =
    if bytes_eq known.0 text then Some known.1 else named_among others text

abbrev pub form_read : List ℕ → Option Form
form_read text = named_among ((codes "941", F941) ∷ (codes "943", F943) ∷ []) text

abbrev pub flag_read : List ℕ → Option Bool
flag_read text = named_among ((codes "yes", true) ∷ (codes "no", false) ∷ []) text

abbrev pub kind_read : List ℕ → Option Kind
kind_read text =
    named_among ((codes "monthly", kind.Monthly) ∷ (codes "semiweekly", kind.Semiweekly) ∷ []) text

abbrev pub rule_read : List ℕ → Option Rule
rule_read text =
    named_among ((codes "monthly", rule.Monthly) ∷ (codes "semiweekly", rule.Semiweekly)
    ∷ (codes "next-day", rule.NextDay) ∷ []) text

abbrev pub verdict_read : List ℕ → Option Verdict
verdict_read text =
    named_among ((codes "met", verdict.Met) ∷ (codes "with-return", verdict.WithReturn)
    ∷ (codes "open", verdict.Open) ∷ (codes "made-up", verdict.MadeUp)
    ∷ (codes "short", verdict.Short) ∷ (codes "late", verdict.Late) ∷ []) text

-- a value that may be none: then the text is empty
abbrev pub or_none_read : {A : Type 0} → (List ℕ → Option A) → List ℕ → Option (Option A)
or_none_read read [] = Some None
or_none_read read (byte ∷ bytes) = option_map Some (read (byte ∷ bytes))
