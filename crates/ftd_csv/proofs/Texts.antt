-- Whether a text has records, and which of them are malformed.
use Rattle.std.proofs.Common.{◌≡◌, ◌≤◌, ℕ, List, [], ◌∷◌, Bool, true, false, Some}
use Rattle.std.proofs.Common.{Decides, length, take, refl, ap, zero, suc, arith}
use Rattle.std.specs.Prelude.{bytes_eq, nat_le}
use Rattle.std.specs.Cmp.Lexicographic.{pointwise}
use Rattle.std.specs.List.{flat_map, slice_get}
use Rattle.std.proofs.lemmas.Bool.Decides.{Decides-and, Decides-like, nat_tests}
use Rattle.std.proofs.lemmas.Slice.Eq.{bytes_eq-Decides, slice_eq-Decides}
use Rattle.ftd_csv.specs.declared.reading.TheConstants.{MOST_BYTES}
use Rattle.ftd_csv.specs.Places.{Opens}
use Rattle.ftd_csv.specs.Records.{HasHeader, rows_of}
use Rattle.ftd_csv.specs.Sheets.{header_row}
use Rattle.ftd_csv.specs.declared.sheets.Sheet.{Sheet}
use Rattle.ftd_csv.specs.declared.reading.Records.{Records}
use Rattle.ftd_csv.specs.Hints.{begins_with_header, has_records, record_hints}
use Rattle.ftd_csv.specs.Hints.{row_hint}
use Rattle.ftd_csv.specs.HintPlaces.{hints_left}

header_decides : (kind : Sheet) (rows : List (List (List ℕ)))
    → Decides (begins_with_header kind rows) (slice_get rows 0 ≡ Some (header_row kind))
header_decides kind [] = (λ e. cc, λ e. cc)
header_decides kind (first ∷ rows) =
    Decides-like (pointwise bytes_eq first (header_row kind)) (λ e. ap Some e) (λ e. cc)
    (slice_eq-Decides bytes_eq-Decides first (header_row kind)
    (pointwise bytes_eq first (header_row kind)) refl)

length_decides : (count most : ℕ) → Decides (nat_le count most) (count ≤ most)
length_decides count most = (λ e. grind (arith, nat_tests), λ h. grind (arith, nat_tests))

-- the test says whether the text is short enough and has the header
pub records_decide : (kind : Sheet) (text : List ℕ)
    → Decides (has_records kind text) ((length text ≤ MOST_BYTES) × HasHeader kind text)
records_decide kind text =
    Decides-and _ _ (length_decides (length text) MOST_BYTES) (header_decides kind (rows_of text))

is_false : {P : Type 0} (b : Bool) → Decides b P → ¬ P → b ≡ false
is_false true d n = absurd (n (d.0 refl))
is_false false d n = refl

none_taken : (kind : Sheet) (most : ℕ) → flat_map (row_hint kind) (take most []) ≡ []
none_taken kind zero = refl
none_taken kind (suc most) = refl

-- a text with no records has no hints
pub no_hints : (kind : Sheet) (most : ℕ) (text : List ℕ)
    → ¬ ((length text ≤ MOST_BYTES) × HasHeader kind text) → record_hints kind most text ≡ []
unfolding record_hints
no_hints kind most text none =
    let no = is_false (has_records kind text) (records_decide kind text) none in
    rw no (none_taken kind most)

-- the hints of a text are those that its reader has left at first
pub all_left : (kind : Sheet) (most : ℕ) (text : List ℕ) (records : Records)
    → Opens kind text records → record_hints kind most text ≡ hints_left most records
unfolding record_hints
all_left kind most text records opens =
    let yes = (records_decide kind text).1 (opens.short, opens.header) in
    rw (yes, opens.rows, opens.number, opens.sheet) refl
