-- The hint of a text whose first record is not the header.
use Rattle.std.specs.Prelude.{ℕ, ◌==◌, ◌||◌, Bool, List, [], ◌∷◌, ◌++◌, codes, drop}
use Rattle.std.specs.List.{before_first, join_with_byte, prefix_len}
use Rattle.csv.specs.Reading.{strip_bom}
use Rattle.ftd_csv.specs.Sheets.{header_row}
use Rattle.ftd_csv.specs.declared.sheets.Sheet.{Sheet}
use Rattle.ftd_csv.specs.Shown.{shown}

-- CR and LF end a line
abbrev pub is_line_end : ℕ → Bool
is_line_end byte = (byte == 13) || (byte == 10)

-- what stands behind the line ends that a text begins with
abbrev pub from_line : List ℕ → List ℕ
from_line text = drop (prefix_len is_line_end text) text

-- the first line of a text that is not empty, without a byte order mark at the text's start, and
-- without its end
abbrev pub first_line : List ℕ → List ℕ
first_line text = before_first is_line_end (from_line (strip_bom text))

-- what is said of it
abbrev pub line_text : List ℕ → List ℕ
line_text [] = codes "the text is empty"
line_text (byte ∷ line) = codes "not " ++ shown (byte ∷ line)

-- the header of a sheet, as it is written: its fields with one comma between
abbrev pub header_text : Sheet → List ℕ
header_text kind = join_with_byte 44 (header_row kind)

-- `hint: the header is employer,run,payday,fit,ss,medicare, and not emp,run,payday`
unfoldable pub header_hint : Sheet → List ℕ → List ℕ
header_hint kind text =
    codes "hint: the header is " ++ (header_text kind ++ (codes ", and "
    ++ (line_text (first_line text) ++ 10 ∷ [])))
