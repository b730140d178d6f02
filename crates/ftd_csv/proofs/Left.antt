-- What the records that are left say, from one to the next.
use Rattle.std.proofs.Common.{◌≡◌, ◌∙◌, ◌∷◌, ℕ, List, map, ap, sym, refl}
use Rattle.ftd_csv.specs.Places.{Advances, Opens, fields_at, place_of, records_left, rows_after}
use Rattle.ftd_csv.specs.Places.{said_at, said_left, sheet_of}
use Rattle.ftd_csv.specs.Records.{entry_in, numbered_from, records_of}
use Rattle.ftd_csv.specs.declared.reading.Records.{Records}
use Rattle.ftd_csv.specs.declared.sheets.Sheet.{Sheet}

-- the record to which it went on is the first of those that were left
pub said_next : (old new : Records) → Advances old new
    → said_left old ≡ said_at new ∷ said_left new
said_next old new goes =
    ap (λ (rows : List (List (List ℕ))). map (entry_in (sheet_of old)) rows) goes.rows
    ∙ ap (λ (kind : Sheet). entry_in kind (fields_at new) ∷ map (entry_in kind) (rows_after new))
    (sym goes.sheet)

pub records_next : (old new : Records) → Advances old new
    → records_left old ≡ place_of new ∷ records_left new
records_next old new goes = rw (said_next old new goes, goes.number) refl

-- those of a text before the first
pub said_first : (kind : Sheet) (text : List ℕ) (records : Records) → Opens kind text records
    → said_left records ≡ records_of kind text
said_first kind text records opens = rw (opens.sheet, opens.rows) refl

pub records_first : (kind : Sheet) (text : List ℕ) (records : Records) → Opens kind text records
    → records_left records ≡ numbered_from 2 (records_of kind text)
records_first kind text records opens = rw (opens.number, said_first kind text records opens) refl
