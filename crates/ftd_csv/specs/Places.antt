-- Where a reader of the records of a text stands.
use Rattle.std.specs.Prelude.{◌≡◌, ◌<◌, ◌≤◌, ◌+◌, ◌^◌, ◌∷◌, ℕ, List, length, map}
use Rattle.csv.specs.Records.{fields_of}
use Rattle.ftd_csv.specs.declared.reading.TheConstants.{MOST_BYTES}
use Rattle.ftd_csv.specs.Records.{HasHeader, entry_in, numbered_from, record_rows}
use Rattle.ftd_csv.specs.Rows.{IsReading, rows_left}
use Rattle.ftd_csv.specs.declared.entries.Content.{Content}
use Rattle.ftd_csv.specs.declared.reading.Records.{Records}
use Rattle.ftd_csv.specs.declared.sheets.Sheet.{Sheet}

-- what the records are of
abbrev pub sheet_of : Records → Sheet
sheet_of records = records.sheet

-- the record at which it stands: its number and its fields, and the rows of those after it
abbrev pub number_of : Records → ℕ
number_of records = records.number

abbrev pub fields_at : Records → List (List ℕ)
fields_at records = fields_of records.row

abbrev pub rows_after : Records → List (List (List ℕ))
rows_after records = rows_left records.reader

-- what that record says, and what those after it say
abbrev pub said_at : Records → Content
said_at records = entry_in (sheet_of records) (fields_at records)

abbrev pub said_left : Records → List Content
said_left records = map (entry_in (sheet_of records)) (rows_after records)

-- each with its number
abbrev pub place_of : Records → ℕ × Content
place_of records = (number_of records, said_at records)

abbrev pub records_left : Records → List (ℕ × Content)
records_left records = numbered_from (number_of records + 1) (said_left records)

-- it may be asked for the next record
pub record CanAdvance (records : Records) : Type 0 where
  pub reading : IsReading records.reader
  pub fits : number_of records + length (rows_after records) < 2 ^ 31

-- it went on to the next record, which has the next number
pub record Advances (old new : Records) : Type 0 where
  pub can : CanAdvance new
  pub sheet : sheet_of new ≡ sheet_of old
  pub number : number_of new ≡ number_of old + 1
  pub rows : rows_after old ≡ fields_at new ∷ rows_after new

-- these are the records of the text, which is not too long and has the sheet's header. Records are
-- numbered from 1, and the header is record 1.
pub record Opens (kind : Sheet) (text : List ℕ) (records : Records) : Type 0 where
  pub short : length text ≤ MOST_BYTES
  pub header : HasHeader kind text
  pub sheet : sheet_of records ≡ kind
  pub number : number_of records ≡ 1
  pub rows : rows_after records ≡ record_rows text
  pub can : CanAdvance records
